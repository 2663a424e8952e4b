-- What the walk's state keeps: a distance of 32 bits is a best word's, a greater one says that there is none.
use Prim.Native.Nat.{◌^◌, ◌≤◌, ◌<◌}
use mathlib.Core.Path.{◌≡◌}
use borrow.Author.Tests.{lt-ltb, le-ltb}
use Rattle.rules.specs.Level.{nothing, best}
use Rattle.word.specs.Words.{word_of}
use Rattle.walk.specs.States.{kept_of}
use Rattle.walk.specs.declared.state.Walked.{Walked}

module _ (s : Walked) where
  pub has_best : s.distance < 2 ^ 32 → kept_of s ≡ best s.distance (word_of s.word)
  has_best h = rw (lt-ltb s.distance (2 ^ 32) h)

  pub no_best : 2 ^ 32 ≤ s.distance → kept_of s ≡ nothing
  no_best h = rw (le-ltb s.distance (2 ^ 32) h)
