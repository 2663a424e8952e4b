-- How the level of a sample reads as an answer of the rules, and what the private steps to it promise.
use Rattle.std.specs.Prelude.{ℕ, ◌*◌, ◌≡◌, Bool, false, [], ◌∷◌, T, leb, ℤ, Float, Option, Some, None}
use Rattle.std.specs.Float.{nan, inf, fin, binary32}
use Rattle.std.specs.Float.Ieee.{up, down, fits}
use Rattle.rules.specs.Sample.{nearest_whole, level_of}
use Rattle.rules.specs.Refusals.{Answer, refused, done}

-- the level, or refusal 11, which names sample 0
abbrev pub quantised_of : Option ℤ → Answer ℤ
quantised_of (Some z) = done z
quantised_of None = refused (record { number = 11; values = 0 ∷ [] })

-- x is a number of magnitude at most k
abbrev pub within : ℕ → Float → Bool
within k nan = false
within k (inf s) = false
within k (fin s m e) = leb (m * up e) (k * down e)

-- the whole number nearest to the magnitude of x
unfoldable pub whole_of : Float → ℕ
whole_of nan = 0
whole_of (inf s) = 0
whole_of (fin s m e) = nearest_whole (m * up e) (down e)

-- r has the level of s, and lies within the magnitude k
pub record Near (k : ℕ) (s r : Float) : Type 0 where
  pub same : level_of r ≡ level_of s
  pub held : T (fits binary32 r)
  pub inside : T (within k r)
