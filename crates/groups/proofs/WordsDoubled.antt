-- What a list of words begins with, and begins with once its first words have been doubled.
use Prim.Native.Nat.{ℕ, ◌+◌, ◌<◌}
use mathlib.Core.Path.{◌≡◌, ap, ◌∙◌}
use mathlib.Core.List.{List}
use native.Mathlib.Nat.{le_dest}
use native.Mathlib.Decide.{dec_lt}
use native.Mathlib.Omega.{arith}
use Rattle.word.specs.declared.Word.{Word}
use Rattle.word.specs.Words.{word_of, past, word_at}
use Rattle.groups.specs.Doubling.{Doubled}

-- a list's first m words are those of a function of their places
abbrev pub Begins : List Word → (ℕ → ℕ) → ℕ → Type 0
Begins l F m = (u : ℕ) → u < m → word_at l u ≡ F u

-- and so are twice as many, where a step makes of each what that function has behind
pub begins_doubled : {before after : List Word} {m : ℕ} {step : Word → Word → Type 0} (F : ℕ → ℕ) → Doubled before after m step
    → ((u : ℕ) (w r : Word) → u < m → word_of w ≡ F u → step w r → word_of r ≡ F (m + u)) → Begins before F m → Begins after F (m + m)
begins_doubled {after = after} {m = m} F doubled behind begins u h = go (dec_lt u m)
  where
    upper : (d : ℕ) → d < m → word_at after (m + d) ≡ F (m + d)
    upper d l = behind d _ _ l (begins d l) (doubled.added d past l)

    go : Dec (u < m) → word_at after u ≡ F u
    go (yes l) = ap word_of (doubled.kept u past l) ∙ begins u l
    go (no above) = let d = le_dest {n = m} {m = u} (omega arith) in rw (← d.1) (upper d.0 (omega (arith, d.1)))
