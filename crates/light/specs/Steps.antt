-- What the private steps of taking a reading promise.
use Rattle.std.specs.Prelude.{ℕ, ◌+◌, ◌^◌, ◌≡◌, Bool, ◌||◌, ltb, ℤ, Float, set, Result, Ok, Err}
use Rattle.std.proofs.Math.Option.{some, none}
use Rattle.rules.specs.Assembling as rules
use Rattle.rules.specs.Refusals.{Answer, answer, is_wrong_size}
use Rattle.rules.specs.Orders.{take_order}
use Rattle.rules.specs.Sample.{level_of}
use Rattle.refusal.specs.declared.Refusal.{Refusal}
use Rattle.refusal.specs.declared.Refusal.TheVariants.{NotFinite}
use Rattle.light.specs.declared.Assembler.{Assembler}

-- an assembler of this n with so many slots filled is refused
abbrev pub is_wrong : ℕ → ℕ → Bool
is_wrong n filled = is_wrong_size n || ltb (2 ^ n) filled

-- r is the assembler a with its next slot filled
pub record Fills (a : Assembler) (level : ℤ) (r : Assembler) : Type 0 where
  pub size : r.n ≡ a.n
  pub count : r.filled ≡ a.filled + 1
  pub stored : r.levels ≡ set a.levels a.filled level

-- r is the level of a sample, or refusal 11 with the sample's place
abbrev pub LevelAt : Float → ℕ → Result ℤ Refusal → Type 0
LevelAt s place (Ok z) = level_of s ≡ some z
LevelAt s place (Err r) = (level_of s ≡ none) × (r ≡ NotFinite place)

-- what taking a reading answers, with the assembler that a success hands back
abbrev pub taken_answer : rules.Assembler → rules.Reading → Answer rules.Assembler
taken_answer a reading = answer (take_order a reading) (rules.take_reading a reading)
