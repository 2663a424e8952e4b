-- Document 01, "From light to levels": readings, and the assembler as a state.
use Rattle.std.specs.Prelude.{ℕ, suc, ◌^◌, List, [], ◌∷◌, ℤ, pos, Float, length, take, set, replicate}
use Rattle.std.proofs.Math.Option.{Option, none, some}
use Rattle.rules.specs.Sample.{level_of}

-- "A reading is a single sample, a pair of samples, or an erased slot"; "A pair is an in-phase and a quadrature float"
pub data Reading : Type 0 where
  single : Float → Reading
  pair : Float → Float → Reading
  erased : Reading

-- the levels of a reading's slots in order, nothing for a sample that is refused:
-- "filling two slots in that order", "an erased slot gets level 0"
abbrev pub slot_levels : Reading → List (Option ℤ)
slot_levels (single s) = level_of s ∷ []
slot_levels (pair in_phase quadrature) = level_of in_phase ∷ level_of quadrature ∷ []
slot_levels erased = some (pos 0) ∷ []

-- the place of the first sample that has no level: "0 or 1 names the first such sample of the reading"
unfoldable pub first_without : List (Option ℤ) → ℕ → Option ℕ
first_without [] k = none
first_without (none ∷ rest) k = some k
first_without (some level ∷ rest) k = first_without rest (suc k)

-- an assembler: its n, how many slots are filled, and the levels it has room for
pub record Assembler : Type 0 where
  pub n : ℕ
  pub filled : ℕ
  pub levels : List ℤ

-- "An assembler for one n starts empty with every level 0"
abbrev pub start : ℕ → ℕ → Assembler
start room n = record { n = n; filled = 0; levels = replicate room (pos 0) }

-- the next slot filled with a level
abbrev pub fill_slot : Assembler → ℤ → Assembler
fill_slot a level = record { n = a.n; filled = suc a.filled; levels = set a.levels a.filled level }

-- the next slots filled with the levels of a reading; one with a sample that has no level is refused, so `none` is never met
unfoldable pub fill_slots : Assembler → List (Option ℤ) → Assembler
fill_slots a [] = a
fill_slots a (none ∷ rest) = fill_slots a rest
fill_slots a (some level ∷ rest) = fill_slots (fill_slot a level) rest

-- "takes readings, and hands back its new state"
abbrev pub take_reading : Assembler → Reading → Assembler
take_reading a reading = fill_slots a (slot_levels reading)

-- how many slots a reading needs: "A single fills one slot", a pair "two slots"
abbrev pub slots_needed : Reading → ℕ
slots_needed reading = length (slot_levels reading)

-- "When all N are filled it gives out the levels"
abbrev pub given_out : Assembler → List ℤ
given_out a = take (2 ^ a.n) a.levels
