-- What taking a reading answers, by the levels of its samples.
use Prim.Native.Nat.{◌+◌, ◌^◌, ◌≤◌, ◌<◌}
use mathlib.Core.Path.{◌≡◌, refl, ap, ◌∙◌}
use mathlib.Core.Bool.{false}
use mathlib.Core.List.{[], ◌∷◌}
use mathlib.Core.Option.{none, some}
use native.Mathlib.Numerals.{add-one}
use borrow.Author.Tests.{le-ltb}
use lib.IntN.{ℤ, pos}
use lib.Ieee.{Float}
use lib.ListN.{set}
use lib.Signed.{mag}
use mir.Syntax.{w32}
use mir.Val.{of_z, to_z}
use mir.ValLaws.{to_z-of_z}
use Rattle.rules.specs.Sample.{level_of}
use Rattle.rules.specs.Assembling.{Assembler, Reading, single, pair, erased, first_without, fill_slot, fill_slots, take_reading, slots_needed}
use Rattle.rules.specs.Refusals.{Answer, refused, done, answer, not_finite}
use Rattle.refusal.specs.Number.{refusal_of}
use Rattle.refusal.specs.declared.Refusal.TheVariants.{NotFinite}
use Rattle.light.specs.Values.{assembler_of}
use Rattle.light.specs.Steps.{is_wrong, Fills, taken_answer}
use Rattle.light.specs.declared.Assembler as code

-- a slot that the code filled with the level z, read back from its bits
pub slot_filled : (a b : code.Assembler) (z : ℤ) → mag z < 2 ^ 31 → Fills a (to_z w32 (of_z w32 z)) b
    → assembler_of b ≡ fill_slot (assembler_of a) z
slot_filled a b z h f =
    let back = to_z-of_z w32 z (record { sfits = h }) in
    λ i. record {
      n = f.size i;
      filled = (f.count ∙ add-one a.filled) i;
      levels = (f.stored ∙ ap (set a.levels a.filled) back) i;
    }

-- what a reading answers in an assembler that is right and has room
abbrev pub read : Assembler → Reading → Answer Assembler
read a reading = answer (not_finite reading ∷ []) (take_reading a reading)

module _ (a : Assembler) where
  pub single_done : (s : Float) (z : ℤ) → level_of s ≡ some z → done (fill_slot a z) ≡ read a (single s)
  unfolding first_without fill_slots
  single_done s z l = rw l

  pub single_refused : (s : Float) → level_of s ≡ none → refused (refusal_of (NotFinite 0)) ≡ read a (single s)
  unfolding first_without fill_slots
  single_refused s l = rw l

  pub first_refused : (s t : Float) → level_of s ≡ none → refused (refusal_of (NotFinite 0)) ≡ read a (pair s t)
  unfolding first_without fill_slots
  first_refused s t l = rw l

  pub second_refused : (s t : Float) (z : ℤ) → level_of s ≡ some z → level_of t ≡ none → refused (refusal_of (NotFinite 1)) ≡ read a (pair s t)
  unfolding first_without fill_slots
  second_refused s t z l m = rw (l, m)

  pub pair_done : (s t : Float) (y z : ℤ) → level_of s ≡ some y → level_of t ≡ some z → done (fill_slot (fill_slot a y) z) ≡ read a (pair s t)
  unfolding first_without fill_slots
  pair_done s t y z l m = rw (l, m)

  pub erased_done : done (fill_slot a (pos 0)) ≡ read a erased
  unfolding first_without fill_slots
  erased_done = refl

  -- it is what taking the reading answers
  pub room_left : (reading : Reading) → is_wrong a.n a.filled ≡ false → a.filled + slots_needed reading ≤ 2 ^ a.n
      → read a reading ≡ taken_answer a reading
  room_left reading w h = rw (w, le-ltb _ _ h)
