-- Law of assembling: from a new assembler, readings that are all finite and fill N slots, taken one after another, are all taken,
-- and what is given out are exactly the levels of those readings in order.
use Rattle.std.specs.Prelude.{ℕ, suc, ◌+◌, ◌^◌, ◌≤◌, ◌<◌, ◌≡◌, refl, false, ◌||◌, List, [], ◌∷◌, ◌++◌, map, ltb, ℤ, pos, length, take}
use Rattle.std.proofs.Common.{sym, ap, ◌∙◌, append-nil, append_assoc, arith, length-append, length-set, take-suc-set}
use Rattle.std.proofs.Math.Option.{Option, none, some, none-ne-some}
use Rattle.std.proofs.lemmas.List.{map-append, length-replicate}
use borrow.Author.Tests.{le-ltb, eq-eqb}
use Rattle.rules.specs.Assembling.{Assembler, Reading, slot_levels, slots_needed, first_without, start, fill_slot, fill_slots, take_reading}
use Rattle.rules.specs.Refusals.{done, is_wrong_size, not_finite}
use Rattle.rules.specs.Answers.{take_answer, take_left, give_answer, give_left}
use Rattle.laws.specs.Answers.Orders.{not_refused_at}

-- the assembler after readings are taken one after another
unfoldable pub take_all : Assembler → List Reading → Assembler
take_all a [] = a
take_all a (reading ∷ rest) = take_all (take_left a reading) rest

-- the levels of the slots of readings, in order
unfoldable pub slots_of : List Reading → List (Option ℤ)
slots_of [] = []
slots_of (reading ∷ rest) = slot_levels reading ++ slots_of rest

-- no reading has a sample that is NaN or infinite
unfoldable pub AllFinite : List Reading → Type 0
AllFinite [] = Unit {0}
AllFinite (reading ∷ rest) = (not_finite reading ≡ none) × AllFinite rest

-- no reading is refused
unfoldable pub AllTaken : Assembler → List Reading → Type 0
AllTaken a [] = Unit {0}
AllTaken a (reading ∷ rest) = (take_answer a reading ≡ done tt) × AllTaken (take_left a reading) rest

-- ---- what filling slots does

-- b is a with more slots filled
record Filled (a b : Assembler) (slots : List (Option ℤ)) : Type 0 where
  size : b.n ≡ a.n
  count : b.filled ≡ a.filled + length slots
  space : length b.levels ≡ length a.levels
  levels : map some (take b.filled b.levels) ≡ map some (take a.filled a.levels) ++ slots

none_filled : (a : Assembler) → Filled a a []
none_filled a = record { size = refl; count = omega arith; space = refl; levels = sym (append-nil _) }

then : (a b c : Assembler) (s t : List (Option ℤ)) → Filled a b s → Filled b c t → Filled a c (s ++ t)
then a b c s t p q =
    record {
      size = q.size ∙ p.size;
      count = omega (arith, p.count, q.count, length-append s t);
      space = q.space ∙ p.space;
      levels =
          q.levels ∙ ap (λ (l : List (Option ℤ)). l ++ t) p.levels ∙ append_assoc (map some (take a.filled a.levels)) s t;
    }

one_filled : (a : Assembler) (z : ℤ) → a.filled < length a.levels → Filled a (fill_slot a z) (some z ∷ [])
one_filled a z h =
    record {
      size = refl;
      count = omega arith;
      space = length-set a.levels a.filled z;
      levels = ap (map some) (take-suc-set a.levels a.filled z h) ∙ map-append some (take a.filled a.levels) (z ∷ []);
    }

fill_all : (slots : List (Option ℤ)) (k : ℕ) (a : Assembler) → first_without slots k ≡ none
    → a.filled + length slots ≤ length a.levels → Filled a (fill_slots a slots) slots
unfolding first_without fill_slots
fill_all [] k a f h = none_filled a
fill_all (none ∷ rest) k a f h = absurd (none-ne-some k (sym f))
fill_all (some z ∷ rest) k a f h =
    then a (fill_slot a z) (fill_slots (fill_slot a z) rest) (some z ∷ []) rest (one_filled a z (omega arith))
    (fill_all rest (suc k) (fill_slot a z) f (omega (arith, length-set a.levels a.filled z)))

-- ---- one reading

module _ (a : Assembler) (reading : Reading) (w : is_wrong_size a.n ≡ false) (f : not_finite reading ≡ none)
    (h : a.filled + slots_needed reading ≤ 2 ^ a.n) where
  right : (is_wrong_size a.n || ltb (2 ^ a.n) a.filled) ≡ false
  right = rw (w, le-ltb (2 ^ a.n) a.filled (omega arith))

  is_taken : take_answer a reading ≡ done tt
  unfolding take_answer
  is_taken = rw (right, le-ltb (2 ^ a.n) (a.filled + slots_needed reading) h, f)

  is_left : take_left a reading ≡ take_reading a reading
  unfolding take_left
  is_left = rw is_taken

  is_filled : 2 ^ a.n ≤ length a.levels → Filled a (take_left a reading) (slot_levels reading)
  is_filled r = rw is_left (fill_all (slot_levels reading) 0 a (not_refused_at 11 (first_without (slot_levels reading) 0) f) (omega arith))

-- ---- any list of readings

all_taken : (readings : List Reading) (a : Assembler) → is_wrong_size a.n ≡ false → 2 ^ a.n ≤ length a.levels
    → a.filled + length (slots_of readings) ≤ 2 ^ a.n → AllFinite readings
    → AllTaken a readings × Filled a (take_all a readings) (slots_of readings)
unfolding take_all slots_of AllFinite AllTaken
all_taken [] a w r h f = (tt, none_filled a)
all_taken (reading ∷ rest) a w r h f =
    let l = length-append (slot_levels reading) (slots_of rest) in
    let k : a.filled + slots_needed reading ≤ 2 ^ a.n = omega (arith, l) in
    let b = take_left a reading in
    let p = is_filled a reading w f.0 k r in
    let e : 2 ^ b.n ≡ 2 ^ a.n = ap (λ (n : ℕ). 2 ^ n) p.size in
    let v = ap is_wrong_size p.size ∙ w in
    let q = all_taken rest b v (omega (arith, e, p.space)) (omega (arith, e, p.count, l)) f.1 in
    ((is_taken a reading w f.0 k, q.0), then a b (take_all b rest) (slot_levels reading) (slots_of rest) p q.1)

-- every reading is taken, the levels are given out, and they are the levels of the readings in order
pub record Assembled (room n : ℕ) (readings : List Reading) (slice : List ℤ) : Type 0 where
  pub taken : AllTaken (start room n) readings
  pub given : give_answer (take_all (start room n) readings) slice ≡ done tt
  pub levels : map some (give_left (take_all (start room n) readings) slice) ≡ slots_of readings

module _ (b : Assembler) (slice : List ℤ) (w : is_wrong_size b.n ≡ false) (c : b.filled ≡ 2 ^ b.n)
    (l : length slice ≡ 2 ^ b.n) where
  is_given : give_answer b slice ≡ done tt
  unfolding give_answer
  is_given =
      rw
      (w, le-ltb (2 ^ b.n) b.filled (omega arith), le-ltb b.filled (2 ^ b.n) (omega arith), eq-eqb (length slice) (2 ^ b.n) l)

  is_out : give_left b slice ≡ take b.filled b.levels
  unfolding give_left
  is_out = rw (is_given, c)

pub assembled : (room n : ℕ) (readings : List Reading) (slice : List ℤ) → is_wrong_size n ≡ false → 2 ^ n ≤ room
    → length slice ≡ 2 ^ n
    → AllFinite readings → length (slots_of readings) ≡ 2 ^ n → Assembled room n readings slice
assembled room n readings slice w r l f h =
    let b = take_all (start room n) readings in
    let p = all_taken readings (start room n) w (omega (arith, length-replicate room (pos 0))) (omega arith) f in
    let e : 2 ^ b.n ≡ 2 ^ n = ap (λ (k : ℕ). 2 ^ k) p.1.size in
    let v = ap is_wrong_size p.1.size ∙ w in
    let c : b.filled ≡ 2 ^ b.n = omega (arith, e, p.1.count) in
    let m : length slice ≡ 2 ^ b.n = omega (arith, e) in
    record { taken = p.0; given = is_given b slice v c m; levels = ap (map some) (is_out b slice v c m) ∙ p.1.levels }
