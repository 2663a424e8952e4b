-- Document 01, "Refusal numbers", with K1 of document 02: each number with its test, and the first refusal of an order.
use Rattle.std.specs.Prelude.{ℕ, suc, ◌+◌, ◌-◌, ◌^◌, Bool, true, false, not, ◌||◌, List, [], ◌∷◌, ℤ, leb, ltb, eqb, length}
use Rattle.std.proofs.Math.Option.{Option, none, some}
use Rattle.std.specs.Int.Count.{ones}
use Rattle.rules.specs.Below.{first_below}
use Rattle.rules.specs.Word.{message_bits}
use Rattle.rules.specs.Level.{in_range, level_at}
use Rattle.rules.specs.Folding.{group, groups}
use Rattle.rules.specs.Walk.{fillings}
use Rattle.rules.specs.Assembling.{Assembler, Reading, slot_levels, slots_needed, first_without}

-- a refusal: its number, and what it names ("the first slot is named", "the level is named", "0 or 1 names the first such sample")
pub record Refusal : Type 0 where
  pub number : ℕ
  pub values : List ℕ

-- "A refusal carries no message, word, distance or count"
pub data Answer (A : Type 0) : Type 0 where
  refused : Refusal → Answer A
  done : A → Answer A

-- "Orders.": the first refusal of an order that is given; else the success
abbrev pub answer : {A : Type 0} → List (Option Refusal) → A → Answer A
answer [] success = done success
answer (none ∷ order) success = answer order success
answer (some refusal ∷ order) success = refused refusal

-- "lent buffers and the assembler stay unchanged": what stands there after an answer, refused or not
abbrev pub left : {A B : Type 0} → Answer A → B → B → B
left (refused refusal) before new = before
left (done success) before new = new

-- a refusal that names nothing
abbrev pub refuse : ℕ → Bool → Option Refusal
refuse number true = some (record { number = number; values = [] })
refuse number false = none

-- a refusal that names the first thing found
abbrev pub refuse_at : ℕ → Option ℕ → Option Refusal
refuse_at number none = none
refuse_at number (some value) = some (record { number = number; values = value ∷ [] })

-- "n from 1 to 6"
abbrev pub largest : ℕ
largest = 6

-- the test of "n is not 1..6"
abbrev pub is_wrong_size : ℕ → Bool
is_wrong_size n = ltb n 1 || ltb largest n

-- 1: "n is not 1..6"
abbrev pub wrong_size : ℕ → Option Refusal
wrong_size n = refuse 1 (is_wrong_size n)

-- 1: "or an assembler handed in has such an n or more than N slots filled"
abbrev pub wrong_assembler : Assembler → Option Refusal
wrong_assembler a = refuse 1 (is_wrong_size a.n || ltb (2 ^ a.n) a.filled)

-- 2: "a lent level slice is not N long"
abbrev pub wrong_length : ℕ → List ℤ → Option Refusal
wrong_length n slice = refuse 2 (not (eqb (length slice) (2 ^ n)))

-- 3: "frozen mask has a one at or above N"
abbrev pub wrong_mask : ℕ → ℕ → Option Refusal
wrong_mask n mask = refuse 3 (leb (2 ^ (2 ^ n)) mask)

-- 4: "folding has a one at or above n"
abbrev pub wrong_folding : ℕ → ℕ → Option Refusal
wrong_folding n folding = refuse 4 (leb (2 ^ n) folding)

-- 5: "folding has more than three ones"
abbrev pub wide_folding : ℕ → Option Refusal
wide_folding folding = refuse 5 (ltb 3 (ones folding))

-- 6: "a level lies outside", by K1 "outside -2047..2047"; "the first slot is named"
abbrev pub out_of_range : ℕ → List ℤ → Option Refusal
out_of_range n levels = refuse_at 6 (first_below (2 ^ n) (λ i. not (in_range (level_at levels i))))

-- whether a list has no element
abbrev pub is_empty : List ℕ → Bool
is_empty [] = true
is_empty (x ∷ xs) = false

-- 7: "a level of the tree has no candidate; the level is named". Levels count from 0 in the order in which they are decided,
-- so that level t decides the group numbered L - 1 - t. A group has a candidate for each
-- filling, and always the filling 0, so this is never given.
abbrev pub no_candidate : ℕ → ℕ → ℕ → Option Refusal
no_candidate n mask folding =
    refuse_at 7 (first_below (groups n folding) (λ t. is_empty (fillings mask (group n folding (groups n folding - suc t)))))

-- 8: "allowance too small": "If the next visit would pass it"; "An allowance equal to the walk's total finishes."
abbrev pub small_allowance : ℕ → ℕ → Option Refusal
small_allowance allowance total = refuse 8 (ltb allowance total)

-- 9: "message has a one at or above K"
abbrev pub wrong_message : ℕ → ℕ → ℕ → Option Refusal
wrong_message n mask message = refuse 9 (leb (2 ^ message_bits n mask) message)

-- 10: "reading needs more slots than are left"
abbrev pub no_room : Assembler → Reading → Option Refusal
no_room a reading = refuse 10 (ltb (2 ^ a.n) (a.filled + slots_needed reading))

-- 11: "a sample is NaN or infinite; 0 or 1 names the first such sample of the reading"
abbrev pub not_finite : Reading → Option Refusal
not_finite reading = refuse_at 11 (first_without (slot_levels reading) 0)

-- 14: "levels asked of an assembler not yet full"
abbrev pub not_full : Assembler → Option Refusal
not_full a = refuse 14 (ltb a.filled (2 ^ a.n))
