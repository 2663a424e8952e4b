-- The order of reading, 13, 1, 12 and then the tests of the code and the folding, from each of its tests on, and what the rules still
-- answer after each test that was passed.
use Prim.Native.Nat.{ℕ, ◌^◌, ◌≤◌}
use mathlib.Core.Path.{◌≡◌, ◌∙◌}
use mathlib.Core.Bool.{true, false, not}
use mathlib.Core.Option.{Option}
use mathlib.Core.List.{List, ◌∷◌}
use lib.Dec.{ltb}
use lib.ListN.{length}
use borrow.Author.Tests.{le-ltb}
use Rattle.rules.specs.Refusals.{Refusal, answer, refuse, is_wrong_size}
use Rattle.rules.specs.Orders.{folded_order}
use Rattle.rules.specs.Record.{number_at, record_bytes, fields_of, not_zero, read_answer}
use Rattle.laws.specs.Answers.Records.{read_parts}
use Rattle.record.specs.Reading.{zeros_at}

-- what the tests are of
abbrev pub size_at : List ℕ → ℕ
size_at bytes = number_at bytes 0 1

abbrev pub mask_at : List ℕ → ℕ
mask_at bytes = number_at bytes 8 8

abbrev pub folding_at : List ℕ → ℕ
folding_at bytes = number_at bytes 1 1

-- the order from each test on
abbrev pub from_code : List ℕ → List (Option Refusal)
from_code bytes = folded_order (size_at bytes) (mask_at bytes) (folding_at bytes)

abbrev pub from12 : List ℕ → List (Option Refusal)
from12 bytes = refuse 12 (not (zeros_at bytes (2 ^ size_at bytes))) ∷ from_code bytes

abbrev pub from1 : List ℕ → List (Option Refusal)
from1 bytes = refuse 1 (is_wrong_size (size_at bytes)) ∷ from12 bytes

-- the whole order
pub from_13 : (bytes : List ℕ) → read_answer bytes ≡ answer (refuse 13 (ltb (length bytes) record_bytes) ∷ from1 bytes) (fields_of bytes)
unfolding read_answer fields_of not_zero
from_13 bytes = read_parts bytes (fields_of bytes)

-- what the rules still answer after each test that was passed
pub after13 : (bytes : List ℕ) → 144 ≤ length bytes → read_answer bytes ≡ answer (from1 bytes) (fields_of bytes)
after13 bytes long = from_13 bytes ∙ rw (le-ltb _ 144 long)

pub after1 : (bytes : List ℕ) → 144 ≤ length bytes → is_wrong_size (size_at bytes) ≡ false
    → read_answer bytes ≡ answer (from12 bytes) (fields_of bytes)
after1 bytes long right = after13 bytes long ∙ rw right

pub after12 : (bytes : List ℕ) → 144 ≤ length bytes → is_wrong_size (size_at bytes) ≡ false → zeros_at bytes (2 ^ size_at bytes) ≡ true
    → read_answer bytes ≡ answer (from_code bytes) (fields_of bytes)
after12 bytes long right zeros = after1 bytes long right ∙ rw zeros
