-- No second answer: two tables that meet the contract agree at each entry of each group. What stands past the groups' rows is
-- left open.
-- The contract is that of src/ itself, as the check reads it: a weaker one has no such theorem.
use Prim.Native.Nat.{ℕ, ◌^◌, ◌<◌}
use mathlib.Core.Path.{◌≡◌}
use mathlib.Core.List.{List}
use Rattle.laws.specs.Answers.OneAnswer.{Agreed, one_answer}
use Rattle.rows.specs.Table.{entry_at}
use Rattle.rows.specs.Adding.{RowsRight}
use Rattle.rows.proofs.rows.Reads as rows

-- at each entry of the first groups
abbrev pub SameRows : ℕ → ℕ → List (List ℕ) → List (List ℕ) → Type 0
SameRows groups size r s = (k j : ℕ) → k < groups → j < 2 ^ size → entry_at r size k j ≡ entry_at s size k j

-- the groups and their size are the second and the third argument
pub rows_unique : Agreed (λ κs a r s. SameRows a.1.0 a.1.1.0 r s) rows.Learnt
unfolding RowsRight
rows_unique κs a r s v w p q k j h l = one_answer (p k j h l) (q k j h l)
