-- No second answer: two results that meet a contract agree in all that a walk reads of them. What a table has past the groups, or
-- past the patterns of a group, is left open.
-- The contracts are those of src/ themselves, as the check reads them: a weaker one has no such theorem.
use Prim.Native.Nat.{ℕ, ◌^◌, ◌<◌}
use mathlib.Core.Path.{◌≡◌}
use mathlib.Core.List.{List}
use lib.ListN.{take}
use Rattle.laws.specs.Answers.OneAnswer.{Agreed, OneResult, one_answer}
use Rattle.word.specs.declared.Word.{Word}
use Rattle.word.specs.Words.{word_at}
use Rattle.groups.specs.Unique.{tree_injective}
use Rattle.groups.proofs.folded.Reads as folded
use Rattle.groups.proofs.seat.seats.Reads as seats
use Rattle.groups.proofs.layout.Layout.shut.Reads as shut
use Rattle.groups.proofs.layout.Layout.covered.Reads as covered
use Rattle.groups.proofs.layout.Layout.changes.Reads as changes

-- the first m words of both are the same
abbrev pub SameWords : ℕ → List Word → List Word → Type 0
SameWords m r s = (k : ℕ) → k < m → word_at r k ≡ word_at s k

pub folded_unique : OneResult folded.Learnt
folded_unique κs a r s v w p q = tree_injective r s p.3 q.3 (one_answer p.0 q.0) (one_answer p.1 q.1) (one_answer p.2 q.2)

pub seats_unique : Agreed (λ κs a r s. take (2 ^ a.0) r ≡ take (2 ^ a.0) s) seats.Learnt
seats_unique κs a r s v w p q = one_answer p.listed q.listed

-- the layout is the first argument, and the only one of the others
pub shut_unique : Agreed (λ κs a r s. SameWords a.0.now.tree.groups r s) shut.Learnt
shut_unique κs a r s v w p q k l = one_answer (p k l) (q k l)

pub covered_unique : Agreed (λ κs a r s. SameWords a.0.now.tree.groups r s) covered.Learnt
covered_unique κs a r s v w p q k l = one_answer (p k l) (q k l)

pub changes_unique : Agreed (λ κs a r s. SameWords (2 ^ a.0.now.tree.size) r s) changes.Learnt
changes_unique κs a r s v w p q k l = one_answer (p k l) (q k l)
