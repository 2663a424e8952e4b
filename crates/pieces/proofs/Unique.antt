-- No second answer: of each public function, two results that meet its contract are equal, and of `write` both buffers too.
-- The contracts are those of src/ themselves, as the check reads them: a weaker one has no such theorem.
use Prim.Native.Nat.{ℕ}
use mathlib.Core.List.{List}
use Rattle.laws.specs.Answers.OneAnswer.{OneResult, OneOutcome, one_answer}
use Rattle.pieces.specs.Pieces.{one_piece}
use Rattle.pieces.proofs.Program.size.Reads as size
use Rattle.pieces.proofs.write.Reads as write

pub size_unique : OneResult size.Learnt
size_unique κs a r s v w p q = one_answer p q

-- the buffers are the fourth argument and the fifth
pub write_unique : OneOutcome {M = List ℕ × List ℕ} (λ κs v. (v.1.1.1.0.now, v.1.1.1.1.0.now)) write.Learnt
write_unique κs a r s v w p q =
    let same = one_piece _ _ _ _ _ p q in
    (same.0, λ i. (same.1 i, same.2 i))
