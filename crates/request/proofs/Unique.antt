-- No second answer: of each public function, two results that meet its contract are equal, and of `write` the buffers too.
-- The contracts are those of src/ themselves, as the check reads them: a weaker one has no such theorem.
use Rattle.laws.specs.Answers.OneAnswer.{OneResult, OneOutcome, one_answer}
use Rattle.request.specs.Unique.{asked_injective}
use Rattle.request.specs.Writing.{one_wrote}
use Rattle.request.proofs.read.Reads as read
use Rattle.request.proofs.written.write.Reads as write

pub read_unique : OneResult read.Learnt
read_unique κs a r s v w p q = asked_injective r s (one_answer p q)

-- the buffer is the second argument
pub write_unique : OneOutcome (λ κs v. v.1.0.now) write.Learnt
write_unique κs a r s v w p q = one_wrote p q
