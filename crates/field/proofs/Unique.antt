-- No second answer: of each public function, two results that meet its contract are equal, and of `put` the buffers too.
-- The contracts are those of src/ themselves, as the check reads them: a weaker one has no such theorem.
use Rattle.laws.specs.Answers.OneAnswer.{OneResult, OneOutcome, one_answer}
use Rattle.text.specs.Puts.{one_put}
use Rattle.field.proofs.number.Reads as number
use Rattle.field.proofs.put.Reads as put

pub number_unique : OneResult number.Learnt
number_unique κs a r s v w p q = one_answer p.0 q.0

-- the buffer is the first argument
pub put_unique : OneOutcome (λ κs v. v.0.now) put.Learnt
put_unique κs a r s v w p q = one_put p q
