-- No second answer: of each public function, two results that meet its contract are equal, and of `put` the buffers too.
-- The contracts are those of src/ themselves, as the check reads them: a weaker one has no such theorem.
use Rattle.laws.specs.Answers.OneAnswer.{OneResult, OneOutcome, one_answer}
use Rattle.tree.specs.Unique.{answer_injective}
use Rattle.text.specs.Puts.{one_put}
use Rattle.lines.proofs.block.decode.Reads as decode
use Rattle.lines.proofs.put.Reads as put

pub decode_unique : OneResult decode.Learnt
decode_unique κs a r s v w p q = answer_injective r s (one_answer p q)

-- the buffer is the first argument
pub put_unique : OneOutcome (λ κs v. v.0.now) put.Learnt
put_unique κs a r s v w p q = one_put p.put q.put
