-- No second answer: of each public function, two results that meet its contract are equal; of giving the levels out the slice too.
-- The contracts are those of src/ themselves, as the check reads them: a weaker one has no such theorem.
use Rattle.laws.specs.Answers.OneAnswer.{OneResult, OneOutcome}
use Rattle.light.specs.Unique.{one_start, one_taken, one_given}
use Rattle.light.proofs.Assembler.new.Reads as new
use Rattle.light.proofs.Assembler.take.Reads as take
use Rattle.light.proofs.Assembler.give.Reads as give

pub new_unique : OneResult new.Learnt
new_unique κs a r s v w p q = one_start _ r s p q

pub take_unique : OneResult take.Learnt
take_unique κs a r s v w p q = one_taken _ _ r s p q

-- the slice is the second argument
pub give_unique : OneOutcome (λ κs v. v.1.0.now) give.Learnt
give_unique κs a r s v w p q = one_given _ _ _ _ r s p q
