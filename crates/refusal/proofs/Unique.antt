-- No second answer: two numbers that meet the contract of `number` are equal.
-- The contract is that of src/ itself, as the check reads it: a weaker one has no such theorem.
use Rattle.laws.specs.Answers.OneAnswer.{OneResult, one_answer}
use Rattle.refusal.proofs.Refusal.number.Reads as number

pub number_unique : OneResult number.Learnt
number_unique κs a r s v w p q = one_answer p q
