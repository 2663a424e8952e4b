-- No second answer: two levels of a sample that meet the contract are equal.
-- The contract is that of src/ itself, as the check reads it: a weaker one has no such theorem.
use Rattle.laws.specs.Answers.OneAnswer.{OneResult, one_answer}
use Rattle.sample.specs.Unique.{quantised_injective}
use Rattle.sample.proofs.level.Reads as level

pub level_unique : OneResult level.Learnt
level_unique κs a r s v w p q = quantised_injective r s (one_answer p q)
