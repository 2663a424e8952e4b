-- No second answer: two ends of a walk that meet its contract say the same of the allowance, and where it was not used up of the
-- best word, its distance and the visits.
-- The contract is that of src/ itself, as the check reads it: a weaker one has no such theorem.
use mathlib.Core.Path.{◌≡◌}
use Rattle.laws.specs.Answers.OneAnswer.{Agreed, one_answer}
use Rattle.walk.specs.States.{state_of}
use Rattle.walk.proofs.Walk.walk.Reads as walk

pub walk_unique : Agreed (λ κs a r s. state_of r ≡ state_of s) walk.Learnt
walk_unique κs a r s v w p q = one_answer p q
