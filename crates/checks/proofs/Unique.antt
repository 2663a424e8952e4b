-- No second answer: of each public function, two results that meet its contract are equal.
-- The contracts are those of src/ themselves, as the check reads them: a weaker one has no such theorem.
use Rattle.laws.specs.Answers.OneAnswer.{OneResult, one_answer}
use Rattle.checks.specs.Unique.{verdict_injective}
use Rattle.checks.proofs.code.Reads as code
use Rattle.checks.proofs.folded.Reads as folded

-- of the tests of a code
pub code_unique : OneResult code.Learnt
code_unique κs a r s v w p q = verdict_injective r s (one_answer p q)

-- and of those of a code and a folding
pub folded_unique : OneResult folded.Learnt
folded_unique κs a r s v w p q = verdict_injective r s (one_answer p q)
