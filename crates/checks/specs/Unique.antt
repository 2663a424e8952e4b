-- The reading of a verdict determines the verdict.
use Rattle.std.specs.Prelude.{◌≡◌, Result}
use Rattle.refusal.specs.declared.Refusal.{Refusal}
use Rattle.refusal.specs.Results.{answer_by_injective}
use Rattle.checks.specs.Verdicts.{verdict_of}

-- two verdicts with one reading are equal
pub verdict_injective : (r s : Result (Unit {0}) Refusal) → verdict_of r ≡ verdict_of s → r ≡ s
verdict_injective = answer_by_injective (λ success. success) (λ a b same. same)
