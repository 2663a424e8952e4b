-- No second answer: of each public function, two results that meet its contract are equal; of encoding to levels the slice too.
-- The contracts are those of src/ themselves, as the check reads them: a weaker one has no such theorem.
use Rattle.laws.specs.Answers.OneAnswer.{OneResult, OneOutcome, one_answer}
use Rattle.code.specs.Unique.{code_injective, made_injective, guarded_injective, encoded_injective}
use Rattle.code.proofs.Code.reed_muller.Reads as reed_muller
use Rattle.code.proofs.Code.new.Reads as new
use Rattle.code.proofs.Code.guard.Reads as guard
use Rattle.code.proofs.encode.Reads as encode
use Rattle.code.proofs.levels.encode_levels.Reads as encode_levels

pub reed_muller_unique : OneResult reed_muller.Learnt
reed_muller_unique κs a r s v w p q = code_injective r s (one_answer p q)

pub new_unique : OneResult new.Learnt
new_unique κs a r s v w p q = made_injective r s (one_answer p q)

pub guard_unique : OneResult guard.Learnt
guard_unique κs a r s v w p q = guarded_injective r s (one_answer p q)

pub encode_unique : OneResult encode.Learnt
encode_unique κs a r s v w p q = encoded_injective r s (one_answer p q)

-- the slice is the third argument
pub encode_levels_unique : OneOutcome (λ κs v. v.1.1.0.now) encode_levels.Learnt
encode_levels_unique κs a r s v w p q = (encoded_injective r s (one_answer p.0 q.0), one_answer p.1 q.1)
