-- No second answer: of each public function, two results that meet its contract are equal.
-- The contracts are those of src/ themselves, as the check reads them: a weaker one has no such theorem.
use Rattle.laws.specs.Answers.OneAnswer.{OneResult, one_answer}
use Rattle.level.specs.Unique.{found_injective, measured_injective, slot_injective}
use Rattle.level.proofs.ideal.Reads as ideal
use Rattle.level.proofs.magnitude.Reads as magnitude
use Rattle.level.proofs.in_range.Reads as in_range
use Rattle.level.proofs.first_out_of_range.Reads as first_out_of_range
use Rattle.level.proofs.clipped.Reads as clipped
use Rattle.level.proofs.distance.Reads as distance
use Rattle.level.proofs.cost.slot.Reads as slot

pub ideal_unique : OneResult ideal.Learnt
ideal_unique κs a r s v w p q = one_answer p q

pub magnitude_unique : OneResult magnitude.Learnt
magnitude_unique κs a r s v w p q = one_answer p q

pub in_range_unique : OneResult in_range.Learnt
in_range_unique κs a r s v w p q = one_answer p q

pub first_out_of_range_unique : OneResult first_out_of_range.Learnt
first_out_of_range_unique κs a r s v w p q = found_injective r s (one_answer p.0 q.0)

pub clipped_unique : OneResult clipped.Learnt
clipped_unique κs a r s v w p q = one_answer p q

pub distance_unique : OneResult distance.Learnt
distance_unique κs a r s v w p q = measured_injective r s (one_answer p q)

pub slot_unique : OneResult slot.Learnt
slot_unique κs a r s v w p q =
    slot_injective r s (one_answer p.0 q.0) (one_answer p.1 q.1) (one_answer p.2 q.2)
