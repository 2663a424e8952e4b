-- No second answer: of each public function, two results that meet its contract are equal, and so are the buffers.
-- The contracts are those of src/ themselves, as the check reads them: a weaker one has no such theorem.
use Rattle.laws.specs.Answers.OneAnswer.{OneOutcome}
use Rattle.text.specs.Puts.{one_put}
use Rattle.text.proofs.bytes.Reads as bytes
use Rattle.text.proofs.decimal.Reads as decimal
use Rattle.text.proofs.spaced.Reads as spaced
use Rattle.text.proofs.hex.Reads as hex

-- the buffer is the first argument of each
pub bytes_unique : OneOutcome (λ κs v. v.0.now) bytes.Learnt
bytes_unique κs a r s v w p q = one_put p q

pub decimal_unique : OneOutcome (λ κs v. v.0.now) decimal.Learnt
decimal_unique κs a r s v w p q = one_put p q

pub spaced_unique : OneOutcome (λ κs v. v.0.now) spaced.Learnt
spaced_unique κs a r s v w p q = one_put p q

pub hex_unique : OneOutcome (λ κs v. v.0.now) hex.Learnt
hex_unique κs a r s v w p q = one_put p q
