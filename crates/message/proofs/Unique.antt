-- No second answer: of spreading and of gathering, two results that meet the contract are equal.
-- The contracts are those of src/ themselves, as the check reads them: a weaker one has no such theorem.
use Rattle.laws.specs.Answers.OneAnswer.{OneResult, one_answer}
use Rattle.word.specs.Unique.{word_injective}
use Rattle.message.proofs.spread.Reads as spread
use Rattle.message.proofs.gather.Reads as gather

pub spread_unique : OneResult spread.Learnt
spread_unique κs a r s v w p q = word_injective r s (one_answer p q)

pub gather_unique : OneResult gather.Learnt
gather_unique κs a r s v w p q = word_injective r s (one_answer p q)
