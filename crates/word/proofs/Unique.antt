-- No second answer: of each public function, two results that meet its contract are equal.
-- The contracts are those of src/ themselves, as the check reads them: a weaker one has no such theorem.
use Rattle.laws.specs.Answers.OneAnswer.{OneResult, one_answer}
use Rattle.word.specs.Options.{option_injective}
use Rattle.word.specs.Unique.{word_injective}
use Rattle.word.proofs.Word.none.Reads as none
use Rattle.word.proofs.WordFromU64.from.Reads as of
use Rattle.word.proofs.U64FromWord.from.Reads as low
use Rattle.word.proofs.wrong_size.Reads as wrong_size
use Rattle.word.proofs.slots.Reads as slots
use Rattle.word.proofs.Word.bit.Reads as bit
use Rattle.word.proofs.WordBitXor.bitxor.Reads as xor
use Rattle.word.proofs.WordBitAnd.bitand.Reads as common
use Rattle.word.proofs.Word.less.Reads as less
use Rattle.word.proofs.Word.single.Reads as single
use Rattle.word.proofs.Word.above.Reads as above
use Rattle.word.proofs.Word.copies.Reads as copies
use Rattle.word.proofs.Word.ones.Reads as ones
use Rattle.word.proofs.count.folding_size.Reads as folding_size
use Rattle.word.proofs.Word.reaches.Reads as reaches
use Rattle.word.proofs.count.unfrozen.Reads as unfrozen
use Rattle.word.proofs.count.fewest_ones.Reads as fewest_ones

pub none_unique : OneResult none.Learnt
none_unique κs a r s v w p q = word_injective r s (one_answer p q)

pub of_unique : OneResult of.Learnt
of_unique κs a r s v w p q = word_injective r s (one_answer p q)

pub low_unique : OneResult low.Learnt
low_unique κs a r s v w p q = one_answer p q

pub wrong_size_unique : OneResult wrong_size.Learnt
wrong_size_unique κs a r s v w p q = one_answer p q

pub slots_unique : OneResult slots.Learnt
slots_unique κs a r s v w p q = one_answer p q

pub bit_unique : OneResult bit.Learnt
bit_unique κs a r s v w p q = one_answer p q

pub xor_unique : OneResult xor.Learnt
xor_unique κs a r s v w p q = word_injective r s (one_answer p q)

pub common_unique : OneResult common.Learnt
common_unique κs a r s v w p q = word_injective r s (one_answer p q)

pub less_unique : OneResult less.Learnt
less_unique κs a r s v w p q = one_answer p q

pub single_unique : OneResult single.Learnt
single_unique κs a r s v w p q = word_injective r s (one_answer p q)

pub above_unique : OneResult above.Learnt
above_unique κs a r s v w p q = word_injective r s (one_answer p q)

pub copies_unique : OneResult copies.Learnt
copies_unique κs a r s v w p q = word_injective r s (one_answer p q)

pub ones_unique : OneResult ones.Learnt
ones_unique κs a r s v w p q = one_answer p q

pub folding_size_unique : OneResult folding_size.Learnt
folding_size_unique κs a r s v w p q = one_answer p q

pub reaches_unique : OneResult reaches.Learnt
reaches_unique κs a r s v w p q = one_answer p q

pub unfrozen_unique : OneResult unfrozen.Learnt
unfrozen_unique κs a r s v w p q = one_answer p q

pub fewest_ones_unique : OneResult fewest_ones.Learnt
fewest_ones_unique κs a r s v w p q = option_injective r s (one_answer p q)
