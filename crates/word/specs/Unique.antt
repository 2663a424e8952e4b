-- The reading of a word determines the word.
use Rattle.std.specs.Prelude.{◌≡◌}
use Rattle.std.proofs.Common.{ap}
use Rattle.word.specs.declared.Word.{Word}
use Rattle.word.specs.Words.{word_of}

pub word_injective : (r s : Word) → word_of r ≡ word_of s → r ≡ s
unfolding word_of
word_injective r s e = ap (λ (b : _). record { bits = b }) e
