-- Each reading of this crate determines what is read.
use Rattle.std.specs.Prelude.{ℕ, ◌≡◌, Result, Option}
use Rattle.std.proofs.Common.{ap}
use Rattle.rules.specs.Answers as rules
use Rattle.refusal.specs.declared.Refusal.{Refusal}
use Rattle.refusal.specs.Results.{answer_by_injective}
use Rattle.word.specs.Options.{option_of, option_injective}
use Rattle.word.specs.Unique.{word_injective}
use Rattle.code.specs.Reading.{code_of, made_of, guarded_of, words_of, encoded_of}
use Rattle.code.specs.Made.{NumberAndMask}
use Rattle.code.specs.declared.Code.{Code}
use Rattle.code.specs.declared.Encoded.{Encoded}

pub code_injective : (r s : Code) → code_of r ≡ code_of s → r ≡ s
code_injective r s same i =
    record { n = (same i).n; frozen = word_injective r.frozen s.frozen (ap (λ (k : NumberAndMask). k.mask) same) i }

pub made_injective : (r s : Result Code Refusal) → made_of r ≡ made_of s → r ≡ s
made_injective = answer_by_injective code_of code_injective

pub guarded_injective : (r s : Result (Option ℕ) Refusal) → guarded_of r ≡ guarded_of s → r ≡ s
guarded_injective = answer_by_injective option_of option_injective

-- two pairs of words with one reading are equal
pub words_injective : (r s : Encoded) → words_of r ≡ words_of s → r ≡ s
words_injective r s same i =
    record {
      d = word_injective r.d s.d (ap (λ (w : rules.Encoded). w.d) same) i;
      x = word_injective r.x s.x (ap (λ (w : rules.Encoded). w.x) same) i;
    }

pub encoded_injective : (r s : Result Encoded Refusal) → encoded_of r ≡ encoded_of s → r ≡ s
encoded_injective = answer_by_injective words_of words_injective
