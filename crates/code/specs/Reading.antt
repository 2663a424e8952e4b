-- Each answer of this crate as an answer of the rules.
use Rattle.std.specs.Prelude.{ℕ, Result, Option}
use Rattle.std.proofs.Math.Option as rules
use Rattle.rules.specs.Refusals.{Answer}
use Rattle.rules.specs.Answers as answers
use Rattle.refusal.specs.declared.Refusal.{Refusal}
use Rattle.refusal.specs.Results.{answer_by}
use Rattle.word.specs.Words.{word_of}
use Rattle.word.specs.Options.{option_of}
use Rattle.code.specs.Made.{NumberAndMask}
use Rattle.code.specs.declared.Code.{Code}
use Rattle.code.specs.declared.Encoded.{Encoded}

abbrev pub code_of : Code → NumberAndMask
code_of code = record { n = code.n; mask = word_of code.frozen }

abbrev pub made_of : Result Code Refusal → Answer NumberAndMask
made_of = answer_by code_of

abbrev pub guarded_of : Result (Option ℕ) Refusal → Answer (rules.Option ℕ)
guarded_of = answer_by option_of

-- the words of a message
abbrev pub words_of : Encoded → answers.Encoded
words_of encoded = record { d = word_of encoded.d; x = word_of encoded.x }

abbrev pub encoded_of : Result Encoded Refusal → Answer answers.Encoded
encoded_of = answer_by words_of
