-- A decoding's answer as an answer of the rules.
use Rattle.std.specs.Prelude.{Result}
use Rattle.rules.specs.Refusals.{Answer}
use Rattle.rules.specs.Answers as rules
use Rattle.refusal.specs.Results.{answer_by}
use Rattle.refusal.specs.declared.Refusal.{Refusal}
use Rattle.word.specs.Words.{word_of}
use Rattle.tree.specs.declared.Decoded.{Decoded}

abbrev pub decoded_of : Decoded → rules.Decoded
decoded_of found =
    record {
      message = word_of found.message;
      d = word_of found.d;
      x = word_of found.x;
      distance = found.distance;
      visits = found.visits;
    }

abbrev pub answer_of : Result Decoded Refusal → Answer rules.Decoded
answer_of = answer_by decoded_of
