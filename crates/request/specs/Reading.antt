-- A request as the rules have it, and the answer of `read` as an answer of the rules.
use Rattle.std.specs.Prelude.{Result}
use Rattle.rules.specs.Refusals.{Answer}
use Rattle.rules.specs.Request as requests
use Rattle.refusal.specs.Results.{answer_by}
use Rattle.refusal.specs.declared.Refusal.{Refusal}
use Rattle.word.specs.Words.{word_of}
use Rattle.request.specs.declared.Request as r

-- the fields as the rules have them
abbrev pub request_in : r.Request → requests.Request
request_in r =
    record { n = r.n; folding = r.folding; allowance = r.allowance; mask = word_of r.mask; message = word_of r.message }

abbrev pub asked_of : Result r.Request Refusal → Answer requests.Request
asked_of = answer_by request_in
