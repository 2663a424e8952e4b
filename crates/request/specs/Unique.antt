-- The readings of this crate determine what is read.
use Rattle.std.specs.Prelude.{◌≡◌, Result}
use Rattle.std.proofs.Common.{ap}
use Rattle.rules.specs.Request as requests
use Rattle.refusal.specs.Results.{answer_by_injective}
use Rattle.refusal.specs.declared.Refusal.{Refusal}
use Rattle.word.specs.Unique.{word_injective}
use Rattle.request.specs.Reading.{request_in, asked_of}
use Rattle.request.specs.declared.Request as r

request_injective : (r s : r.Request) → request_in r ≡ request_in s → r ≡ s
request_injective r s same i =
    record {
      n = (same i).n;
      folding = (same i).folding;
      allowance = (same i).allowance;
      mask = word_injective r.mask s.mask (ap (λ (q : requests.Request). q.mask) same) i;
      message = word_injective r.message s.message (ap (λ (q : requests.Request). q.message) same) i;
    }

pub asked_injective : (r s : Result r.Request Refusal) → asked_of r ≡ asked_of s → r ≡ s
asked_injective = answer_by_injective request_in request_injective
