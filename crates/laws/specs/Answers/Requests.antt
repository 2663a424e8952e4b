-- The order of a request by parts, and what a request that is taken says: its fields are its bytes', of a right code and folding, with
-- a message that fits.
-- What rests on the statements here stands in proofs/Answers/Requests.antt.
use Rattle.std.specs.Prelude.{ℕ, ◌^◌, ◌<◌, ◌≡◌, List, [], ◌∷◌}
use Rattle.std.proofs.Math.Option.{Option}
use Rattle.rules.specs.Word.{message_bits}
use Rattle.rules.specs.Refusals.{Refusal, wrong_size}
use Rattle.rules.specs.Request.{Request, request_of, short_request, request_not_zero, write_order}
use Rattle.laws.specs.Answers.Orders.{FoldedRight, Passed}

-- 13, 1, 12: the first part of reading a request
abbrev pub request_bytes_order : List ℕ → List (Option Refusal)
request_bytes_order bytes = short_request bytes ∷ wrong_size (request_of bytes).n ∷ request_not_zero bytes ∷ []

-- a right code and folding, and a message that fits
pub record WriteRight (r : Request) : Type 0 where
  pub folded : FoldedRight r.n r.mask r.folding
  pub message_fits : r.message < 2 ^ message_bits r.n r.mask

-- a request that is taken: the fields are its bytes', and its record can be written
pub record Asked (bytes : List ℕ) (r : Request) : Type 0 where
  pub fields : request_of bytes ≡ r
  pub written : Passed (write_order r)
