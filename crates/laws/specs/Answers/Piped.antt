-- `make` and then `blocks`: the text of the records that are made of a file of requests. Each request that is taken has a line, with
-- its message at distance 0, or refusal 8 where its allowance is too small; those that are refused have none, and the lines are
-- numbered on without them.
-- What rests on the statements here stands in proofs/Answers/Piped.antt.
use Rattle.std.specs.Prelude.{ℕ, suc, ◌≤◌, ◌≡◌, List, [], ◌∷◌, ◌++◌}
use Rattle.rules.specs.Refusals.{Answer, refused, done}
use Rattle.rules.specs.Text.{line}
use Rattle.rules.specs.Request.{Request, request_answer}
use Rattle.laws.specs.Answers.Sent.{answer_sent, decoded_sent, visits_sent}

-- the line of a request's own answer, then the lines from the next number on; where it is refused, only those, from this number on
abbrev pub line_then : Answer Request → (ℕ → List ℕ) → ℕ → List ℕ
line_then (done r) rest number = line number (answer_sent r) ++ rest (suc number)
line_then (refused refusal) rest number = rest number

-- the lines for requests, given by their bytes; the first of them is numbered `number`
unfoldable pub lines_sent : ℕ → List (List ℕ) → List ℕ
lines_sent number [] = []
lines_sent number (q ∷ qs) = line_then (request_answer q) (λ next. lines_sent next qs) number

-- the requests are taken, and these are their fields; each allowance is at least the visits that the request takes
unfoldable pub AllSent : List (List ℕ) → List Request → Type 0
AllSent [] [] = Unit
AllSent [] (r ∷ rs) = ⊥
AllSent (q ∷ qs) [] = ⊥
AllSent (q ∷ qs) (r ∷ rs) = (request_answer q ≡ done r) × (visits_sent r ≤ r.allowance) × AllSent qs rs

-- a line for each, with its message and distance 0
unfoldable pub lines_found : ℕ → List Request → List ℕ
lines_found number [] = []
lines_found number (r ∷ rs) = line number (done (decoded_sent r)) ++ lines_found (suc number) rs
