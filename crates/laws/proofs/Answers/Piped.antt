-- `make` and then `blocks`: the text of the records that are made of a file of requests. Each request that is taken has a line, with
-- its message at distance 0, or refusal 8 where its allowance is too small; those that are refused have none, and the lines are
-- numbered on without them.
use Rattle.std.specs.Prelude.{ℕ, zero, suc, ◌+◌, ◌≤◌, ◌<◌, ◌≡◌, refl, List, [], ◌∷◌, ◌++◌, length, take, drop}
use Rattle.std.proofs.Common.{ap, ◌∙◌, add-one, arith, le-leb, length-take, length-drop, length-append, take_at, drop_at, get_or-take, get_or-drop}
use Rattle.std.proofs.lemmas.Bool.{lt-leb}
use Rattle.rules.specs.Refusals.{Answer, refused, done}
use Rattle.rules.specs.Record.{record_bytes}
use Rattle.rules.specs.Text.{line, record_line, records_up_to, each_from, most_records, text_from, written_from}
use Rattle.rules.specs.Request.{Request, request_bytes, request_answer, record_of, record_made, made_from}
use Rattle.laws.proofs.Answers.Requests.{request_right, write_right}
use Rattle.laws.proofs.Answers.Sent.{taken-decoded}
use Rattle.laws.proofs.Answers.Texts.{written_from_lem}
use Rattle.laws.proofs.Answers.WrittenRecord.{record_length}
use Rattle.laws.specs.Answers.DecodeOrder.{eight}
use Rattle.laws.specs.Answers.Piped.{AllSent, line_then, lines_found, lines_sent}
use Rattle.laws.specs.Answers.Sent.{answer_sent, decoded_sent, visits_sent}
use Rattle.laws.specs.Answers.Texts.{written_none}
use Rattle.laws.specs.Numbers.BytesOf.{Bytes}

-- an allowance of the visits that a request takes suffices: its message is found
pub sent-found : (r : Request) → visits_sent r ≤ r.allowance → answer_sent r ≡ done (decoded_sent r)
sent-found r enough = rw (le-leb (visits_sent r) r.allowance enough)

-- a smaller one does not
pub sent_gives_up : (r : Request) → r.allowance < visits_sent r → answer_sent r ≡ refused eight
sent_gives_up r less = rw (lt-leb (visits_sent r) r.allowance less)

-- every one of some requests is of bytes
unfoldable EachBytes : List (List ℕ) → Type 0
EachBytes [] = Unit
EachBytes (q ∷ qs) = Bytes q × EachBytes qs

-- the first of some bytes are bytes
take-bytes : (count : ℕ) (bytes : List ℕ) → Bytes bytes → Bytes (take count bytes)
take-bytes count bytes small i l =
    let e = length-take count bytes in
    rw (get_or-take count bytes i 0 (omega (arith, e))) (small i (omega (arith, e)))

-- and those after them
drop-bytes : (count : ℕ) (bytes : List ℕ) → Bytes bytes → Bytes (drop count bytes)
drop-bytes count bytes small i l = rw (get_or-drop count bytes i 0) (small (count + i) (omega (arith, length-drop count bytes)))

-- the records that bytes hold are of bytes
records_bytes : (size most : ℕ) (bytes : List ℕ) → Bytes bytes → EachBytes (records_up_to size most bytes)
unfolding records_up_to EachBytes
records_bytes size zero bytes small = tt
records_bytes size (suc most) [] small = tt
records_bytes size (suc most) (b ∷ bs) small =
    (take-bytes size (b ∷ bs) small, records_bytes size most (drop size (b ∷ bs)) (drop-bytes size (b ∷ bs) small))

-- there are no more of them than may be
records_most : (size most : ℕ) (bytes : List ℕ) → length (records_up_to size most bytes) ≤ most
unfolding records_up_to
records_most size zero bytes = omega arith
records_most size (suc most) [] = omega arith
records_most size (suc most) (b ∷ bs) = omega (arith, records_most size most (drop size (b ∷ bs)))

-- the records that are made of requests; their first number does not matter
abbrev made : ℕ → List (List ℕ) → List ℕ
made first requests = each_from (λ _ request. record_made (request_answer request)) first requests

-- the text of a whole record and of what follows it
text_record : (number : ℕ) (a b : List ℕ) → number < most_records → length a ≡ record_bytes
    → text_from number (a ++ b) ≡ record_line number a ++ text_from (suc number) b
text_record number a b few long =
    let both = length-append a b in
    let step = written_from_lem record_bytes record_line number 0 record_bytes (a ++ b) (omega (arith, both)) few (omega (arith, both)) in
    rw (take_at a b record_bytes long, drop_at a b record_bytes long, add-one number) at step

-- a request that is taken: its record is a line of its own answer
text_taken : (number : ℕ) (q : List ℕ) (r : Request) (b : List ℕ) → number < most_records → Bytes q → request_answer q ≡ done r
    → text_from number (record_of r ++ b) ≡ line number (answer_sent r) ++ text_from (suc number) b
text_taken number q r b few small taken =
    text_record number (record_of r) b few (record_length r ((write_right r).0 (request_right q r taken).written))
    ∙ ap (λ a. line number a ++ text_from (suc number) b) (taken-decoded q r small taken)

-- the text of the records that are made of requests is their lines
made_lines : (number first : ℕ) (requests : List (List ℕ)) → number + length requests ≤ most_records → EachBytes requests
    → text_from number (made first requests) ≡ lines_sent number requests
unfolding each_from lines_sent EachBytes
made_lines number first [] few small = written_none record_bytes record_line number
made_lines number first (q ∷ qs) few small =
    go (request_answer q) refl (λ next l. made_lines next (suc first) qs l small.1)
  where
    after : List ℕ
    after = made (suc first) qs

    go : (a : Answer Request) → request_answer q ≡ a
        → ((next : ℕ) → next + length qs ≤ most_records → text_from next after ≡ lines_sent next qs)
        → text_from number (record_made a ++ after) ≡ line_then a (λ next. lines_sent next qs) number
    go (done r) taken rest =
        text_taken number q r after (omega arith) small.0 taken
        ∙ ap (λ (t : List ℕ). line number (answer_sent r) ++ t) (rest (suc number) (omega arith))
    go (refused refusal) not rest = rest number (omega arith)

-- what `blocks` prints for what `make` writes: the lines of the requests that `make` reads
pub piped : (input : List ℕ) → Bytes input → text_from 0 (made_from 0 input) ≡ lines_sent 0 (records_up_to request_bytes most_records input)
unfolding written_from
piped input small =
    made_lines 0 0 (records_up_to request_bytes most_records input)
    (omega (arith, records_most request_bytes most_records input))
    (records_bytes request_bytes most_records input small)

-- the lines of such requests are these
sent_lines : (number : ℕ) (requests : List (List ℕ)) (rs : List Request) → AllSent requests rs → lines_sent number requests ≡ lines_found number rs
unfolding lines_sent lines_found AllSent
sent_lines number [] [] sent = refl
sent_lines number [] (r ∷ rs) sent = elim sent [ ]
sent_lines number (q ∷ qs) [] sent = elim sent [ ]
sent_lines number (q ∷ qs) (r ∷ rs) (taken, enough, sent) = rw (taken, sent-found r enough, sent_lines (suc number) qs rs sent)

-- such a file comes back whole
pub piped_found : (input : List ℕ) (rs : List Request) → Bytes input → AllSent (records_up_to request_bytes most_records input) rs
    → text_from 0 (made_from 0 input) ≡ lines_found 0 rs
piped_found input rs small sent = piped input small ∙ sent_lines 0 (records_up_to request_bytes most_records input) rs sent
