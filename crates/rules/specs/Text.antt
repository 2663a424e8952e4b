-- Document 01, "Recorded blocks": the line of an answer, and the text of all the bytes of a file. Text is a list of bytes.
use Rattle.std.specs.Prelude.{ℕ, zero, suc, ◌+◌, ◌-◌, ◌/◌, ◌%◌, cond, List, [], ◌∷◌, ◌++◌, ltb, take, drop}
use Rattle.rules.specs.Below.{choose}
use Rattle.rules.specs.Refusals.{Answer, refused, done}
use Rattle.rules.specs.Answers.{Decoded}
use Rattle.rules.specs.Record.{record_bytes, record_answer}

-- a digit's byte, "lower-case" above 9
abbrev pub digit : ℕ → ℕ
digit v = cond (ltb v 10) (48 + v) (87 + v)

-- the decimal digits of v, highest first, of which there are at most `most`
unfoldable pub decimal_up_to : ℕ → ℕ → List ℕ
decimal_up_to zero v = []
decimal_up_to (suc most) v =
    choose (ltb v 10) (λ _. digit v ∷ []) (λ _. decimal_up_to most (v / 10) ++ (digit (v % 10) ∷ []))

-- a number in decimal
abbrev pub decimal : ℕ → List ℕ
decimal v = decimal_up_to (suc v) v

-- "lower-case hex digits": the lowest `count` of v, highest first
unfoldable pub hex : ℕ → ℕ → List ℕ
hex zero v = []
hex (suc count) v = hex count (v / 16) ++ (digit (v % 16) ∷ [])

-- the space between the parts of a line
abbrev pub space : List ℕ
space = 32 ∷ []

-- "a line each": its end
abbrev pub line_end : List ℕ
line_end = 10 ∷ []

-- `found`
abbrev pub found_word : List ℕ
found_word = 102 ∷ 111 ∷ 117 ∷ 110 ∷ 100 ∷ []

-- `refused`
abbrev pub refused_word : List ℕ
refused_word = 114 ∷ 101 ∷ 102 ∷ 117 ∷ 115 ∷ 101 ∷ 100 ∷ []

-- "then `found`, message as 16 lower-case hex digits, distance, visits; or `refused` and the number"
abbrev pub answer_text : Answer Decoded → List ℕ
answer_text (done a) =
    found_word ++ space ++ hex 16 a.message ++ space ++ decimal a.distance ++ space ++ decimal a.visits
answer_text (refused r) = refused_word ++ space ++ decimal r.number

-- "prints a line each: record number from 0; then" the answer
unfoldable pub line : ℕ → Answer Decoded → List ℕ
line number a = decimal number ++ space ++ answer_text a ++ line_end

-- the line of the record with this number
abbrev pub record_line : ℕ → List ℕ → List ℕ
record_line number bytes = line number (record_answer bytes)

-- the first `most` records of `size` bytes that bytes hold; the last one may be short. A record is what a program reads, for `make`
-- a request.
unfoldable pub records_up_to : ℕ → ℕ → List ℕ → List (List ℕ)
records_up_to size zero bytes = []
records_up_to size (suc most) [] = []
records_up_to size (suc most) (b ∷ bs) = take size (b ∷ bs) ∷ records_up_to size most (drop size (b ∷ bs))

-- what is written for records, for each what `written` gives for its number and its bytes; the first of them is numbered `number`
unfoldable pub each_from : (ℕ → List ℕ → List ℕ) → ℕ → List (List ℕ) → List ℕ
each_from written number [] = []
each_from written number (r ∷ rs) = written number r ++ each_from written (suc number) rs

-- "No program of ours reads more than 4,294,967,295 records; it stops there."
abbrev pub most_records : ℕ
most_records = 4294967295

-- what is written for bytes that hold records of `size` bytes, whose first is numbered `number`
unfoldable pub written_from : ℕ → (ℕ → List ℕ → List ℕ) → ℕ → List ℕ → List ℕ
written_from size written number bytes = each_from written number (records_up_to size (most_records - number) bytes)

-- the text of bytes whose first record is numbered `number`: "A short last record gets its line; empty input prints nothing."
-- From number 0 it is what `blocks` prints for the bytes of its standard input.
abbrev pub text_from : ℕ → List ℕ → List ℕ
text_from number bytes = written_from record_bytes record_line number bytes
