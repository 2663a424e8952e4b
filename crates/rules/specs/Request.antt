-- Document 02, K2: a request's fields from its bytes and what it answers, the record that is written for it, and what `make` writes.
-- "Reading back a written record must give the request's fields and, if the allowance suffices, its message at distance 0" is no
-- definition: it follows from those here, and is proved.
use Rattle.std.specs.Prelude.{ℕ, zero, suc, ◌-◌, ◌/◌, ◌%◌, ◌^◌, not, List, [], ◌∷◌, ◌++◌, ℤ, pos, negsuc, ltb, eqb, length, drop, replicate}
use Rattle.std.proofs.Math.Option.{Option}
use Rattle.rules.specs.Level.{ideal_levels}
use Rattle.rules.specs.Refusals.{Refusal, Answer, refused, done, answer, left, refuse, wrong_size, wrong_mask, wrong_message}
use Rattle.rules.specs.Orders.{folding_order, folded_order}
use Rattle.rules.specs.Answers.{encoded}
use Rattle.rules.specs.Record.{record_bytes, record_slots, number_at}
use Rattle.rules.specs.Text.{decimal, line_end, written_from}

-- "24-byte requests"
abbrev pub request_bytes : ℕ
request_bytes = 24

-- "n, folding, two zero bytes, allowance, mask, message": the fields of a request
pub record Request : Type 0 where
  pub n : ℕ
  pub folding : ℕ
  pub allowance : ℕ
  pub mask : ℕ
  pub message : ℕ

-- the same "in the widths and order of the block record"; a message is as wide as a mask
unfoldable pub request_of : List ℕ → Request
request_of bytes =
    record {
      n = number_at bytes 0 1;
      folding = number_at bytes 1 1;
      allowance = number_at bytes 4 4;
      mask = number_at bytes 8 8;
      message = number_at bytes 16 8;
    }

-- "13 (fewer than 24 bytes)"
abbrev pub short_request : List ℕ → Option Refusal
short_request bytes = refuse 13 (ltb (length bytes) request_bytes)

-- "12 (for the zero bytes)"
abbrev pub request_not_zero : List ℕ → Option Refusal
request_not_zero bytes = refuse 12 (not (eqb (number_at bytes 2 2) 0))

-- "in the order 13 (fewer than 24 bytes), 1, 12 (for the zero bytes), 3, 4, 5, 9"
unfoldable pub request_order : List ℕ → List (Option Refusal)
request_order bytes =
    let r = request_of bytes in
    short_request bytes ∷ wrong_size r.n ∷ request_not_zero bytes ∷ wrong_mask r.n r.mask
    ∷ folding_order r.n r.folding ++ wrong_message r.n r.mask r.message ∷ []

-- what reading a request answers: a refusal, or its fields
unfoldable pub request_answer : List ℕ → Answer Request
request_answer bytes = answer (request_order bytes) (request_of bytes)

-- 1, 3, 4, 5, 9: that order without the tests of bytes, for a request that is given by its fields
unfoldable pub write_order : Request → List (Option Refusal)
write_order r = folded_order r.n r.mask r.folding ++ wrong_message r.n r.mask r.message ∷ []

-- what writing a request's record answers: a refusal, or that it is written
unfoldable pub write_answer : Request → Answer (Unit {0})
write_answer r = answer (write_order r) tt

-- "little-endian", as document 01 has it: the lowest `count` bytes of v, lowest first
unfoldable pub bytes_of : ℕ → ℕ → List ℕ
bytes_of zero v = []
bytes_of (suc count) v = v % 256 ∷ bytes_of count (v / 256)

-- the number from 0 to 65535 with the bits of a level, which in document 01 is a "signed 16-bit" number: -(v + 1) is 65535 - v
abbrev pub unsigned16 : ℤ → ℕ
unsigned16 (pos v) = v
unsigned16 (negsuc v) = 65535 - v

-- levels, two bytes each
unfoldable pub level_bytes : List ℤ → List ℕ
level_bytes [] = []
level_bytes (level ∷ levels) = bytes_of 2 (unsigned16 level) ++ level_bytes levels

-- "with ideal levels and zeros behind them": the levels of all the record's slots
unfoldable pub record_levels : Request → List ℤ
record_levels r =
    ideal_levels r.n (encoded r.n r.mask r.message).x ++ replicate (record_slots - 2 ^ r.n) (pos 0)

-- "writes block records": the bytes of the record of a request that is not refused, in document 01's places
unfoldable pub record_of : Request → List ℕ
record_of r =
    bytes_of 1 r.n ++ bytes_of 1 r.folding ++ bytes_of 2 0 ++ bytes_of 4 r.allowance ++ bytes_of 8 r.mask
    ++ level_bytes (record_levels r)

-- the lent buffer afterwards, which has room: the record in its first bytes; where the request is refused, the buffer as it was
unfoldable pub write_left : Request → List ℕ → List ℕ
write_left r buffer = left (write_answer r) buffer (record_of r ++ drop record_bytes buffer)

-- "writes block records"; "A refused request writes no record"
abbrev pub record_made : Answer Request → List ℕ
record_made (done r) = record_of r
record_made (refused refusal) = []

-- "its number goes to standard error": the number of the refusal, in decimal, a line for each
abbrev pub refusal_said : Answer Request → List ℕ
refusal_said (done r) = []
refusal_said (refused refusal) = decimal refusal.number ++ line_end

-- the records that are made of bytes whose first request is numbered `number`; a short last request is 13, and "a program that finds
-- none left has ended". A request counts in "No program of ours reads more than 4,294,967,295 records", and its number serves for
-- that alone. From number 0 it is what `make` writes to standard output for the bytes of its standard input.
abbrev pub made_from : ℕ → List ℕ → List ℕ
made_from number bytes = written_from request_bytes (λ _ request. record_made (request_answer request)) number bytes

-- the refusals among them: from number 0, what it writes to standard error
abbrev pub refusals_from : ℕ → List ℕ → List ℕ
refusals_from number bytes = written_from request_bytes (λ _ request. refusal_said (request_answer request)) number bytes
