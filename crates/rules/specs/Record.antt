-- Document 01, "Recorded blocks": a record's fields from its bytes, and what a record answers.
use Rattle.std.specs.Prelude.{ℕ, ◌+◌, ◌-◌, ◌*◌, ◌^◌, true, not, ◌&&◌, ◌||◌, cond, List, [], ◌∷◌, ◌++◌, map, ℤ, pos, neg_ℤ, ltb, eqb, length, take, drop}
use Rattle.std.proofs.Math.Option.{Option}
use Rattle.rules.specs.Below.{all_below, list_below}
use Rattle.rules.specs.Refusals.{Refusal, Answer, answer, refuse, wrong_size, wrong_mask}
use Rattle.rules.specs.Orders.{folding_order, walk_order}
use Rattle.rules.specs.Answers.{Decoded, decoded}

-- "Records of 144 bytes, no header"
abbrev pub record_bytes : ℕ
record_bytes = 144

-- "sixty-four signed 16-bit levels"
abbrev pub record_slots : ℕ
record_slots = 64

-- "little-endian"
unfoldable pub little_endian : List ℕ → ℕ
little_endian [] = 0
little_endian (byte ∷ bytes) = byte + 256 * little_endian bytes

-- the number in `count` bytes from a place on
abbrev pub number_at : List ℕ → ℕ → ℕ → ℕ
number_at bytes place count = little_endian (take count (drop place bytes))

-- a "signed 16-bit" number
abbrev pub signed16 : ℕ → ℤ
signed16 v = cond (ltb v 32768) (pos v) (neg_ℤ (pos (65536 - v)))

-- "16..143 sixty-four signed 16-bit levels": the level of slot i
abbrev pub slot_level : List ℕ → ℕ → ℤ
slot_level bytes i = signed16 (number_at bytes (16 + 2 * i) 2)

-- "byte 0 n, byte 1 folding", "allowance", "mask", "levels": the fields of a record
pub record Fields : Type 0 where
  pub n : ℕ
  pub folding : ℕ
  pub allowance : ℕ
  pub mask : ℕ
  pub levels : List ℤ

-- "byte 0 n, byte 1 folding, 2 and 3 zero, 4..7 allowance, 8..15 mask, 16..143 sixty-four signed 16-bit levels"
unfoldable pub fields_of : List ℕ → Fields
fields_of bytes =
    record {
      n = number_at bytes 0 1;
      folding = number_at bytes 1 1;
      allowance = number_at bytes 4 4;
      mask = number_at bytes 8 8;
      levels = map (slot_level bytes) (list_below record_slots (λ i. true));
    }

-- 13: "record: fewer than 144 bytes"
abbrev pub short_record : List ℕ → Option Refusal
short_record bytes = refuse 13 (ltb (length bytes) record_bytes)

-- 12: "record: bytes 2 and 3, or a level beyond N, not zero"
unfoldable pub not_zero : List ℕ → ℕ → Option Refusal
not_zero bytes n =
    refuse 12
    (not (eqb (number_at bytes 2 2) 0 && all_below record_slots (λ i. ltb i (2 ^ n) || eqb (number_at bytes (16 + 2 * i) 2) 0)))

-- 13, 1, 12, 3, 4, 5: the record's order as far as 5, which is what reading it without decoding refuses
unfoldable pub read_order : List ℕ → List (Option Refusal)
read_order bytes =
    let f = fields_of bytes in
    short_record bytes ∷ wrong_size f.n ∷ not_zero bytes f.n ∷ wrong_mask f.n f.mask ∷ folding_order f.n f.folding

-- what reading a record answers: a refusal, or its fields
unfoldable pub read_answer : List ℕ → Answer Fields
read_answer bytes = answer (read_order bytes) (fields_of bytes)

-- the levels of the record's N slots; those "beyond N" are zero
abbrev pub block_levels : Fields → List ℤ
block_levels f = take (2 ^ f.n) f.levels

-- "A record: 13, 1, 12, 3, 4, 5, 6, 7, 8."
unfoldable pub record_order : List ℕ → List (Option Refusal)
record_order bytes =
    let f = fields_of bytes in
    read_order bytes ++ walk_order f.n (block_levels f) f.mask f.folding f.allowance

-- what decoding a record answers: a refusal, or the decoding of its fields
unfoldable pub record_answer : List ℕ → Answer Decoded
record_answer bytes =
    let f = fields_of bytes in
    answer (record_order bytes) (decoded f.n (block_levels f) f.mask f.folding)
