-- The record that is written for a request: its length, and what stands in the bytes of each slot.
use Rattle.std.specs.Prelude.{ℕ, zero, suc, ◌+◌, ◌*◌, ◌^◌, ◌<◌, ◌≡◌, true, ◌||◌, ltb, eqb, pos}
use Rattle.std.proofs.Math.Path.{sym, ap}
use Rattle.std.proofs.Common.{◌∙◌, arith, take_at, lt-ltb, le-ltb, eq-eqb}
use Rattle.std.proofs.Math.Option.{none}
use Rattle.std.proofs.Math.Decide.{dec_lt}
use Rattle.std.proofs.Math.ListN.{length, get_or}
use Rattle.rules.specs.Level.{ideal}
use Rattle.rules.specs.Record.{fields_of, block_levels, record_bytes, record_slots, number_at, signed16, slot_level, not_zero}
use Rattle.rules.specs.Request.{Request, bytes_of, unsigned16, level_bytes, record_levels, record_of}
use Rattle.laws.proofs.Answers.LevelBytes.{level_back, level_number}
use Rattle.laws.specs.Answers.LevelBytes.{Sixteen, level_bytes_length}
use Rattle.laws.specs.Answers.Requests.{WriteRight}
use Rattle.laws.specs.Answers.WrittenRecord.{bit_sent, header, level_sent, level_zero, levels_length, levels_sent, sent-length, written_fields}
use Rattle.laws.specs.Numbers.BytesOf.{field_back, number_behind}
use Rattle.laws.specs.Numbers.Each.{each_all}
use Rattle.laws.specs.Numbers.Sums.{all_of}

-- an ideal level has 16 bits
ideal-sixteen : (b : ℕ) → Sixteen (ideal b)
ideal-sixteen zero = omega arith
ideal-sixteen (suc b) = omega arith

-- the levels of the record's N slots are those sent
pub block_sent : (r : Request) → block_levels (written_fields r) ≡ levels_sent r
unfolding record_levels
block_sent r = take_at (levels_sent r) _ (2 ^ r.n) (sent-length r)

module _ (r : Request) (right : WriteRight r) where
  -- each has 16 bits
  level_sixteen : (i : ℕ) → i < record_slots → Sixteen (get_or (record_levels r) i (pos 0))
  level_sixteen i l = go (dec_lt i (2 ^ r.n))
    where
      go : Dec (i < 2 ^ r.n) → Sixteen (get_or (record_levels r) i (pos 0))
      go (yes inside) = rw ((level_sent r right) i inside) (ideal-sixteen (bit_sent r i))
      go (no beyond) = rw ((level_zero r right) i (omega arith) l) (omega arith)

  -- a record has its 144 bytes
  pub record_length : length (record_of r) ≡ record_bytes
  unfolding record_of bytes_of
  record_length = omega (arith, level_bytes_length (record_levels r), (levels_length r right))

  -- the two bytes of a slot
  slot_number : (i : ℕ) → number_at (record_of r) (16 + 2 * i) 2 ≡ number_at (level_bytes (record_levels r)) (2 * i) 2
  unfolding record_of bytes_of
  slot_number i = number_behind (header r) (level_bytes (record_levels r)) (2 * i) 2

  -- the level of a slot is the one written there
  slot_back : (i : ℕ) → i < record_slots → slot_level (record_of r) i ≡ get_or (record_levels r) i (pos 0)
  slot_back i l = ap signed16 (slot_number i) ∙ level_back (record_levels r) i (rw (levels_length r right) l) (level_sixteen i l)

  -- so are the levels of all slots
  pub levels_back : (fields_of (record_of r)).levels ≡ record_levels r
  unfolding fields_of
  levels_back = sym (each_all (slot_level (record_of r)) (pos 0) (record_levels r) record_slots (levels_length r right) (λ i l. sym (slot_back i l)))

  -- bytes 2 and 3 are zero
  zero_back : number_at (record_of r) 2 2 ≡ 0
  unfolding record_of bytes_of
  zero_back = field_back 2 0 (omega arith)

  -- each slot is one of the N, or its bytes are zero
  slot_quiet : (i : ℕ) → i < record_slots → (ltb i (2 ^ r.n) || eqb (number_at (record_of r) (16 + 2 * i) 2) 0) ≡ true
  slot_quiet i l = go (dec_lt i (2 ^ r.n))
    where
      go : Dec (i < 2 ^ r.n) → (ltb i (2 ^ r.n) || eqb (number_at (record_of r) (16 + 2 * i) 2) 0) ≡ true
      go (yes inside) = rw (lt-ltb i (2 ^ r.n) inside)
      go (no beyond) =
          let clear : number_at (record_of r) (16 + 2 * i) 2 ≡ 0 =
          slot_number i ∙ level_number (record_levels r) i (rw (levels_length r right) l) (level_sixteen i l) ∙ ap unsigned16 ((level_zero r right) i (omega arith) l)
          in
          rw (le-ltb i (2 ^ r.n) (omega arith), eq-eqb _ 0 clear)

  -- so that 12 is not given
  pub quiet : not_zero (record_of r) r.n ≡ none
  unfolding not_zero
  quiet = rw (eq-eqb _ 0 zero_back, all_of record_slots _ slot_quiet)
