-- The record that is written for a request: its length, and that reading it gives the request's fields and the levels sent back.
-- What rests on the statements here stands in proofs/Answers/WrittenRecord.antt.
use Rattle.std.specs.Prelude.{ℕ, ◌+◌, ◌-◌, ◌^◌, ◌≤◌, ◌<◌, ◌≡◌, List, ◌++◌, ℤ, pos}
use Rattle.std.proofs.Math.Path.{ap}
use Rattle.std.proofs.Common.{◌∙◌, arith, length-append}
use Rattle.std.proofs.Math.ListN.{length, get_or, replicate, get_or-replicate, get_or-append}
use Rattle.std.proofs.lemmas.List.{length-replicate}
use Rattle.std.proofs.Math.Pow.{pow_mono}
use Rattle.std.proofs.Math.Seq.{get_or-append-add}
use Rattle.rules.specs.Word.{bit, codeword, spread}
use Rattle.rules.specs.Level.{ideal, ideal_levels}
use Rattle.rules.specs.Record.{Fields, record_slots}
use Rattle.rules.specs.Request.{Request, bytes_of, record_levels}
use Rattle.laws.specs.Answers.GuardAnswer.{sent_levels}
use Rattle.laws.specs.Answers.Requests.{WriteRight}
use Rattle.laws.specs.Numbers.Each.{each-length, each_at}

-- the fields of the record that is written for a request
abbrev pub written_fields : Request → Fields
written_fields r = record { n = r.n; folding = r.folding; allowance = r.allowance; mask = r.mask; levels = record_levels r }

-- the levels that a request's message is sent as
abbrev pub levels_sent : Request → List ℤ
levels_sent r = sent_levels r.n r.mask r.message

-- the bit sent in a slot
abbrev pub bit_sent : Request → ℕ → ℕ
bit_sent r i = bit (codeword r.n (spread r.n r.mask r.message)) i

-- the 16 bytes before the levels
abbrev pub header : Request → List ℕ
header r = bytes_of 1 r.n ++ bytes_of 1 r.folding ++ bytes_of 2 0 ++ bytes_of 4 r.allowance ++ bytes_of 8 r.mask

-- a level is sent for each of the N slots
pub sent-length : (r : Request) → length (levels_sent r) ≡ 2 ^ r.n
unfolding ideal_levels
sent-length r = each-length (λ i. ideal (bit_sent r i)) (2 ^ r.n)

-- the ideal level of that slot's bit
pub sent_at : (r : Request) (i : ℕ) → i < 2 ^ r.n → get_or (levels_sent r) i (pos 0) ≡ ideal (bit_sent r i)
unfolding ideal_levels
sent_at r i l = each_at (λ j. ideal (bit_sent r j)) (pos 0) (2 ^ r.n) i l

module _ (r : Request) (right : WriteRight r) where
  -- N is at most 64
  pub slots_few : 2 ^ r.n ≤ record_slots
  slots_few = pow_mono {j = 6} right.folded.code.small

  -- a level is written for each of the record's slots
  pub levels_length : length (record_levels r) ≡ record_slots
  unfolding record_levels
  levels_length = rw (length-append, sent-length r, length-replicate) (omega (arith, slots_few))

  -- the level sent
  pub level_sent : (i : ℕ) → i < 2 ^ r.n → get_or (record_levels r) i (pos 0) ≡ ideal (bit_sent r i)
  unfolding record_levels
  level_sent i l =
      let inside : i < length (levels_sent r) = rw (sent-length r) l in
      get_or-append (levels_sent r) (replicate (record_slots - 2 ^ r.n) (pos 0)) (pos 0) i inside ∙ sent_at r i l

  -- and zero beyond N
  pub level_zero : (i : ℕ) → 2 ^ r.n ≤ i → i < record_slots → get_or (record_levels r) i (pos 0) ≡ pos 0
  unfolding record_levels
  level_zero i beyond l =
      let zeros = replicate (record_slots - 2 ^ r.n) (pos 0) in
      let at : i ≡ length (levels_sent r) + (i - 2 ^ r.n) = omega (arith, sent-length r) in
      ap (λ (j : ℕ). get_or (levels_sent r ++ zeros) j (pos 0)) at
      ∙ get_or-append-add (levels_sent r) zeros (i - 2 ^ r.n) (pos 0)
      ∙ get_or-replicate (record_slots - 2 ^ r.n) (i - 2 ^ r.n) (pos 0) (pos 0) (omega arith)
