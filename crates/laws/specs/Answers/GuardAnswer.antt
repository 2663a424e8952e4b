-- Demand 3, over the answers of decoding. A message is sent as the ideal levels of its codeword, and each slot of the block is
-- received moved by some amount. If all amounts together are below the guard of the mask, every finished answer of decoding is
-- the message that was sent, under every folding and allowance. At the guard this fails: for every mask that has a guard some
-- block, moved by the guard in all, has the least word of another message, and is decoded as that.
-- What rests on the statements here stands in proofs/Answers/GuardAnswer.antt.
use Rattle.std.specs.Prelude.{ℕ, ◌^◌, ◌≤◌, ◌<◌, ◌≡◌, ◌≢◌, true, List, ℤ, nat_abs, ◌-ℤ◌, length}
use Rattle.std.specs.Int.Count.{ones}
use Rattle.rules.specs.Below.{sum_below}
use Rattle.rules.specs.Word.{codeword, message_bits, spread}
use Rattle.rules.specs.Level.{ideal_levels, in_range, level_at, level_cost, Least}
use Rattle.rules.specs.Walk.{walk_visits}
use Rattle.rules.specs.Refusals.{done}
use Rattle.rules.specs.Answers.{Decoded, decode_answer}

-- the levels that a message is sent as: those that encoding to ideal levels writes
abbrev pub sent_levels : ℕ → ℕ → ℕ → List ℤ
sent_levels n mask message = ideal_levels n (codeword n (spread n mask message))

-- by how much the levels received differ from the levels sent, over all slots together
abbrev pub moved_in_all : ℕ → List ℤ → List ℤ → ℕ
moved_in_all n sent received = sum_below (2 ^ n) (λ i. nat_abs (level_at received i -ℤ level_at sent i))

-- an answer is the message that was sent, with its information word and its codeword
pub record IsSent (n mask sent : ℕ) (a : Decoded) : Type 0 where
  pub message : a.message ≡ sent
  pub word : a.d ≡ spread n mask sent
  pub code : a.x ≡ codeword n (spread n mask sent)

-- A message, and a block of levels in range moved from it by the guard in all, whose least word is word 0, that of another message.
pub record LeastElsewhere (n mask guard : ℕ) : Type 0 where
  pub message : ℕ
  pub inside : message < 2 ^ message_bits n mask
  pub other : message ≢ 0
  pub received : List ℤ
  pub long : length received ≡ 2 ^ n
  pub ranged : (i : ℕ) → i < 2 ^ n → in_range (level_at received i) ≡ true
  pub moved : moved_in_all n (sent_levels n mask message) received ≡ guard
  pub least : Least n mask (level_cost received) 0

-- Such a block is answered with message 0, which was not sent: under every folding that is not refused, with every allowance that
-- suffices for the walk.
pub record LostAtGuard (n mask guard : ℕ) : Type 0 where
  pub block : LeastElsewhere n mask guard
  pub lost : (folding allowance : ℕ) → folding < 2 ^ n → ones folding ≤ 3
      → walk_visits n mask (level_cost block.received) folding ≤ allowance
      → (a : Decoded) × (decode_answer n block.received mask folding allowance ≡ done a) × (a.message ≡ 0)
