-- Demand 3, over the answers of decoding. A message is sent as the ideal levels of its codeword, and each slot of the block is
-- received moved by some amount. If all amounts together are below the guard of the mask, every finished answer of decoding is
-- the message that was sent, under every folding and allowance. At the guard this fails: for every mask that has a guard some
-- block, moved by the guard in all, has the least word of another message, and is decoded as that.
use Rattle.std.specs.Prelude.{ℕ, ◌^◌, ◌≤◌, ◌<◌, ◌≡◌, List, ℤ, pos, nat_abs, ◌-ℤ◌}
use Rattle.std.proofs.Common.{sym, ap, ◌∙◌}
use Rattle.std.proofs.Math.Option.{some}
use Rattle.rules.specs.Word.{bit, codeword, message_bits, spread, gather}
use Rattle.rules.specs.Level.{ideal, ideal_levels, level_at, level_cost}
use Rattle.rules.specs.Guard.{guard_of}
use Rattle.rules.specs.Walk.{walk_visits}
use Rattle.rules.specs.Refusals.{done}
use Rattle.rules.specs.Answers.{Decoded, decode_answer}
use Rattle.laws.proofs.Guard.SentWord.{at_guard, below_guard_only}
use Rattle.laws.specs.Answers.GuardAnswer.{IsSent, LeastElsewhere, LostAtGuard, moved_in_all, sent_levels}
use Rattle.laws.specs.Answers.LeastAnswer.{Accepted, accepted_done, done_least}
use Rattle.laws.specs.Code.Message.{gather-lt, gather-spread, gather-zero, spread-gather, spread-permitted}
use Rattle.laws.specs.Distance.Least.{least_unique}
use Rattle.laws.specs.Guard.Margin.{total_moved}
use Rattle.laws.specs.Numbers.Each.{each_at}
use Rattle.laws.specs.Numbers.Sums.{sum_cong}

-- the amount moved is the one that the laws speak of
moved_in_all_lem : (n mask message : ℕ) (received : List ℤ)
    → moved_in_all n (sent_levels n mask message) received ≡ total_moved n received (spread n mask message)
unfolding ideal_levels
moved_in_all_lem n mask message received =
    sum_cong (2 ^ n)
    (λ i l. ap (λ (z : ℤ). nat_abs (level_at received i -ℤ z))
    (each_at (λ k. ideal (bit (codeword n (spread n mask message)) k)) (pos 0) (2 ^ n) i l))

module _ (n mask guard : ℕ) (has_guard : guard_of n mask ≡ some guard) where
  -- Below the guard: a finished answer is the message sent.
  pub below_guard : (message : ℕ) → message < 2 ^ message_bits n mask
      → (received : List ℤ) → moved_in_all n (sent_levels n mask message) received < guard
      → (folding allowance : ℕ) (a : Decoded) → decode_answer n received mask folding allowance ≡ done a → IsSent n mask message a
  below_guard message inside received near folding allowance a finished =
      let holds = done_least n received mask folding allowance a finished in
      let same : a.d ≡ spread n mask message =
      below_guard_only n mask guard (spread n mask message) received has_guard (spread-permitted n mask message)
      (rw (moved_in_all_lem n mask message received) at near) a.d holds.least
      in
      record {
        message = holds.message ∙ ap (gather n mask) same ∙ gather-spread n mask message inside;
        word = same;
        code = holds.codeword ∙ ap (codeword n) same;
      }

  -- And an answer is finished where refusals 1 to 6 let the input pass and the allowance suffices for the walk.
  pub below_guard_found : (message : ℕ) → message < 2 ^ message_bits n mask
      → (received : List ℤ) → moved_in_all n (sent_levels n mask message) received < guard
      → (folding allowance : ℕ) → Accepted n received mask folding → walk_visits n mask (level_cost received) folding ≤ allowance
      → (a : Decoded) × (decode_answer n received mask folding allowance ≡ done a) × IsSent n mask message a
  below_guard_found message inside received near folding allowance given enough =
      let r = accepted_done n received mask folding allowance given enough in
      (r.0, r.1, below_guard message inside received near folding allowance r.0 r.1)

-- At the guard: every mask that has one has such a message and such a block.
pub least_elsewhere : (n mask guard : ℕ) → guard_of n mask ≡ some guard → LeastElsewhere n mask guard
least_elsewhere n mask guard has_guard =
    let r = at_guard n mask guard has_guard in
    let word : spread n mask (gather n mask r.sent) ≡ r.sent = spread-gather n mask r.sent r.allowed in
    record {
      message = gather n mask r.sent;
      inside = gather-lt n mask r.sent;
      other = λ e. r.other (e ∙ sym (gather-zero n mask));
      received = r.levels;
      long = r.long;
      ranged = r.ranged;
      moved = moved_in_all_lem n mask (gather n mask r.sent) r.levels ∙ ap (total_moved n r.levels) word ∙ r.moved;
      least = r.least;
    }

-- And so it is for every mask that has a guard and that decoding does not refuse.
pub at_the_guard : (n mask guard : ℕ) → 1 ≤ n → n ≤ 6 → mask < 2 ^ (2 ^ n) → guard_of n mask ≡ some guard → LostAtGuard n mask guard
at_the_guard n mask guard some_slots small fits has_guard =
    let elsewhere = least_elsewhere n mask guard has_guard in
    record {
      block = elsewhere;
      lost = λ folding allowance folding_fits few. answered elsewhere folding allowance
          (record {
            some_slots = some_slots;
            small = small;
            long = elsewhere.long;
            mask_fits = fits;
            folding_fits = folding_fits;
            few = few;
            ranged = elsewhere.ranged;
          });
    }
  where
    answered : (block : LeastElsewhere n mask guard) (folding allowance : ℕ) → Accepted n block.received mask folding
        → walk_visits n mask (level_cost block.received) folding ≤ allowance
        → (a : Decoded) × (decode_answer n block.received mask folding allowance ≡ done a) × (a.message ≡ 0)
    answered block folding allowance given enough =
        let r = accepted_done n block.received mask folding allowance given enough in
        let zero = least_unique n mask (level_cost block.received) r.0.d 0 r.2.least block.least in
        (r.0, r.1, r.2.message ∙ ap (gather n mask) zero ∙ gather-zero n mask)
