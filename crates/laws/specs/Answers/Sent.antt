-- Decoding the record that is written for a request: the message that was sent comes back, with distance 0, or the allowance is too
-- small. So it is for every request that is taken from bytes.
-- What rests on the statements here stands in proofs/Answers/Sent.antt.
use Rattle.std.specs.Prelude.{ℕ, ◌+◌}
use Rattle.std.proofs.Math.Bool.{cond}
use Rattle.std.proofs.Math.Dec.{leb}
use Rattle.rules.specs.Below.{count_below}
use Rattle.rules.specs.Word.{codeword, spread}
use Rattle.rules.specs.Folding.{group, groups}
use Rattle.rules.specs.Refusals.{Answer, refused, done}
use Rattle.rules.specs.Answers.{Decoded}
use Rattle.rules.specs.Request.{Request}
use Rattle.laws.specs.Answers.DecodeOrder.{eight}
use Rattle.laws.specs.Walk.FillingCount.{has_unfrozen}

-- the word that a request's message is sent as
abbrev pub word_sent : Request → ℕ
word_sent r = spread r.n r.mask r.message

-- the visits that its record takes: one for each group, and one more for each group with an unfrozen index
abbrev pub visits_sent : Request → ℕ
visits_sent r =
    groups r.n r.folding + count_below (groups r.n r.folding) (λ k. has_unfrozen r.mask (group r.n r.folding k))

-- its message, received as it was sent
abbrev pub decoded_sent : Request → Decoded
decoded_sent r =
    record { message = r.message; d = word_sent r; x = codeword r.n (word_sent r); distance = 0; visits = visits_sent r }

-- what its record is answered with: that, or refusal 8
abbrev pub answer_sent : Request → Answer Decoded
answer_sent r = cond (leb (visits_sent r) r.allowance) (done (decoded_sent r)) (refused eight)
