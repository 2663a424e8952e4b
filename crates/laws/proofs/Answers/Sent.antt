-- Decoding the record that is written for a request: the message that was sent comes back, with distance 0, or the allowance is too
-- small. So it is for every request that is taken from bytes.
use Rattle.std.specs.Prelude.{ℕ, zero, suc, ◌^◌, ◌<◌, ◌≡◌, Bool, List}
use Rattle.std.proofs.Math.Path.{refl, ap}
use Rattle.std.proofs.Common.{sym, ◌∙◌, leb-true, leb-false}
use Rattle.std.proofs.Math.Bool.{true, false, cond}
use Rattle.std.proofs.Math.Dec.{leb}
use Rattle.rules.specs.Word.{codeword, gather}
use Rattle.rules.specs.Level.{best, ideal, in_range, level_cost, word_distance, least_word}
use Rattle.rules.specs.Walk.{walk_visits}
use Rattle.rules.specs.Refusals.{refused, done}
use Rattle.rules.specs.Orders.{decode_order}
use Rattle.rules.specs.Answers.{decoded, decode_answer}
use Rattle.rules.specs.Record.{read_answer, record_answer}
use Rattle.rules.specs.Request.{Request, request_of, request_answer, record_of}
use Rattle.laws.proofs.Answers.ReadBack.{read_back}
use Rattle.laws.proofs.Answers.Requests.{request_right, write_right}
use Rattle.laws.proofs.Answers.WrittenRecord.{block_sent}
use Rattle.laws.proofs.Numbers.BytesOf.{number_at_small}
use Rattle.laws.proofs.Walk.CleanBlock.{clean_kept}
use Rattle.laws.proofs.Walk.IdealVisits.{ideal_visits}
use Rattle.laws.proofs.Walk.LeastByWalk.{walk_least}
use Rattle.laws.specs.Answers.DecodeOrder.{DecodeRight, Ranged, decode_gives_up, decode_right, eight}
use Rattle.laws.specs.Answers.Orders.{passed_done}
use Rattle.laws.specs.Answers.Records.{read_decoded}
use Rattle.laws.specs.Answers.Requests.{WriteRight}
use Rattle.laws.specs.Answers.Sent.{answer_sent, decoded_sent, visits_sent, word_sent}
use Rattle.laws.specs.Answers.Sizes.{size_right}
use Rattle.laws.specs.Answers.WrittenRecord.{bit_sent, levels_sent, sent-length, sent_at, written_fields}
use Rattle.laws.specs.Code.Message.{gather-spread, spread-permitted}
use Rattle.laws.specs.Numbers.BytesOf.{Bytes}
use Rattle.laws.specs.Walk.CleanBlock.{ideal-clean}

-- an ideal level is in range
ideal_range : (b : ℕ) → in_range (ideal b) ≡ true
ideal_range zero = refl
ideal_range (suc b) = refl

-- the levels sent are in range
sent-ranged : (r : Request) → Ranged r.n (levels_sent r)
sent-ranged r i l = rw (sent_at r i l) (ideal_range (bit_sent r i))

-- the cost at the levels sent
abbrev cost_sent : Request → ℕ → ℕ → ℕ
cost_sent r = level_cost (levels_sent r)

-- and the least word at that cost
abbrev least_sent : Request → ℕ
least_sent r = least_word r.n r.mask (cost_sent r)

module _ (r : Request) (right : WriteRight r) where
  -- the least word of the levels sent is the word that was sent, at distance 0
  word_found : best (word_distance r.n (cost_sent r) (least_sent r)) (least_sent r) ≡ best 0 (word_sent r)
  word_found =
      let fits = right.folded.sets.fits in
      sym (walk_least r.n r.mask (cost_sent r) r.folding fits)
      ∙ clean_kept r.n r.mask (cost_sent r) r.folding (word_sent r) (ideal-clean r.n (word_sent r)) fits
      (spread-permitted r.n r.mask r.message)

  -- the visits of that walk
  visits_sent_lem : walk_visits r.n r.mask (cost_sent r) r.folding ≡ visits_sent r
  visits_sent_lem =
      ideal_visits r.n r.mask r.folding (word_sent r) right.folded.sets.fits (spread-permitted r.n r.mask r.message)

  -- so that the decoding is that of the message sent
  decoded-sent : decoded r.n (levels_sent r) r.mask r.folding ≡ decoded_sent r
  unfolding decoded
  decoded-sent =
      let found = word_found in
      let word : least_sent r ≡ word_sent r = cc in
      let near : word_distance r.n (cost_sent r) (least_sent r) ≡ 0 = cc in
      λ i. record {
        message = (ap (gather r.n r.mask) word ∙ gather-spread r.n r.mask r.message right.message_fits) i;
        d = word i;
        x = ap (codeword r.n) word i;
        distance = near i;
        visits = visits_sent_lem i;
      }

  -- 1 to 7 let the levels sent pass
  sent_right : DecodeRight r.n (levels_sent r) r.mask r.folding
  sent_right = record {
    lent = record { size = size_right r.n right.folded.code.some_slots right.folded.code.small; long = sent-length r };
    folded = right.folded;
    ranged = sent-ranged r;
  }

  -- what decoding the levels sent answers
  sent-decoded : decode_answer r.n (levels_sent r) r.mask r.folding r.allowance ≡ answer_sent r
  unfolding decode_answer
  sent-decoded = go (leb (visits_sent r) r.allowance) refl
    where
      go : (t : Bool) → leb (visits_sent r) r.allowance ≡ t
          → decode_answer r.n (levels_sent r) r.mask r.folding r.allowance ≡ cond t (done (decoded_sent r)) (refused eight)
      go true t =
          passed_done (decode_order r.n (levels_sent r) r.mask r.folding r.allowance) (decoded r.n (levels_sent r) r.mask r.folding)
          ((decode_right r.n (levels_sent r) r.mask r.folding r.allowance).1 (sent_right, rw visits_sent_lem (leb-true _ _ t)))
          ∙ ap done decoded-sent
      go false t =
          (decode_gives_up r.n (levels_sent r) r.mask r.folding r.allowance (decoded r.n (levels_sent r) r.mask r.folding)).1
          (sent_right, rw visits_sent_lem (leb-false _ _ t))

  -- what the record that is written answers
  pub made-decoded : r.allowance < 256 ^ 4 → record_answer (record_of r) ≡ answer_sent r
  made-decoded small =
      read_decoded (record_of r) (written_fields r) (read_back r right small)
      ∙ ap (λ levels. decode_answer r.n levels r.mask r.folding r.allowance) (block_sent r)
      ∙ sent-decoded

-- a request that is taken from bytes has an allowance of four bytes
allowance_small : (bytes : List ℕ) (r : Request) → Bytes bytes → request_of bytes ≡ r → r.allowance < 256 ^ 4
unfolding request_of
allowance_small bytes r small fields = rw (← fields) (number_at_small bytes 4 4 small)

module _ (bytes : List ℕ) (r : Request) (small : Bytes bytes) (taken : request_answer bytes ≡ done r) where
  -- its record can be written
  taken_right : WriteRight r
  taken_right = (write_right r).0 (request_right bytes r taken).written

  -- its record, read, gives its fields and the levels written
  pub taken_read_back : read_answer (record_of r) ≡ done (written_fields r)
  taken_read_back = read_back r taken_right (allowance_small bytes r small (request_right bytes r taken).fields)

  -- its record, decoded, gives its message
  pub taken-decoded : record_answer (record_of r) ≡ answer_sent r
  taken-decoded = made-decoded r taken_right (allowance_small bytes r small (request_right bytes r taken).fields)
