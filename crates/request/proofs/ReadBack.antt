-- What `write` has written is read and decoded back: of the contract of `write` itself, over the front of the buffer that it leaves.
use Prim.Native.Nat.{ℕ, ◌^◌, ◌≤◌, ◌<◌}
use mathlib.Core.Path.{◌≡◌, sym, ◌∙◌, ap}
use mathlib.Core.Option.{some, none-ne-some}
use mathlib.Core.List.{List, ◌++◌}
use native.Mathlib.Decide.{dec_le}
use native.Mathlib.Omega.{arith}
use lib.ListN.{length, take, drop}
use lib.Seq.{take_at}
use Rattle.std.specs.Prelude.{Result, Ok}
use Rattle.rules.specs.Refusals.{done}
use Rattle.rules.specs.Record.{record_bytes, read_answer, record_answer}
use Rattle.rules.specs.Request.{Request, write_order, write_answer, record_of, write_left}
use Rattle.laws.specs.Answers.OneAnswer.{ShownLeft}
use Rattle.laws.specs.Answers.Orders.{passed}
use Rattle.laws.specs.Answers.Requests.{WriteRight}
use Rattle.laws.proofs.Answers.Requests.{write_right}
use Rattle.laws.specs.Answers.WrittenRecord.{written_fields}
use Rattle.laws.proofs.Answers.WrittenRecord.{record_length}
use Rattle.laws.proofs.Answers.ReadBack.{read_back}
use Rattle.laws.specs.Answers.Sent.{answer_sent}
use Rattle.laws.proofs.Answers.Sent.{made-decoded}
use Rattle.request.specs.Reading.{request_in}
use Rattle.request.specs.Writing.{written_of, Wrote}
use Rattle.request.specs.declared.written.NotWritten.{NotWritten}
use Rattle.request.proofs.written.write.Reads as write

some-injective : {A : Type 0} {a b : A} → some a ≡ some b → a ≡ b
some-injective e = cc

module _ {request : Request} {before after : List ℕ} {written : Result (Unit {0}) NotWritten} (w : Wrote request before written after) (is : written ≡ Ok tt) where
  -- where a record is written, there was room
  roomy : record_bytes ≤ length before
  roomy = go (dec_le record_bytes (length before))
    where
      go : Dec (record_bytes ≤ length before) → record_bytes ≤ length before
      go (yes l) = l
      go (no l) = absurd (none-ne-some _ (sym (w.small (omega arith)).0 ∙ ap written_of is))

  -- the request is not refused
  answered : write_answer request ≡ done tt
  answered = some-injective (sym (w.wide roomy).0 ∙ ap written_of is)

  right : WriteRight request
  unfolding write_answer
  right = (write_right request).0 (passed (write_order request) tt tt answered).0

  -- and the buffer has its record in front
  front : take record_bytes after ≡ record_of request
  unfolding write_left
  front =
      let is_front : after ≡ record_of request ++ drop record_bytes before = rw answered at (w.wide roomy).1 in
      rw is_front (take_at (record_of request) (drop record_bytes before) record_bytes (record_length request right))

-- where a record was written and its allowance has 32 bits, the front of the buffer is read back
pub write_read_back : ShownLeft write.Learnt (λ κs a r v. r ≡ Ok tt → a.0.allowance < 256 ^ 4
    → read_answer (take record_bytes v.1.0.now) ≡ done (written_fields (request_in a.0)))
write_read_back κs a r v w is small = rw (front w is) (read_back (request_in a.0) (right w is) small)

-- and decoded to the message
pub write_decoded : ShownLeft write.Learnt (λ κs a r v. r ≡ Ok tt → a.0.allowance < 256 ^ 4
    → record_answer (take record_bytes v.1.0.now) ≡ answer_sent (request_in a.0))
write_decoded κs a r v w is small = rw (front w is) (made-decoded (request_in a.0) (right w is) small)
