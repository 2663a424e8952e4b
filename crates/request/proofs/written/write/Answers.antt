-- `request::written::write` meets its contract.
use mathlib.Core.Path.{sym, ◌∙◌, ap}
use native.Mathlib.Omega.{arith}
use Rattle.std.proofs.lemmas.Result.{err_from_is_err_and}
use Rattle.rules.specs.Answers.{Encoded}
use Rattle.rules.specs.Request.{bytes_of, write_order}
use Rattle.laws.proofs.Answers.Requests.{write_right}
use Rattle.refusal.specs.Results.{result_passed}
use Rattle.word.specs.Sizes.{slots_are}
use Rattle.code.specs.Reading.{words_of, encoded_of}
use Rattle.text.specs.Puts.{put-length, put_then}
use Rattle.request.specs.Reading.{request_in}
use Rattle.request.proofs.Wrote.{wrote_none, wrote_refused, wrote_record}
use Rattle.request.proofs.written.write.Goals as goal

pub returns-then-out-lt-RECORD_BYTES : goal.returns-then-out-lt-RECORD_BYTES
returns-then-out-lt-RECORD_BYTES c = wrote_none _ _ (omega arith)

pub put_levels-requires : goal.put_levels-requires
unfolding bytes_of
put_levels-requires c =
    let head = c.put_head-at.ensures in
    omega (arith, head.ends, put-length head)

pub returns-in_err-words : goal.returns-in_err-words
returns-in_err-words c =
    let r = request_in c.args.request in
    let same = err_from_is_err_and c.from_residual.result c.from_residual.ensures.1 in
    rw (same.1, same.2)
    (wrote_refused r _ _ _ (omega arith) (sym c.encoded.ensures ∙ ap encoded_of c.in_err-words.was))

pub returns : goal.returns
returns c =
    let r = request_in c.args.request in
    let words = result_passed words_of (write_order r) _ c.encoded.ensures c.in_ok-words.was in
    let slots = slots_are r.n _ ((write_right r).0 words.0).folded.code.small c.slots.ensures in
    wrote_record r _ (omega arith) words.0 (ap (λ (e : Encoded). e.x) words.1) slots
    (put_then c.put_head-at.ensures c.put_levels.ensures)
