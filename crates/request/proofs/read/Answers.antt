-- `request::read` meets its contract: 13, 1, 12, and then what writing the record refuses.
use Prim.Native.Nat.{ℕ, ◌≤◌}
use mathlib.Core.Path.{◌≡◌, sym, ◌∙◌, ap}
use mathlib.Core.Bool.{false, not}
use mathlib.Core.Option.{Option}
use mathlib.Core.List.{List, ◌∷◌}
use lib.Dec.{ltb, eqb}
use lib.ListN.{length}
use borrow.Author.Tests.{lt-ltb, le-ltb, eq-eqb, ne_eqb}
use Rattle.std.proofs.lemmas.Result.{err_from_is_err_and}
use Rattle.rules.specs.Refusals.{Refusal, answer, refuse, is_wrong_size}
use Rattle.rules.specs.Record.{number_at}
use Rattle.rules.specs.Request.{Request, request_bytes, request_of, request_answer, write_order}
use Rattle.laws.specs.Answers.Orders.{passed_done}
use Rattle.laws.proofs.Answers.Requests.{request_parts}
use Rattle.refusal.specs.Results.{result_passed, result_refused}
use Rattle.word.specs.Words.{word_of}
use Rattle.code.specs.Reading.{words_of}
use Rattle.request.proofs.read.Goals as goal
use Rattle.request.proofs.read.Goals.{After-wrong_size, Else-wrong_size, After-encoded}

-- ---- the order from each test on

abbrev from12 : List ℕ → List (Option Refusal)
from12 bytes = refuse 12 (not (eqb (number_at bytes 2 2) 0)) ∷ write_order (request_of bytes)

abbrev from1 : List ℕ → List (Option Refusal)
from1 bytes = refuse 1 (is_wrong_size (number_at bytes 0 1)) ∷ from12 bytes

from_13 : (bytes : List ℕ) → request_answer bytes ≡ answer (refuse 13 (ltb (length bytes) request_bytes) ∷ from1 bytes) (request_of bytes)
unfolding request_answer request_of
from_13 bytes = request_parts bytes (request_of bytes)

-- ---- what the rules still answer after each test that was passed

after13 : (bytes : List ℕ) → 24 ≤ length bytes → request_answer bytes ≡ answer (from1 bytes) (request_of bytes)
after13 bytes long = from_13 bytes ∙ rw (le-ltb _ 24 long)

after1 : (bytes : List ℕ) → 24 ≤ length bytes → is_wrong_size (number_at bytes 0 1) ≡ false
    → request_answer bytes ≡ answer (from12 bytes) (request_of bytes)
after1 bytes long right = after13 bytes long ∙ rw right

after12 : (bytes : List ℕ) → 24 ≤ length bytes → is_wrong_size (number_at bytes 0 1) ≡ false → number_at bytes 2 2 ≡ 0
    → request_answer bytes ≡ answer (write_order (request_of bytes)) (request_of bytes)
after12 bytes long right zeros = after1 bytes long right ∙ rw (eq-eqb _ 0 zeros)

size-test : (c : After-wrong_size) → is_wrong_size (number_at c.args.bytes.now 0 1) ≡ c.wrong_size.result
size-test c = rw (← c.number-n.ensures.value) (sym c.wrong_size.ensures)

size_right : (c : Else-wrong_size) → is_wrong_size (number_at c.args.bytes.now 0 1) ≡ false
size_right c = rw (← c.number-n.ensures.value) (sym c.wrong_size.ensures ∙ c.if-wrong_size.false)

-- ---- the request that was read is the rules'

abbrev fields_read : After-encoded → Request
fields_read c =
    record {
      n = c.number-n.result;
      folding = c.number-2.result;
      allowance = c.number-3.result;
      mask = word_of c.from.result;
      message = word_of c.from-2.result;
    }

fields_read_lem : (c : After-encoded) → fields_read c ≡ request_of c.args.bytes.now
unfolding request_of
fields_read_lem c i =
    record {
      n = c.number-n.ensures.value i;
      folding = c.number-2.ensures.value i;
      allowance = c.number-3.ensures.value i;
      mask = (c.from.ensures ∙ c.number-4.ensures.value) i;
      message = (c.from-2.ensures ∙ c.number-5.ensures.value) i;
    }

-- what the rules answer is what encoding its message leaves
answer-read : (c : After-encoded) → is_wrong_size (number_at c.args.bytes.now 0 1) ≡ false
    → request_answer c.args.bytes.now ≡ answer (write_order (fields_read c)) (fields_read c)
answer-read c right =
    after12 _ c.if-bytes-lt-REQUEST_BYTES.false right (sym c.number.ensures.value ∙ c.if-number-ne0.false)
    ∙ ap (λ (r : Request). answer (write_order r) r) (sym (fields_read_lem c))

pub returns-then-bytes-lt-REQUEST_BYTES : goal.returns-then-bytes-lt-REQUEST_BYTES
returns-then-bytes-lt-REQUEST_BYTES c = sym (from_13 _ ∙ rw (lt-ltb _ 24 c.if-bytes-lt-REQUEST_BYTES.true))

pub returns-then-wrong_size : goal.returns-then-wrong_size
returns-then-wrong_size c =
    let wrong = size-test (goal.at.returns-then-wrong_size c).After-wrong_size ∙ c.if-wrong_size.true in
    sym (after13 _ c.if-bytes-lt-REQUEST_BYTES.false ∙ rw wrong)

pub returns-then-number-ne0 : goal.returns-then-number-ne0
returns-then-number-ne0 c =
    let right = size_right (goal.at.returns-then-number-ne0 c).Else-wrong_size in
    sym (after1 _ c.if-bytes-lt-REQUEST_BYTES.false right ∙ rw (ne_eqb _ 0 (λ e. c.if-number-ne0.true (c.number.ensures.value ∙ e))))

pub returns-in_err-encoded : goal.returns-in_err-encoded
returns-in_err-encoded c =
    let at = goal.at.returns-in_err-encoded c in
    let words = at.After-encoded in
    let same = err_from_is_err_and c.from_residual.result c.from_residual.ensures.1 in
    rw (same.1, same.2)
    (sym
    (answer-read words (size_right at.Else-wrong_size)
    ∙ sym (result_refused words_of (write_order (fields_read words)) _ c.encoded.ensures _ c.in_err-encoded.was)))

pub returns : goal.returns
returns c =
    let at = goal.at.returns c in
    let words = at.After-encoded in
    let order = write_order (fields_read words) in
    sym
    (answer-read words (size_right at.Else-wrong_size)
    ∙ passed_done order _ (result_passed words_of order _ c.encoded.ensures c.in_ok-encoded.was).0)
