-- `record::read` meets its contract.
use Prim.Native.Nat.{ℕ, ◌^◌, ◌≤◌}
use mathlib.Core.Path.{◌≡◌, sym, ◌∙◌, ap}
use mathlib.Core.Bool.{false}
use native.Mathlib.Omega.{arith}
use borrow.Author.Tests.{lt-ltb}
use Rattle.std.proofs.Math.Pow.{pow_mono}
use Rattle.std.proofs.lemmas.Result.{err_from_is_err_and}
use Rattle.rules.specs.Refusals.{is_wrong_size, done}
use Rattle.rules.specs.Record.{Fields, fields_of}
use Rattle.laws.specs.Answers.Orders.{passed_done}
use Rattle.word.specs.Words.{word_of, size_of}
use Rattle.word.specs.Sizes.{right_size}
use Rattle.checks.specs.Verdicts.{verdict_of, folded_verdict}
use Rattle.checks.specs.Passing.{folded_passed, folded_refused}
use Rattle.record.specs.Reading.{zeros_at}
use Rattle.record.proofs.Order.{size_at, mask_at, folding_at, from_code, from_13, after13, after1, after12}
use Rattle.record.proofs.read.Goals as goal
use Rattle.record.proofs.read.Goals.{After-wrong_size, Else-wrong_size, After-zeros, After-folded}

-- the tests as the code makes them
size-test : (c : After-wrong_size) → is_wrong_size (size_at c.args.bytes.now) ≡ c.wrong_size.result
size-test c = rw (← c.number-n.ensures.value) (sym c.wrong_size.ensures)

size_right : (c : Else-wrong_size) → is_wrong_size (size_at c.args.bytes.now) ≡ false
size_right c = rw (← c.number-n.ensures.value) (sym c.wrong_size.ensures ∙ c.if-wrong_size.false)

zero_test : (c : After-zeros) → is_wrong_size (size_at c.args.bytes.now) ≡ false
    → zeros_at c.args.bytes.now (2 ^ size_at c.args.bytes.now) ≡ c.zeros.result
zero_test c right =
    let slots : c.slots.result ≡ 2 ^ size_at c.args.bytes.now =
    c.slots.ensures ∙ ap (λ (k : ℕ). 2 ^ k) (ap size_of c.number-n.ensures.value ∙ right_size _ right)
    in
    rw (← slots) (sym c.zeros.ensures)

-- the verdict on the record's code and folding
mask-read : (c : After-folded) → word_of c.from-mask.result ≡ mask_at c.args.bytes.now
mask-read c = c.from-mask.ensures ∙ c.number.ensures.value

folded-test : (c : After-folded)
    → verdict_of c.folded.result ≡ folded_verdict (size_at c.args.bytes.now) (mask_at c.args.bytes.now) (folding_at c.args.bytes.now)
folded-test c = rw (← c.number-n.ensures.value, ← mask-read c, ← c.number-folding.ensures.value) c.folded.ensures

pub returns-then-bytes-lt-RECORD_BYTES : goal.returns-then-bytes-lt-RECORD_BYTES
returns-then-bytes-lt-RECORD_BYTES c = sym (from_13 _ ∙ rw (lt-ltb _ 144 c.if-bytes-lt-RECORD_BYTES.true))

pub returns-then-wrong_size : goal.returns-then-wrong_size
returns-then-wrong_size c =
    let wrong = size-test (goal.at.returns-then-wrong_size c).After-wrong_size ∙ c.if-wrong_size.true in
    sym (after13 _ c.if-bytes-lt-RECORD_BYTES.false ∙ rw wrong)

pub zeros-requires : goal.zeros-requires
zeros-requires c =
    let most : 2 ^ size_of c.number-n.result ≤ 2 ^ 6 = pow_mono {j = 6} (omega arith) in
    (omega arith, omega (arith, c.slots.ensures))

pub returns-then-not-zeros : goal.returns-then-not-zeros
returns-then-not-zeros c =
    let right = size_right (goal.at.returns-then-not-zeros c).Else-wrong_size in
    let wrong = zero_test (goal.at.returns-then-not-zeros c).After-zeros right ∙ c.if-not-zeros.true in
    sym (after1 _ c.if-bytes-lt-RECORD_BYTES.false right ∙ rw wrong)

pub returns-in_err-folded : goal.returns-in_err-folded
returns-in_err-folded c =
    let at = goal.at.returns-in_err-folded c in
    let right = size_right at.Else-wrong_size in
    let zeros = zero_test at.After-zeros right ∙ c.if-not-zeros.false in
    let same = err_from_is_err_and c.from_residual.result c.from_residual.ensures.1 in
    rw (same.1, same.2)
    (sym
    (after12 _ c.if-bytes-lt-RECORD_BYTES.false right zeros
    ∙ sym (folded_refused _ _ _ (folded-test at.After-folded) _ c.in_err-folded.was)))

pub returns : goal.returns
unfolding fields_of
returns c =
    let at = goal.at.returns c in
    let bytes = c.args.bytes.now in
    let right = size_right at.Else-wrong_size in
    let zeros = zero_test at.After-zeros right ∙ c.if-not-zeros.false in
    let fields : ◌≡◌ {A = Fields}
    (record { n = c.number-n.result; folding = c.number-folding.result; allowance = c.number-allowance.result; mask = word_of c.from-mask.result; levels = c.levels-levels.result })
    (fields_of bytes) =
    λ i. record {
      n = c.number-n.ensures.value i;
      folding = c.number-folding.ensures.value i;
      allowance = c.number-allowance.ensures.value i;
      mask = mask-read at.After-folded i;
      levels = c.levels-levels.ensures i;
    } in
    ap done fields
    ∙ sym
    (after12 _ c.if-bytes-lt-RECORD_BYTES.false right zeros
    ∙ passed_done (from_code bytes) _ (folded_passed _ _ _ (folded-test at.After-folded) c.in_ok-folded.was))
