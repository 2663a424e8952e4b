-- `checks::folded` meets its contract: past the tests of the code, those of the folding are left.
use Rattle.std.specs.Prelude.{ℕ, ◌*◌, ◌%◌, ◌^◌, ◌≤◌, ◌≡◌}
use Rattle.std.proofs.Common.{sym, ◌∙◌, arith}
use borrow.Author.Tests.{lt-ltb, le-ltb, le-leb, lt-leb}
use Rattle.rules.specs.Refusals.{answer, largest}
use Rattle.rules.specs.Orders.{code_order, folding_order, folded_order}
use Rattle.laws.specs.Numbers.Bits.{power_shifted}
use Rattle.laws.specs.Answers.Orders.{Passed, answer_after, code_right}
use Rattle.checks.specs.Verdicts.{folded_verdict}
use Rattle.refusal.proofs.Exits.{handed_on}
use Rattle.checks.specs.Passing.{code_passed, code_refused_first}
use Rattle.checks.proofs.folded.Goals as goal

-- where the code is right
module _ (n mask : ℕ) (right : Passed (code_order n mask)) where
  -- what is left to answer
  after_code : (folding : ℕ) → folded_verdict n mask folding ≡ answer (folding_order n folding) tt
  unfolding folded_verdict folded_order
  after_code folding = answer_after (code_order n mask) (folding_order n folding) tt right

  small : n ≤ largest
  small = ((code_right n mask).0 right).small

  -- the bound of the folding, as the machine shifts it
  bound : 1 * 2 ^ n % 2 ^ 32 ≡ 2 ^ n
  bound = power_shifted 32 n (omega (arith, small))

pub returns-in_err-code : goal.returns-in_err-code
unfolding folded_verdict folded_order
returns-in_err-code c = handed_on _ _ _ c.from_residual.ensures.1 (code_refused_first _ _ c.code.ensures _ tt c.in_err-code.was)

pub overflow_shl-n : goal.overflow_shl-n
overflow_shl-n c = omega (arith, small _ _ (code_passed _ _ c.code.ensures c.in_ok-code.was))

pub returns-then-n-folding : goal.returns-then-n-folding
unfolding folding_order
returns-then-n-folding c =
    let right = code_passed _ _ c.code.ensures c.in_ok-code.was in
    sym (after_code _ _ right _ ∙ rw (le-leb _ _ (rw (bound _ _ right) at c.if-n-folding.true)))

pub returns-then-folding_size-gt3 : goal.returns-then-folding_size-gt3
unfolding folding_order
returns-then-folding_size-gt3 c =
    let right = code_passed _ _ c.code.ensures c.in_ok-code.was in
    sym
    (after_code _ _ right _
    ∙ rw (
      lt-leb _ _ (rw (bound _ _ right) at c.if-n-folding.false),
      lt-ltb _ _ (rw c.folding_size.ensures at c.if-folding_size-gt3.true),
    ))

pub returns : goal.returns
unfolding folding_order
returns c =
    let right = code_passed _ _ c.code.ensures c.in_ok-code.was in
    sym
    (after_code _ _ right _
    ∙ rw (
      lt-leb _ _ (rw (bound _ _ right) at c.if-n-folding.false),
      le-ltb _ _ (rw c.folding_size.ensures at c.if-folding_size-gt3.false),
    ))
