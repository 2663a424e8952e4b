-- `code::encode` meets its contract: past the tests of the code, that of the message is left.
use Rattle.std.specs.Prelude.{ℕ, ◌≤◌, ◌≡◌, [], ◌∷◌}
use Rattle.std.proofs.Common.{sym, ◌∙◌, ap}
use Rattle.rules.specs.Refusals.{done, answer, wrong_message, largest}
use Rattle.rules.specs.Orders.{code_order, encode_order}
use Rattle.rules.specs.Answers.{encoded, encode_answer}
use Rattle.laws.specs.Answers.Orders.{Passed, code_right, answer_after}
use Rattle.refusal.proofs.Exits.{handed_on}
use Rattle.checks.specs.Passing.{code_passed, code_refused_first}
use Rattle.code.proofs.Tests.{message_test, words_right}
use Rattle.code.proofs.encode.Goals as goal

-- where the code is right: its n is small, and what is left to answer
module _ (n mask : ℕ) (right : Passed (code_order n mask)) where
  small : n ≤ largest
  small = ((code_right n mask).0 right).small

  after_code : (message : ℕ) → encode_answer n mask message ≡ answer (wrong_message n mask message ∷ []) (encoded n mask message)
  unfolding encode_answer encode_order
  after_code message = answer_after (code_order n mask) _ _ right

pub returns-in_err-code : goal.returns-in_err-code
unfolding encode_answer encode_order
returns-in_err-code c = handed_on _ _ _ c.from_residual.ensures.1 (code_refused_first _ _ c.code.ensures _ _ c.in_err-code.was)

pub returns-then-reaches : goal.returns-then-reaches
returns-then-reaches c =
    let right = code_passed _ _ c.code.ensures c.in_ok-code.was in
    sym
    (after_code _ _ right _
    ∙ rw (message_test _ (small _ _ right) _ _ _ _ c.unfrozen.ensures c.reaches.ensures ∙ c.if-reaches.true))

pub returns : goal.returns
returns c =
    let right = code_passed _ _ c.code.ensures c.in_ok-code.was in
    ap done (words_right _ (small _ _ right) _ _ _ _ c.spread-d.ensures c.map.ensures)
    ∙ sym
    (after_code _ _ right _
    ∙ rw (message_test _ (small _ _ right) _ _ _ _ c.unfrozen.ensures c.reaches.ensures ∙ c.if-reaches.false))
