-- `checks::code` meets its contract.
use mathlib.Core.Path.{sym, ◌∙◌}
use Rattle.rules.specs.Orders.{code_order}
use Rattle.word.specs.Sizes.{mask_test}
use Rattle.checks.specs.Verdicts.{code_verdict}
use Rattle.checks.proofs.code.Goals as goal

pub returns-then-wrong_size : goal.returns-then-wrong_size
unfolding code_verdict code_order
returns-then-wrong_size c = rw (sym c.wrong_size.ensures ∙ c.if-wrong_size.true)

pub returns-then-reaches : goal.returns-then-reaches
unfolding code_verdict code_order
returns-then-reaches c =
    let right = sym c.wrong_size.ensures ∙ c.if-wrong_size.false in
    rw (right, mask_test c.args.n right _ _ _ c.slots.ensures c.reaches.ensures ∙ c.if-reaches.true)

pub returns : goal.returns
unfolding code_verdict code_order
returns c =
    let right = sym c.wrong_size.ensures ∙ c.if-wrong_size.false in
    rw (right, mask_test c.args.n right _ _ _ c.slots.ensures c.reaches.ensures ∙ c.if-reaches.false)
