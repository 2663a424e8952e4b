-- `code::levels::encode_levels` meets its contract.
use Rattle.std.proofs.Common.{sym, ◌∙◌}
use Rattle.refusal.proofs.Exits.{handed_on}
use Rattle.word.specs.Sizes.{slots_right}
use Rattle.code.proofs.Slices.{levels_size, levels_length, levels_answer, left_refused, left_done}
use Rattle.code.proofs.levels.encode_levels.Goals as goal

pub returns-then-wrong_size : goal.returns-then-wrong_size
returns-then-wrong_size c =
    let ends = left_refused _ _ _ _ _ (levels_size _ _ _ _ (sym c.wrong_size.ensures ∙ c.if-wrong_size.true)) in
    record { answer = ends.0; left = ends.1 }

pub returns-then-levels-slots : goal.returns-then-levels-slots
returns-then-levels-slots c =
    let right = sym c.wrong_size.ensures ∙ c.if-wrong_size.false in
    let ends =
    left_refused _ _ _ _ _ (levels_length _ _ _ _ right (λ e. c.if-levels-slots.true (e ∙ sym (slots_right _ right _ c.slots.ensures))))
    in
    record { answer = ends.0; left = ends.1 }

pub returns-in_err-encoded : goal.returns-in_err-encoded
returns-in_err-encoded c =
    let right = sym c.wrong_size.ensures ∙ c.if-wrong_size.false in
    let whole = c.if-levels-slots.false ∙ slots_right _ right _ c.slots.ensures in
    let ends = left_refused _ _ _ _ _ (c.in_err-encoded.ensures ∙ levels_answer _ _ _ _ right whole) in
    record { answer = handed_on _ _ _ c.from_residual.ensures.1 ends.0; left = ends.1 }

pub returns : goal.returns
returns c =
    let right = sym c.wrong_size.ensures ∙ c.if-wrong_size.false in
    let whole = c.if-levels-slots.false ∙ slots_right _ right _ c.slots.ensures in
    let ends = left_done _ _ _ _ _ _ (c.in_ok-encoded.ensures ∙ levels_answer _ _ _ _ right whole) in
    rw (c.fill.ensures _ whole) (record { answer = ends.0; left = ends.1 })
