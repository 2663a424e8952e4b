-- `request::encoded` meets its contract.
use mathlib.Core.Path.{sym, ◌∙◌}
use mathlib.Core.List.{[], ◌∷◌}
use Rattle.std.proofs.lemmas.Result.{err_from_is_err_and}
use Rattle.rules.specs.Refusals.{wrong_message}
use Rattle.rules.specs.Orders.{code_order, folding_order, folded_order, encode_order}
use Rattle.rules.specs.Answers.{encode_answer}
use Rattle.rules.specs.Request.{write_order}
use Rattle.laws.specs.Answers.Orders.{parts, answer_after}
use Rattle.word.specs.Words.{word_of}
use Rattle.checks.specs.Passing.{folded_passed, folded_refused_first}
use Rattle.request.proofs.encoded.Goals as goal

pub returns-in_err-folded : goal.returns-in_err-folded
unfolding write_order
returns-in_err-folded c =
    let same = err_from_is_err_and c.from_residual.result c.from_residual.ensures.1 in
    rw (same.1, same.2) (folded_refused_first _ _ _ c.folded.ensures _ _ c.in_err-folded.was)

pub returns : goal.returns
unfolding write_order folded_order encode_answer encode_order
returns c =
    let r = c.args.request in
    let last = wrong_message r.n (word_of r.mask) (word_of r.message) ∷ [] in
    let right = folded_passed _ _ _ c.folded.ensures c.in_ok-folded.was in
    c.encode.ensures
    ∙ answer_after (code_order r.n (word_of r.mask)) last _ ((parts (code_order r.n (word_of r.mask)) (folding_order r.n r.folding)).0 right).0
    ∙ sym (answer_after (folded_order r.n (word_of r.mask) r.folding) last _ right)
