-- `light::Assembler::take` meets its contract.
use mathlib.Core.Path.{◌≡◌, ◌∙◌, ap}
use borrow.Author.Rules.{rules}
use Rattle.std.specs.Prelude.{Err}
use Rattle.std.proofs.lemmas.Result.{MatchResult-at_ok, MatchResult-at_err, err_from_is_err_and}
use Rattle.light.specs.Values.{reading_of}
use Rattle.light.proofs.Handing.{handed}
use Rattle.light.proofs.Assembler.take.Goals as goal

pub returns : goal.returns
returns c =
    let cases = c.map_err.ensures.cases in
    handed c.args.self (reading_of c.args.reading) c.map_err.result c.taken.result c.taken.ensures
    (λ b e. MatchResult-at_ok _ _ b e cases)
    (λ why e.
    let p = err_from_is_err_and c.map_err.result (MatchResult-at_err _ _ why e cases) in
    let q : p.0 ≡ record { why = why; assembler = c.args.self } = search rules in
    p.1 ∙ ap Err q)
