-- `light::Assembler::new` meets its contract.
use mathlib.Core.Path.{◌≡◌, refl, sym, ◌∙◌}
use mathlib.Core.Bool.{true, false}
use Rattle.rules.specs.Refusals.{is_wrong_size}
use Rattle.rules.specs.Answers.{new_answer}
use Rattle.light.proofs.Assembler.new.Goals as goal

pub returns-then-wrong_size : goal.returns-then-wrong_size
unfolding new_answer
returns-then-wrong_size c =
    let e : is_wrong_size c.args.n ≡ true = sym c.wrong_size.ensures ∙ c.if-wrong_size.true in
    record { verdict = rw e; left = refl }

pub returns : goal.returns
unfolding new_answer
returns c =
    let e : is_wrong_size c.args.n ≡ false = sym c.wrong_size.ensures ∙ c.if-wrong_size.false in
    record { verdict = rw e; left = refl }
