-- `word::count::fewest_ones` meets its contract. Invariant: what was found is the fewest ones below i.
use mathlib.Core.Option.{some}
use mathlib.Core.Path.{◌∙◌, sym, ap}
use native.Mathlib.Numerals.{add-one}
use borrow.Author.Rules.{rules}
use borrow.Author.Tests.{eq-eqb, ne_eqb}
use Rattle.rules.specs.Below.{least_below, or_less}
use Rattle.word.specs.Options.{option_of}
use Rattle.word.proofs.count.fewest_ones.Goals as goal
use Rattle.word.proofs.count.fewest_ones.Goals.{then-bit-eq0, else-bit-eq0}

pub loop-i-init : goal.loop-i-init
unfolding least_below
loop-i-init c = search rules

pub loop-i-preserved : goal.loop-i-preserved
unfolding least_below
loop-i-preserved c =
    let read = c.bit.ensures in
    rw add-one
    (elim c.if-bit-eq0.branch [
      | then-bit-eq0 w ↦
          rw (eq-eqb _ _ (sym read ∙ w.if-bit-eq0.true))
          (ap option_of w.found-is ∙ ap some (w.fewer.ensures ∙ ap (or_less _) c.loop-i.invariant))
      | else-bit-eq0 w ↦ rw (ne_eqb _ _ (λ e. w.if-bit-eq0.false (read ∙ e))) (ap option_of w.found-is ∙ c.loop-i.invariant)
    ])
