-- `groups::doubling::double` meets its contract. Invariant: the first m items are kept, and u of them added behind.
use mathlib.Core.Path.{◌∙◌}
use native.Mathlib.Omega.{arith}
use Rattle.groups.proofs.DoublingLemmas.{turned_none, turned_next, turned_all}
use Rattle.groups.proofs.doubling.double.Goals as goal

pub loop-u-init : goal.loop-u-init
loop-u-init g c = turned_none

pub step-requires : goal.step-requires
step-requires g c =
    let read = c.index-items-u.is ∙ c.loop-u.invariant.kept _ _ c.loop-u-test.true in
    rw (← read) at (c.requires.callable _ c.index-items-u.result c.loop-u-test.true)

pub loop-u-preserved : goal.loop-u-preserved
loop-u-preserved g c =
    turned_next c.loop-u.invariant c.requires.room c.loop-u-test.true _ _ c.index-items-u.is c.step.ensures

pub returns : goal.returns
returns g c = turned_all c.loop-u.invariant (omega arith)
