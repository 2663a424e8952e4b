-- `tree::empty::first_empty` meets its contract. Invariant: no level before this one is empty.
use native.Mathlib.Omega.{arith}
use Rattle.groups.proofs.Tabling.{size_small, few_groups}
use Rattle.tree.proofs.deciding.Emptiness.{passed_next, found-empty, found_none}
use Rattle.tree.proofs.empty.first_empty.Goals as goal

pub bounds-shut-group : goal.bounds-shut-group
bounds-shut-group c = omega (arith, few_groups c.requires.0)

pub fillings-requires : goal.fillings-requires
fillings-requires c =
    let given = c.requires in
    (size_small given.0, given.1 _ (omega arith))

pub returns-then-fillings-eq0 : goal.returns-then-fillings-eq0
returns-then-fillings-eq0 c =
    found-empty c.requires.0 c.loop-level.invariant
    (record { inside = c.loop-level-test.true; number = c.fillings.ensures })
    c.if-fillings-eq0.true

pub loop-level-preserved : goal.loop-level-preserved
loop-level-preserved c =
    passed_next c.requires.0 c.loop-level.invariant
    (record { inside = c.loop-level-test.true; number = c.fillings.ensures })
    c.if-fillings-eq0.false

pub returns : goal.returns
returns c = found_none c.requires.0 c.loop-level.invariant c.loop-level-test.false
