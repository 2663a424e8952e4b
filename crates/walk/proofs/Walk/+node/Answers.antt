-- `Walk::node` meets its contract.
use mathlib.Core.Path.{refl, sym, ap, ◌∙◌}
use native.Mathlib.Omega.{arith}
use borrow.Author.Tests.{leb-true, leb-false}
use Rattle.walk.specs.States.{state_of}
use Rattle.walk.proofs.Steps.{few_groups, inside, change_apart, near_fits, reached_fits, given_down}
use Rattle.walk.proofs.Trying.{inside_row, entry_read, total-is, next-is, at_leaf, given_next, trying_none, trying_end, trying_shut, trying_out, trying_cut, trying_stopped, trying_back}
use Rattle.walk.proofs.Walk.+node.Goals as goal
use Rattle.walk.proofs.Walk.+node.Goals.{then-is_open+else-is_used_up+else-is_farther+in_ok-s, else-is_open}

pub returns-then-left-eq0 : goal.returns-then-left-eq0
returns-then-left-eq0 t c = at_leaf c.requires c.if-left-eq0.true c.keep.result c.keep.ensures

pub bounds-self-k : goal.bounds-self-k
bounds-self-k t c = few_groups (given_next c.requires c.if-left-eq0.false)

pub overflow_add-base : goal.overflow_add-base
overflow_add-base t c = omega (arith, near_fits (given_next c.requires c.if-left-eq0.false))

pub row-row-requires : goal.row-row-requires
row-row-requires t c = inside (given_next c.requires c.if-left-eq0.false)

pub loop-e-init : goal.loop-e-init
loop-e-init t c = trying_none c.requires c.if-left-eq0.false

pub changed-next-requires-clause-group : goal.changed-next-requires-clause-group
changed-next-requires-clause-group t c = few_groups c.loop-e.invariant.given

pub changed-next-requires-clause-apart : goal.changed-next-requires-clause-apart
changed-next-requires-clause-apart t c =
    let here = c.loop-e-test.true in
    let row = c.row-row.ensures in
    rw (entry_read c.loop-e.invariant row here) (change_apart c.loop-e.invariant.given _ (inside_row c.loop-e.invariant row here))

pub is_open-requires : goal.is_open-requires
is_open-requires t c = few_groups c.loop-e.invariant.given

pub returns-then-is_used_up : goal.returns-then-is_used_up
returns-then-is_used_up t c =
    let here = c.loop-e-test.true in
    let row = c.row-row.ensures in
    trying_out c.loop-e.invariant (inside_row c.loop-e.invariant row here) _ (entry_read c.loop-e.invariant row here) _ c.changed-next.ensures _ c.is_open.ensures c.if-is_open.true
    (leb-true _ _ (sym c.is_used_up.ensures ∙ c.if-is_used_up.true))

-- the partial distance as the code sums it up
pub overflow_add-total : goal.overflow_add-total
overflow_add-total t c =
    let inv = c.loop-e.invariant in
    let here = c.loop-e-test.true in
    let row = c.row-row.ensures in
    omega (arith, total-is inv (inside_row inv row here) _ (entry_read inv row here), reached_fits inv.given _ (inside_row inv row here))

pub is_farther-requires : goal.is_farther-requires
is_farther-requires t c =
    let inv = c.loop-e.invariant in
    let here = c.loop-e-test.true in
    let row = c.row-row.ensures in
    rw (total-is inv (inside_row inv row here) _ (entry_read inv row here)) (reached_fits inv.given _ (inside_row inv row here))

pub returns-then-is_farther : goal.returns-then-is_farther
returns-then-is_farther t c =
    let here = c.loop-e-test.true in
    let row = c.row-row.ensures in
    trying_cut c.loop-e.invariant (inside_row c.loop-e.invariant row here) _ (entry_read c.loop-e.invariant row here) _ c.changed-next.ensures _ c.is_open.ensures c.if-is_open.true
    (leb-false _ _ (sym c.is_used_up.ensures ∙ c.if-is_used_up.false)) _ refl (sym c.is_farther.ensures ∙ c.if-is_farther.true)

pub node-requires : goal.node-requires
node-requires t c =
    let inv = c.loop-e.invariant in
    let here = c.loop-e-test.true in
    let row = c.row-row.ensures in (
      omega (arith, c.decreases, c.if-left-eq0.false),
      rw (next-is inv (inside_row inv row here) _ (entry_read inv row here) _ c.changed-next.ensures)
          (given_down inv.given _ (inside_row inv row here) _ _ (total-is inv (inside_row inv row here) _ (entry_read inv row here))
          (omega (arith, leb-false _ _ (sym c.is_used_up.ensures ∙ c.if-is_used_up.false)))),
    )

pub returns-in_err-s : goal.returns-in_err-s
returns-in_err-s t c =
    let here = c.loop-e-test.true in
    let row = c.row-row.ensures in
    rw c.from_residual.ensures
    (trying_stopped c.loop-e.invariant (inside_row c.loop-e.invariant row here) _ (entry_read c.loop-e.invariant row here) _ c.changed-next.ensures _ c.is_open.ensures c.if-is_open.true
    (leb-false _ _ (sym c.is_used_up.ensures ∙ c.if-is_used_up.false)) _ refl (sym c.is_farther.ensures ∙ c.if-is_farther.false)
    (state_of c.node.result) c.node.ensures (ap state_of c.in_err-s.was))

pub loop-e-preserved : goal.loop-e-preserved
loop-e-preserved t c =
    let inv = c.loop-e.invariant in
    let here = c.loop-e-test.true in
    let row = c.row-row.ensures in
    elim c.if-is_open.branch [
      | then-is_open+else-is_used_up+else-is_farther+in_ok-s w ↦
          rw w.s-is
          (trying_back inv (inside_row inv row here) _ (entry_read inv row here) _ c.changed-next.ensures _ c.is_open.ensures w.if-is_open.true
          (leb-false _ _ (sym w.is_used_up.ensures ∙ w.if-is_used_up.false)) _ refl (sym w.is_farther.ensures ∙ w.if-is_farther.false)
          (state_of w.node.result) w.node.ensures _ (ap state_of w.in_ok-s.was))
      | else-is_open w ↦
          rw w.s-is (trying_shut inv (inside_row inv row here) _ (entry_read inv row here) _ c.changed-next.ensures _ c.is_open.ensures w.if-is_open.false)
    ]

pub returns : goal.returns
returns t c = trying_end c.loop-e.invariant c.row-row.ensures (omega (arith, c.loop-e-test.false))
