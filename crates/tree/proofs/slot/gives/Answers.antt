-- `tree::slot::gives` meets its contract: what the groups so far give is in the list.
use Prim.Native.Nat.{ℕ, ◌*◌, ◌<◌, ◌^◌}
use mathlib.Core.Path.{◌∙◌}
use mathlib.Core.List.{List}
use native.Mathlib.Nat.{mul-le-mul_right, suc-mul}
use native.Mathlib.Omega.{arith}
use lib.IntN.{ℤ}
use lib.ListN.{length-set}
use Rattle.rules.specs.Refusals.{largest}
use Rattle.tree.specs.Slots.{Levelled}
use Rattle.groups.specs.Grouping.{Grouped}
use Rattle.groups.specs.declared.Tree.{Tree}
use Rattle.groups.proofs.Tabling.{few_groups}
use Rattle.tree.proofs.Giving.{later_seats, all_next}
use Rattle.tree.proofs.slot.gives.Goals as goal

-- the seats of a group
group : {levels : List ℤ} {index : List ℕ} (groups size k : ℕ) → Levelled levels index 0 (groups * size) → k < groups → Levelled levels index (k * size) size
group groups size k h l = later_seats (k * size) size (omega (arith, mul-le-mul_right size l, suc-mul k size)) h

-- a group is one of the largest block's
k-small : {tree : Tree} {k : ℕ} → Grouped tree → k < tree.groups → k < 2 ^ largest
k-small grouped h = omega (arith, few_groups grouped, h)

pub overflow_mul-k : goal.overflow_mul-k
overflow_mul-k c =
    let tree = c.args.layout.now.tree in
    omega (arith, (group tree.groups tree.size _ c.requires.levelled c.loop-k-test.true).within)

pub group_gives-requires : goal.group_gives-requires
group_gives-requires c =
    let tree = c.args.layout.now.tree in
    (group tree.groups tree.size _ c.requires.levelled c.loop-k-test.true, c.loop-k.invariant.0.long)

pub loop-k-preserved : goal.loop-k-preserved
loop-k-preserved c =
    let turn = c.loop-k in (
      all_next turn.invariant.0 c.group_gives.ensures turn.invariant.1 (k-small c.args.layout.now.grouped c.loop-k-test.true),
      length-set turn.near turn.k c.group_gives.result ∙ turn.invariant.1,
    )
