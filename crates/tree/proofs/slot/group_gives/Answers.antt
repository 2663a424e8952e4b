-- `tree::slot::group_gives` meets its contract: what the slots so far give is in the list.
use Prim.Native.Nat.{◌+◌}
use mathlib.Core.Path.{◌≡◌, ap, ◌∙◌}
use native.Mathlib.Omega.{arith}
use lib.IntN.{ℤ}
use Rattle.laws.specs.Distance.Excess.{excess, nearest, excess_greatest}
use mir.Syntax.{w32}
use mir.ValLaws.{to_z-of_z}
use borrow.Author.Rules.{sfits_of}
use Rattle.tree.specs.Slots.{seat_level}
use Rattle.tree.proofs.Giving.{gives_none, gives_next, near_small}
use Rattle.tree.proofs.slot.group_gives.Goals as goal
use Rattle.tree.proofs.slot.group_gives.Goals.{After-slot-own}

-- what the slot gives
abbrev level : After-slot-own → ℤ
level c = seat_level c.args.levels.now c.args.index.now (c.args.first + c.loop-t.t)

given : (c : After-slot-own)
    → (c.slot-own.result.nearest ≡ nearest (level c)) × (c.slot-own.result.zero ≡ excess (level c) 0)
    × (c.slot-own.result.one ≡ excess (level c) 1)
given c =
    let own = c.slot-own.ensures in
    let read = c.seat_level in
    let same = to_z-of_z w32 read.result (sfits_of read.type_inv) ∙ read.ensures in
    (own.0 ∙ ap nearest same, own.1 ∙ ap (λ (z : ℤ). excess z 0) same, own.2 ∙ ap (λ (z : ℤ). excess z 1) same)

pub loop-t-init : goal.loop-t-init
loop-t-init c = gives_none _ _ _ _ c.requires.1

pub invariant_of-seats : goal.invariant_of-seats
invariant_of-seats c =
    let own = given (goal.at.invariant_of-seats c).After-slot-own in
    let ranged = c.requires.0.ranged _ c.loop-t-test.true in
    record {
      small = (
        omega (arith, own.1, excess_greatest (level (goal.at.invariant_of-seats c).After-slot-own) 0 ranged),
        omega (arith, own.2, excess_greatest (level (goal.at.invariant_of-seats c).After-slot-own) 1 ranged),
      );
    }

pub overflow_add-near : goal.overflow_add-near
overflow_add-near c =
    let pre = c.requires.0 in
    omega (arith, near_small _ _ _ _ c.loop-t.invariant pre c.loop-t-test.true (given (goal.at.overflow_add-near c).After-slot-own).0 (omega (arith, pre.within)))

pub loop-t-preserved : goal.loop-t-preserved
loop-t-preserved c =
    let own = given (goal.at.loop-t-preserved c).After-slot-own in
    gives_next _ _ _ _ c.loop-t.invariant c.requires.0 c.loop-t-test.true _ (own.1, own.2) own.0
