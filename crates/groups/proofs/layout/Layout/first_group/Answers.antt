-- `Layout::first_group` meets its contract. Invariant: the word has a one at the index of each seat below t.
use mathlib.Core.Path.{ap, ap₂, ◌∙◌}
use native.Mathlib.Omega.{arith}
use lib.Bits.{bit_xor}
use Rattle.rules.specs.Below.{sum_below}
use Rattle.laws.specs.Seats.SeatWords.{unseat_below}
use Rattle.groups.proofs.Tabling.{size_small, group_next, group_whole}
use Rattle.groups.proofs.layout.Layout.first_group.Goals as goal

pub loop-t-init : goal.loop-t-init
unfolding sum_below
loop-t-init c = c.none-own.ensures

pub bounds-self-t : goal.bounds-self-t
bounds-self-t c = omega (arith, size_small c.args.self.now.grouped)

pub loop-t-preserved : goal.loop-t-preserved
loop-t-preserved c =
    let self = c.args.self.now in
    c.bitxor-own.ensures ∙ ap₂ bit_xor c.loop-t.invariant c.single.ensures ∙ group_next self.grouped self.seated c.loop-t-test.true

pub returns : goal.returns
returns c = c.loop-t.invariant ∙ ap (unseat_below _ _ _) (omega arith) ∙ group_whole c.args.self.now.grouped
