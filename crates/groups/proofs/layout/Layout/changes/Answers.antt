-- `Layout::changes` meets its contract. Invariant: the patterns below 2 ^ t are done.
use mathlib.Core.Path.{refl, ap, ◌∙◌}
use native.Mathlib.Nat.{lt_of_lt_of_le}
use native.Mathlib.Omega.{arith}
use borrow.Author.Rules.{rules}
use lib.Pow.{pow_mono}
use Rattle.rules.specs.Word.{codeword}
use Rattle.rules.specs.Refusals.{largest}
use Rattle.word.specs.Tables.{none_at}
use Rattle.groups.proofs.Tabling.{size_small}
use Rattle.groups.proofs.Changing.{changed_first, room_for_more, changed_next, column-is}
use Rattle.groups.proofs.layout.Layout.changes.Goals as goal

pub loop-t-init : goal.loop-t-init
loop-t-init c = changed_first _ _ refl (none_at _ c.none-changes.ensures 256 0)

pub bounds-self-t : goal.bounds-self-t
bounds-self-t c = omega (arith, size_small c.args.self.now.grouped)

pub overflow_shl-t : goal.overflow_shl-t
overflow_shl-t c = omega (arith, size_small c.args.self.now.grouped, c.loop-t-test.true)

pub double-requires-clause-room : goal.double-requires-clause-room
double-requires-clause-room c = room_for_more c.args.self.now.grouped c.loop-t.invariant c.loop-t-test.true

pub loop-t-preserved : goal.loop-t-preserved
loop-t-preserved c =
    let self = c.args.self.now in
    changed_next self.grouped c.loop-t.invariant c.loop-t-test.true _ c.double.auto.items
    (c.map-column.ensures ∙ ap (codeword largest) c.single.ensures ∙ column-is self.grouped self.seated c.loop-t-test.true)
    c.double.ensures (λ w x made. search rules)

pub returns : goal.returns
returns c u h = c.loop-t.invariant.done u (lt_of_lt_of_le h (pow_mono (omega (arith, c.loop-t-test.false))))
