-- `Layout::covered` meets its contract. Invariant: the groups below m are done, and m is a power of two.
use mathlib.Core.Path.{refl}
use borrow.Author.Rules.{rules}
use Rattle.groups.proofs.Tabling.{first_seat_fits}
use Rattle.groups.proofs.Covering.{covering_first, room_behind, covering_next}
use Rattle.groups.proofs.layout.Layout.covered.Goals as goal

pub loop-m-init : goal.loop-m-init
loop-m-init c = covering_first c.args.self.now.grouped _ refl c.single.ensures

pub bounds-self-m : goal.bounds-self-m
bounds-self-m c = first_seat_fits c.args.self.now.grouped c.loop-m-test.true

pub double-requires-clause-room : goal.double-requires-clause-room
double-requires-clause-room c = room_behind c.args.self.now.grouped c.loop-m.invariant c.loop-m-test.true

pub loop-m-preserved : goal.loop-m-preserved
loop-m-preserved c =
    let self = c.args.self.now in
    covering_next self.grouped c.loop-m.invariant c.loop-m-test.true self.seated c.double.auto.items c.double.ensures (λ w x made. search rules)
