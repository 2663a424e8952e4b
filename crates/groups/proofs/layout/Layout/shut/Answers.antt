-- `Layout::shut` meets its contract. Invariant: the groups below k are done.
use mathlib.Core.Path.{ap, ◌∙◌}
use native.Mathlib.Omega.{arith}
use lib.Bits.{bit_and}
use lib.ListN.{length-set}
use Rattle.laws.specs.Seats.Decided.{shut_of}
use Rattle.word.specs.Words.{word_of}
use Rattle.word.specs.Tables.{stored_next}
use Rattle.groups.proofs.Tabling.{few_groups, first_seat_fits, shut_here}
use Rattle.groups.proofs.layout.Layout.shut.Goals as goal

pub bounds-self-k : goal.bounds-self-k
bounds-self-k c = first_seat_fits c.args.self.now.grouped c.loop-k-test.true

pub bounds-shut-k : goal.bounds-shut-k
bounds-shut-k c = omega (arith, few_groups c.args.self.now.grouped, c.loop-k-test.true)

pub loop-k-preserved : goal.loop-k-preserved
loop-k-preserved c =
    let self = c.args.self.now in
    let frozen = c.args.frozen in
    let shut = c.loop-k.shut in
    let inv = c.loop-k.invariant in
    let own = c.first_group-own.ensures in (
      length-set shut _ _ ∙ inv.0,
      stored_next shut _ _ (shut_of _ _ (word_of frozen)) (omega (arith, inv.0, few_groups self.grouped, c.loop-k-test.true))
          (c.bitand.ensures ∙ ap (bit_and (word_of frozen)) c.above.ensures ∙ shut_here self.grouped self.seated (word_of frozen) _ own c.loop-k-test.true)
          inv.1,
    )

pub returns : goal.returns
returns c k h = c.loop-k.invariant.1 k (omega (arith, c.loop-k-test.false))
