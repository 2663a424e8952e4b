-- `groups::seat::widen_by` meets its contract. Invariant: the indices are widened by the bits below b.
use Rattle.laws.specs.Seats.Seats.{has_bit}
use Rattle.groups.proofs.WideningBy.{Widened}
use Rattle.groups.proofs.seat.widen_by.Given as goal

abbrev pub invariant-loop-b : goal.invariant-loop-b
invariant-loop-b l = Widened l.initial.index l.m (has_bit l.folding l.wanted) l.b l.index l.many
