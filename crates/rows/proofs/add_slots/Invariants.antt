-- `rows::add_slots` meets its contract: before each turn what slot t adds is gathered for the first k groups.
use mathlib.Core.Path.{◌≡◌}
use lib.ListN.{length}
use Rattle.rows.specs.Lanes.{FourAdd}
use Rattle.rows.proofs.add_slots.Given as goal

abbrev pub invariant-loop-k : goal.invariant-loop-k
invariant-loop-k l = (length l.own-items ≡ 4) × FourAdd l.seats l.group l.size l.t l.own-items l.k
