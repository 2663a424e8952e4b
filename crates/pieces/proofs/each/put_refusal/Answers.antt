-- `pieces::each::put_refusal` meets its contract.
use Prim.Native.Nat.{◌≤◌}
use mathlib.Core.Path.{◌≡◌}
use native.Mathlib.Omega.{arith}
use lib.ListN.{length}
use Rattle.rules.specs.Text.{decimal}
use Rattle.laws.specs.Numbers.Digits.{decimal-length}
use Rattle.refusal.specs.Number.{number_of, number_short}
use Rattle.refusal.specs.declared.Refusal.{Refusal}
use Rattle.text.specs.Within.{Within, within_then, room_left}
use Rattle.pieces.proofs.each.put_refusal.Goals as goal
use Rattle.pieces.proofs.each.put_refusal.Goals.{After-decimal-at}

-- a number has at most two digits
short : (r : Refusal) → length (decimal (number_of r)) ≤ 2
short r = decimal-length 1 (number_of r) (number_short r)

-- it is put
number_put : (c : After-decimal-at)
    → Within 2 c.args.said.now c.args.at (decimal (number_of c.args.refusal)) c.decimal-at.result c.decimal-at.new.out
number_put c =
    let same : c.number.result ≡ number_of c.args.refusal = c.number.ensures in
    rw (← same) (record { put = c.decimal-at.ensures; short = rw same (short c.args.refusal) })

pub decimal-at-requires : goal.decimal-at-requires
decimal-at-requires c = rw c.number.ensures (omega (arith, short c.args.refusal))

pub bytes-requires : goal.bytes-requires
bytes-requires c = room_left (number_put (goal.at.bytes-requires c).After-decimal-at) 1 c.requires (omega arith)

pub returns : goal.returns
returns c = within_then (number_put (goal.at.returns c).After-decimal-at) 1 c.bytes.ensures (omega arith)
