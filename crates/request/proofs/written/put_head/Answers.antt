-- `request::written::put_head` meets its contract: a field behind another.
use Prim.Native.Nat.{ℕ, ◌+◌, ◌≤◌}
use mathlib.Core.List.{List, ◌++◌}
use native.Mathlib.Omega.{arith}
use lib.ListN.{length}
use Rattle.rules.specs.Request.{Request, bytes_of}
use Rattle.text.specs.Puts.{Put, put-length, put_then}
use Rattle.request.specs.Reading.{request_in}
use Rattle.request.proofs.written.put_head.Goals as goal
use Rattle.request.proofs.written.put_head.Goals.{After-put-at, After-put-at-2, After-put-at-3, After-put-at-4}

-- the fields, each with those before it
abbrev with_size : Request → List ℕ
with_size r = bytes_of 1 r.n

abbrev with_folding : Request → List ℕ
with_folding r = with_size r ++ bytes_of 1 r.folding

abbrev with_zeros : Request → List ℕ
with_zeros r = with_folding r ++ bytes_of 2 0

abbrev with_allowance : Request → List ℕ
with_allowance r = with_zeros r ++ bytes_of 4 r.allowance

-- what is put after each call
size-put : (c : After-put-at) → Put c.args.out.now 0 (with_size (request_in c.args.request)) c.put-at.result c.put-at.new.out
size-put c = c.put-at.ensures

folding-put : (c : After-put-at-2) → Put c.args.out.now 0 (with_folding (request_in c.args.request)) c.put-at-2.result c.put-at-2.new.out
folding-put c = put_then c.put-at.ensures c.put-at-2.ensures

zeros-put : (c : After-put-at-3) → Put c.args.out.now 0 (with_zeros (request_in c.args.request)) c.put-at-3.result c.put-at-3.new.out
zeros-put c = put_then (put_then c.put-at.ensures c.put-at-2.ensures) c.put-at-3.ensures

allowance-put : (c : After-put-at-4) → Put c.args.out.now 0 (with_allowance (request_in c.args.request)) c.put-at-4.result c.put-at-4.new.out
allowance-put c = put_then (put_then (put_then c.put-at.ensures c.put-at-2.ensures) c.put-at-3.ensures) c.put-at-4.ensures

-- the room behind bytes that are put
room : {before text after : List ℕ} {end : ℕ} (more : ℕ) → Put before 0 text end after → length text + more ≤ length before
    → end + more ≤ length after
room more put l = omega (arith, put.ends, put-length put)

pub put-at-requires-2 : goal.put-at-requires-2
unfolding bytes_of
put-at-requires-2 c = room 1 (size-put (goal.at.put-at-requires-2 c).After-put-at) (omega arith)

pub put-at-requires-3 : goal.put-at-requires-3
unfolding bytes_of
put-at-requires-3 c = room 2 (folding-put (goal.at.put-at-requires-3 c).After-put-at-2) (omega arith)

pub put-at-requires-4 : goal.put-at-requires-4
unfolding bytes_of
put-at-requires-4 c = room 4 (zeros-put (goal.at.put-at-requires-4 c).After-put-at-3) (omega arith)

pub put-requires : goal.put-requires
unfolding bytes_of
put-requires c = room 8 (allowance-put (goal.at.put-requires c).After-put-at-4) (omega arith)

pub returns : goal.returns
returns c =
    rw (← c.from.ensures) (put_then (allowance-put (goal.at.returns c).After-put-at-4) c.put.ensures)
