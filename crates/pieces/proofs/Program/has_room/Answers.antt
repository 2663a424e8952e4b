-- `Program::has_room` meets its contract.
use borrow.Author.Tests.{lt-ltb, le-ltb}
use Rattle.pieces.proofs.Room.{blocks_test, make_test}
use Rattle.pieces.proofs.Program.has_room.Goals as goal

pub returns-in-Blocks : goal.returns-in-Blocks
returns-in-Blocks c = blocks_test _ _ _ _ c.in-Blocks.is

pub returns-then-requests-out : goal.returns-then-requests-out
returns-then-requests-out c =
    let a = c.args in
    rw (lt-ltb _ _ c.if-requests-out.true) at (make_test a.self a.len a.out a.said c.in-Make.is)

pub returns-else-requests-out : goal.returns-else-requests-out
returns-else-requests-out c =
    let a = c.args in
    rw (le-ltb _ _ c.if-requests-out.false)
    (rw (le-ltb _ _ c.if-requests-out.false) at (make_test a.self a.len a.out a.said c.in-Make.is))
