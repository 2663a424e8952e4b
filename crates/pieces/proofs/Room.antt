-- Room for what is written: how a test of it by whole quotients is the test by products, and what passing it says of both buffers.
use Prim.Native.Nat.{ℕ, ◌+◌, ◌*◌, ◌/◌, ◌≤◌, ◌<◌}
use mathlib.Core.Path.{◌≡◌, sym, ◌∙◌}
use mathlib.Core.Bool.{true, ◌&&◌}
use mathlib.Core.Logic.{◌↔◌}
use native.Mathlib.Nat.{add-mul, le-div_iff_mul-le, mul-le-mul_right}
use native.Mathlib.Decide.{dec_lt}
use native.Mathlib.Omega.{arith}
use lib.Dec.{leb, ltb}
use borrow.Author.Tests.{lt-ltb, le-ltb, le-leb, lt-leb, leb-true}
use Rattle.std.proofs.Math.Bool.{and-true}
use Rattle.std.proofs.lemmas.Bool.{and_parts}
use Rattle.rules.specs.Record.{record_bytes}
use Rattle.rules.specs.Request.{request_bytes}
use Rattle.lines.specs.Lines.{longest}
use Rattle.pieces.specs.Programs.{longest_refusal, longest_shown, longest_said, records_in, has_room}
use Rattle.pieces.specs.declared.Program.{Program}
use Rattle.pieces.specs.declared.Program.TheVariants.{Blocks, Make}

-- more parts of a length than a: a + 1 of them have room
pub quotient_test : (a part have : ℕ) → 0 < part → ltb a (have / part) ≡ leb ((a + 1) * part) have
quotient_test a part have some = go (dec_lt a (have / part))
  where
    parts : (a + 1 ≤ have / part) ↔ ((a + 1) * part ≤ have)
    parts = le-div_iff_mul-le some

    go : Dec (a < have / part) → ltb a (have / part) ≡ leb ((a + 1) * part) have
    go (yes l) = lt-ltb a (have / part) l ∙ sym (le-leb _ _ (parts.0 (omega arith)))
    go (no l) = le-ltb a (have / part) (omega arith) ∙ sym (lt-leb _ _ (less (dec_lt have ((a + 1) * part))))
      where
        less : Dec (have < (a + 1) * part) → have < (a + 1) * part
        less (yes h) = h
        less (no h) = absurd (l (let enough = parts.1 (omega arith) in omega arith))

-- the test of each program, by quotients
pub blocks_test : (program : Program) (len out said : ℕ) → program ≡ Blocks → ltb (len / record_bytes) (out / longest) ≡ has_room program len out said
blocks_test program len out said e =
    rw (e, le-leb (records_in Blocks len * 0) said (omega arith), quotient_test (len / record_bytes) longest out (omega arith))
    (sym (and-true (leb (records_in Blocks len * longest) out)))

pub make_test : (program : Program) (len out said : ℕ) → program ≡ Make
    → (ltb (len / request_bytes) (out / record_bytes) && ltb (len / request_bytes) (said / longest_refusal)) ≡ has_room program len out said
make_test program len out said e =
    rw (e, quotient_test (len / request_bytes) record_bytes out (omega arith), quotient_test (len / request_bytes) longest_refusal said (omega arith))

-- the buffers that are roomy have room
pub roomy_both : (program : Program) (len out said : ℕ) → has_room program len out said ≡ true
    → (records_in program len * longest_shown program ≤ out) × (records_in program len * longest_said program ≤ said)
roomy_both program len out said e =
    let tests = and_parts (leb (records_in program len * longest_shown program) out) (leb (records_in program len * longest_said program) said) e in
    (leb-true _ _ tests.0, leb-true _ _ tests.1)

-- where a record begins after so many, one more has room
pub next_fits : (size len start passed longest room : ℕ) → 0 < size → start ≡ passed * size → start < len
    → (len / size + 1) * longest ≤ room → passed * longest + longest ≤ room
next_fits size len start passed longest room some at l fits =
    let few : passed ≤ len / size = (le-div_iff_mul-le some).1 (omega arith) in
    let more : (passed + 1) * longest ≤ (len / size + 1) * longest = mul-le-mul_right longest (omega arith) in
    omega (arith, more, add-mul passed 1 longest)
