-- `groups::seat::widen_by` meets its contract. Invariant: the indices are widened by the bits below b.
use Prim.Native.Nat.{ℕ, ◌+◌, ◌*◌, ◌%◌, ◌^◌, ◌≤◌, ◌<◌}
use mathlib.Core.Path.{◌≡◌, ap, ◌∙◌}
use mathlib.Core.List.{List}
use native.Mathlib.Omega.{arith}
use lib.ListN.{length, take, get_or}
use lib.Pow.{pow_mono}
use borrow.Author.Rules.{rules}
use borrow.Author.Tests.{eq-eqb, ne_eqb}
use Rattle.std.proofs.lemmas.List.{get_or_default}
use Rattle.rules.specs.Word.{bit}
use Rattle.rules.specs.Refusals.{largest}
use Rattle.laws.specs.Numbers.Bits.{power_shifted}
use Rattle.laws.specs.Seats.Seats.{widened, has_bit}
use Rattle.groups.specs.Seating.{WidensBy}
use Rattle.groups.proofs.Widening.{widened_doubled}
use Rattle.groups.proofs.WideningBy.{Widened, widened_none, widened_room, widened_passing, widened_failing}
use Rattle.groups.proofs.seat.widen_by.Goals as goal
use Rattle.groups.proofs.seat.widen_by.Goals.{then-folding-b, else-folding-b}

pub loop-b-init : goal.loop-b-init
loop-b-init c = widened_none _ _ _

-- there is room for as many again
room-behind : {l index : List ℕ} {m n folding wanted b many : ℕ} → WidensBy l m n folding wanted → Widened l m (has_bit folding wanted) b index many
    → b < n → bit folding b ≡ wanted → many + many ≤ length index
room-behind given inv before passes =
    omega (arith, widened_room _ _ _ _ _ given.room before (eq-eqb _ _ passes) inv.counted, inv.same, given.long)

-- an index so far is small
index-small : {l index : List ℕ} {m n folding wanted b many : ℕ} → WidensBy l m n folding wanted → Widened l m (has_bit folding wanted) b index many
    → many ≤ length index → (u d : ℕ) → u < many → get_or index u d ≤ 1024 + 2 ^ largest * b
index-small {index = index} given inv fits u d h = rw (get_or_default index u d 0 (omega arith)) (inv.small 1024 given.small u h)

-- a bit as the machine shifts it
bit-shifted : {n : ℕ} (b : ℕ) → b < n → n ≤ largest → 1 * 2 ^ b % 2 ^ 64 ≡ 2 ^ b
bit-shifted b before few = power_shifted 64 b (omega arith)

pub double-requires-clause-room : goal.double-requires-clause-room
double-requires-clause-room c = room-behind c.requires c.loop-b.invariant c.loop-b-test.true c.if-folding-b.true

pub double-requires-clause-callable : goal.double-requires-clause-callable
double-requires-clause-callable c u d h κs ref known ranges fits =
    let given = c.requires in
    let inv = c.loop-b.invariant in
    let room = room-behind given inv c.loop-b-test.true c.if-folding-b.true in
    omega (
      arith,
      index-small given inv (omega (arith, room)) u d h,
      bit-shifted c.loop-b.b c.loop-b-test.true given.few,
      pow_mono {i = c.loop-b.b} {j = largest} (omega (arith, c.loop-b-test.true, given.few)),
      given.few,
      c.loop-b-test.true,
    )

pub overflow_mul-many : goal.overflow_mul-many
overflow_mul-many c =
    let given = c.requires in
    omega (arith, room-behind given c.loop-b.invariant c.loop-b-test.true c.if-folding-b.true, c.loop-b.invariant.same, given.long)

pub loop-b-preserved : goal.loop-b-preserved
loop-b-preserved c =
    let given = c.requires in
    let inv = c.loop-b.invariant in
    elim c.if-folding-b.branch [
      | then-folding-b w ↦
          let room = room-behind given inv c.loop-b-test.true w.if-folding-b.true in
          rw (w.index-is, w.many-is)
          (widened_passing _ _ _ _ inv (eq-eqb _ _ w.if-folding-b.true) _ w.double.auto.items room
          (pow_mono {j = largest} (omega (arith, given.few)))
          (widened_doubled _ _ _ _ room w.double.auto.items w.double.ensures (λ i r made. search rules)
          ∙ ap (widened (take c.loop-b.many c.loop-b.index)) (bit-shifted c.loop-b.b c.loop-b-test.true given.few)))
      | else-folding-b w ↦ rw (w.index-is, w.many-is) (widened_failing _ _ _ _ inv (ne_eqb _ _ w.if-folding-b.false))
    ]

pub returns : goal.returns
returns c =
    let last : c.loop-b.b ≡ c.args.n = omega arith in
    let all = c.loop-b.invariant in
    record { many = rw last at all.counted; widened = rw last at all.listed; small = rw last at all.small }
