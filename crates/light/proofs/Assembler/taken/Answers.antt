-- `light::Assembler::taken` meets its contract.
use Prim.Native.Nat.{◌+◌, ◌^◌, ◌≤◌}
use mathlib.Core.Path.{◌≡◌, sym, ap, subst, ◌∙◌}
use mathlib.Core.Bool.{false}
use native.Mathlib.Omega.{arith}
use lib.IntN.{pos}
use Rattle.std.proofs.lemmas.Result.{err_from_is_err_and}
use Rattle.rules.specs.Assembling as rules
use Rattle.rules.specs.Refusals.{Answer, done}
use Rattle.light.specs.Values.{reading_of, assembler_of, room}
use Rattle.light.specs.Steps.{is_wrong, taken_answer}
use Rattle.light.specs.declared.Reading.{Reading}
use Rattle.light.specs.declared.Reading.TheVariants.{Single, Pair, Erased}
use Rattle.light.proofs.Sizes.{slots_are, in_room}
use Rattle.light.proofs.Taking.{slot_filled, read, single_done, single_refused, first_refused, second_refused, pair_done, erased_done, room_left}
use Rattle.light.proofs.Assembler.taken.Goals as goal
use Rattle.light.proofs.Assembler.taken.Goals.{Else-self-slots_needed}

-- ---- after both tests of the assembler

not_wrong : (c : Else-self-slots_needed) → is_wrong c.args.self.n c.args.self.filled ≡ false
not_wrong c = sym c.is_wrong.ensures ∙ c.if-is_wrong.false

-- so many slots are left
left : (c : Else-self-slots_needed) → c.args.self.filled + rules.slots_needed (reading_of c.args.reading) ≤ 2 ^ c.args.self.n
left c =
    let a = c.args.self in
    omega (arith, c.slots_needed.ensures, slots_are a.n a.filled (not_wrong c) c.slots.result c.slots.ensures, c.if-self-slots_needed.false)

-- and the assembler has room for them
has_room : (c : Else-self-slots_needed) (reading : Reading) → c.args.reading ≡ reading
    → c.args.self.filled + rules.slots_needed (reading_of reading) ≤ room
has_room c reading e = let fits = left c in omega (arith, rw e at fits, in_room c.args.self.n c.args.self.filled (not_wrong c))

-- what the reading answers is what taking it answers
answered : (c : Else-self-slots_needed) (reading : Reading) (r : Answer rules.Assembler) → c.args.reading ≡ reading
    → r ≡ read (assembler_of c.args.self) (reading_of reading) → r ≡ taken_answer (assembler_of c.args.self) (reading_of c.args.reading)
answered c reading r e t =
    subst (λ (x : Reading). r ≡ read (assembler_of c.args.self) (reading_of x)) (sym e) t
    ∙ room_left (assembler_of c.args.self) (reading_of c.args.reading) (not_wrong c) (left c)

pub returns-in_err-level-in-Single : goal.returns-in_err-level-in-Single
returns-in_err-level-in-Single c =
    let p = err_from_is_err_and c.from_residual.result c.from_residual.ensures.1 in
    let none = c.in_err-level-in-Single.ensures in
    rw (p.1, p.2, none.1)
    (answered (goal.at.returns-in_err-level-in-Single c).Else-self-slots_needed (Single c.in-Single.s) _ c.in-Single.is
    (single_refused (assembler_of c.args.self) c.in-Single.s none.0))

pub fill-requires : goal.fill-requires
fill-requires c = omega (arith, has_room (goal.at.fill-requires c).Else-self-slots_needed (Single c.in-Single.s) c.in-Single.is)

pub returns-in_err-first-in-Pair : goal.returns-in_err-first-in-Pair
returns-in_err-first-in-Pair c =
    let p = err_from_is_err_and c.from_residual-in_err-first-in-Pair.result c.from_residual-in_err-first-in-Pair.ensures.1 in
    let none = c.in_err-first-in-Pair.ensures in
    rw (p.1, p.2, none.1)
    (answered (goal.at.returns-in_err-first-in-Pair c).Else-self-slots_needed (Pair c.in-Pair.p) _ c.in-Pair.is
    (first_refused (assembler_of c.args.self) c.in-Pair.p.in_phase c.in-Pair.p.quadrature none.0))

pub returns-in_err-second-in-Pair : goal.returns-in_err-second-in-Pair
returns-in_err-second-in-Pair c =
    let p = err_from_is_err_and c.from_residual-in_err-second-in-Pair.result c.from_residual-in_err-second-in-Pair.ensures.1 in
    let none = c.in_err-second-in-Pair.ensures in
    rw (p.1, p.2, none.1)
    (answered (goal.at.returns-in_err-second-in-Pair c).Else-self-slots_needed (Pair c.in-Pair.p) _ c.in-Pair.is
    (second_refused (assembler_of c.args.self) c.in-Pair.p.in_phase c.in-Pair.p.quadrature c.in_ok-first-in-Pair.first
    c.in_ok-first-in-Pair.ensures none.0))

pub fill-requires-in-Pair : goal.fill-requires-in-Pair
fill-requires-in-Pair c = omega (arith, has_room (goal.at.fill-requires-in-Pair c).Else-self-slots_needed (Pair c.in-Pair.p) c.in-Pair.is)

pub fill-requires-in-Pair-2 : goal.fill-requires-in-Pair-2
fill-requires-in-Pair-2 c =
    omega (arith, c.fill-in-Pair.ensures.count, has_room (goal.at.fill-requires-in-Pair-2 c).Else-self-slots_needed (Pair c.in-Pair.p) c.in-Pair.is)

pub fill-requires-in-Erased : goal.fill-requires-in-Erased
fill-requires-in-Erased c = omega (arith, has_room (goal.at.fill-requires-in-Erased c).Else-self-slots_needed Erased c.in-Erased.is)

pub returns-in_ok-level-in-Single : goal.returns-in_ok-level-in-Single
returns-in_ok-level-in-Single c =
    let a = c.args.self in
    let z = c.in_ok-level-in-Single.level in
    answered (goal.at.returns-in_ok-level-in-Single c).Else-self-slots_needed (Single c.in-Single.s) _ c.in-Single.is
    (ap done (slot_filled a c.fill.result z (omega arith) c.fill.ensures)
    ∙ single_done (assembler_of a) c.in-Single.s z c.in_ok-level-in-Single.ensures)

pub returns-in_ok-second-in-Pair : goal.returns-in_ok-second-in-Pair
returns-in_ok-second-in-Pair c =
    let a = c.args.self in
    let at_one = c.fill-in-Pair.result in
    let y = c.in_ok-first-in-Pair.first in
    let z = c.in_ok-second-in-Pair.second in
    answered (goal.at.returns-in_ok-second-in-Pair c).Else-self-slots_needed (Pair c.in-Pair.p) _ c.in-Pair.is
    (ap done
    (slot_filled at_one c.fill-in-Pair-2.result z (omega arith) c.fill-in-Pair-2.ensures
    ∙ ap (λ (b : rules.Assembler). rules.fill_slot b z) (slot_filled a at_one y (omega arith) c.fill-in-Pair.ensures))
    ∙ pair_done (assembler_of a) c.in-Pair.p.in_phase c.in-Pair.p.quadrature y z c.in_ok-first-in-Pair.ensures c.in_ok-second-in-Pair.ensures)

pub returns-in-Erased : goal.returns-in-Erased
returns-in-Erased c =
    let a = c.args.self in
    answered (goal.at.returns-in-Erased c).Else-self-slots_needed Erased _ c.in-Erased.is
    (ap done (slot_filled a c.fill-in-Erased.result (pos 0) (omega arith) c.fill-in-Erased.ensures) ∙ erased_done (assembler_of a))
