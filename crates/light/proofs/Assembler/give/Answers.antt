-- `light::Assembler::give` meets its contract.
use Prim.Native.Nat.{ℕ, ◌^◌}
use mathlib.Core.Path.{sym, ap, ◌∙◌}
use native.Mathlib.Omega.{arith}
use borrow.Author.Tests.{lt-ltb, le-ltb, eq-eqb, ne_eqb}
use lib.ListN.{length, take}
use Rattle.rules.specs.Answers.{give_answer, give_left}
use Rattle.light.proofs.Sizes.{slots_are, in_room}
use Rattle.light.proofs.Assembler.give.Goals as goal

pub returns-then-is_wrong : goal.returns-then-is_wrong
unfolding give_answer give_left
returns-then-is_wrong c =
    let e = sym c.is_wrong.ensures ∙ c.if-is_wrong.true in
    record { verdict = rw e; left = rw e }

pub returns-then-self-size : goal.returns-then-self-size
unfolding give_answer give_left
returns-then-self-size c =
    let a = c.args.self in
    let e = sym c.is_wrong.ensures ∙ c.if-is_wrong.false in
    let n = slots_are a.n a.filled e c.slots-size.result c.slots-size.ensures in
    let f = lt-ltb a.filled (2 ^ a.n) (rw n at c.if-self-size.true) in
    record { verdict = rw (e, f); left = rw (e, f) }

pub returns-then-out-size : goal.returns-then-out-size
unfolding give_answer give_left
returns-then-out-size c =
    let a = c.args.self in
    let out = c.args.out.now in
    let e = sym c.is_wrong.ensures ∙ c.if-is_wrong.false in
    let n = slots_are a.n a.filled e c.slots-size.result c.slots-size.ensures in
    let f = le-ltb a.filled (2 ^ a.n) (rw n at c.if-self-size.false) in
    let l = ne_eqb (length out) (2 ^ a.n) (rw n at c.if-out-size.true) in
    record { verdict = rw (e, f, l); left = rw (e, f, l) }

pub shared_ref_as_front-copy_from_slice : goal.shared_ref_as_front-copy_from_slice
shared_ref_as_front-copy_from_slice c =
    let a = c.args.self in
    let e = sym c.is_wrong.ensures ∙ c.if-is_wrong.false in
    omega (arith, slots_are a.n a.filled e c.slots-size.result c.slots-size.ensures, in_room a.n a.filled e)

pub returns : goal.returns
unfolding give_answer give_left
returns c =
    let a = c.args.self in
    let out = c.args.out.now in
    let e = sym c.is_wrong.ensures ∙ c.if-is_wrong.false in
    let n = slots_are a.n a.filled e c.slots-size.result c.slots-size.ensures in
    let f = le-ltb a.filled (2 ^ a.n) (rw n at c.if-self-size.false) in
    let l = eq-eqb (length out) (2 ^ a.n) (c.if-out-size.false ∙ n) in
    record { verdict = rw (e, f, l); left = rw (e, f, l) (c.copy_from_slice.ensures.after ∙ ap (λ (k : ℕ). take k a.levels) n) }
