-- `level::distance` meets its contract. Invariant: the slots before this one are in range, and the sum is that of their costs.
use Prim.Native.Nat.{ℕ, ◌+◌, ◌<◌, min}
use mathlib.Core.Path.{◌≡◌, ap, ◌∙◌}
use mathlib.Core.Bool.{not}
use mathlib.Core.List.{List}
use native.Mathlib.Omega.{arith}
use borrow.Author.Rules.{rules, sfits_of}
use lib.IntN.{ℤ, pos}
use lib.ListN.{length, take, get_or}
use mir.Syntax.{w32}
use mir.ValLaws.{to_z-of_z}
use Rattle.std.proofs.lemmas.List.{get_or-take, length-take}
use Rattle.rules.specs.Level.{slot_cost}
use Rattle.word.specs.Words.{word_of}
use Rattle.level.specs.Measuring.{measured_below}
use Rattle.level.proofs.Tests.{tested}
use Rattle.level.proofs.Measuring.{SoFar, none_yet, one_more, sum_small, out_found, all_measured}
use Rattle.level.proofs.distance.Goals as goal
use Rattle.level.proofs.distance.Goals.{In-loop-slot, After-bit_cost-sum}

-- as many slots as count
counted : (levels : List ℤ) (n : ℕ) → n ≡ min (length levels) 64 → length (take n levels) ≡ n
counted levels n e = omega (arith, length-take n levels)

-- after the slot that was measured
next : (c : After-bit_cost-sum) → SoFar c.args.levels.now (word_of c.args.x) (c.loop-slot.slot + 1) (c.loop-slot.sum + c.bit_cost-sum.result)
next c =
    let level = get_or (take c.min.result c.args.levels.now) c.loop-slot.slot (pos 0) in
    let counts : c.loop-slot.slot < c.min.result = omega (arith, counted c.args.levels.now c.min.result c.min.ensures) in
    let read = get_or-take c.min.result c.args.levels.now c.loop-slot.slot (pos 0) counts in
    one_more c.loop-slot.invariant _ _ (rw read at (tested level (search rules) c.in_range.ensures (ap not c.if-not-in_range.false)))
    c.bit.ensures
    (rw read at (c.bit_cost-sum.ensures ∙ ap (λ (z : ℤ). slot_cost z c.bit.result) (to_z-of_z w32 level (sfits_of (search rules)))))

pub loop-slot-init : goal.loop-slot-init
loop-slot-init c = none_yet _ _

pub returns-then-not-in_range : goal.returns-then-not-in_range
returns-then-not-in_range c =
    let level = get_or (take c.min.result c.args.levels.now) c.loop-slot.slot (pos 0) in
    let counts : c.loop-slot.slot < c.min.result = omega (arith, counted c.args.levels.now c.min.result c.min.ensures) in
    let read = get_or-take c.min.result c.args.levels.now c.loop-slot.slot (pos 0) counts in
    out_found c.loop-slot.invariant _ counts
    (rw read at (tested level (search rules) c.in_range.ensures (ap not c.if-not-in_range.true)))
    ∙ ap (λ (slots : ℕ). measured_below slots c.args.levels.now (word_of c.args.x)) c.min.ensures

pub overflow_add-sum : goal.overflow_add-sum
overflow_add-sum c = record { fits = omega (arith, sum_small (next c) (omega (arith, counted c.args.levels.now c.min.result c.min.ensures))) }

pub loop-slot-preserved : goal.loop-slot-preserved
loop-slot-preserved c = next c

pub overflow_cast-result : goal.overflow_cast-result
overflow_cast-result c = record { fits = omega (arith, sum_small c.loop-slot.invariant (omega (arith, counted c.args.levels.now c.min.result c.min.ensures))) }

pub returns : goal.returns
returns c =
    let all : c.loop-slot.slot ≡ c.min.result = omega (arith, counted c.args.levels.now c.min.result c.min.ensures) in
    all_measured c.loop-slot.invariant
    ∙ ap (λ (slots : ℕ). measured_below slots c.args.levels.now (word_of c.args.x)) (all ∙ c.min.ensures)
