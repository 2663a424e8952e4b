-- `vectors::assembling::state` is safe and ends: no n has more slots than an assembler has levels.
use Rattle.std.proofs.Common.{◌≡◌, ℕ, ◌^◌, ◌≤◌, length, sym, arith, length-take-le, pow_mono, rules}
use Rattle.word.specs.Words.{size_of}
use Rattle.vectors.proofs.assembling.state.Goals as goal

-- no n has more than 64 slots
slots_le : (n : ℕ) → 2 ^ size_of n ≤ 64
slots_le n = pow_mono {i = size_of n} {j = 6} (omega arith)

pub slice_bounds-levels-end : goal.slice_bounds-levels-end
slice_bounds-levels-end g c =
    let long : length c.args.assembler.levels ≡ 64 = search rules in
    omega (arith, c.slots-slots.ensures, slots_le c.args.assembler.n)

pub slice_bounds-write-end : goal.slice_bounds-write-end
slice_bounds-write-end g c =
    let long : length c.args.assembler.levels ≡ 64 = search rules in
    sym (length-take-le _ _ (omega (arith, c.slots-slots.ensures, slots_le c.args.assembler.n)))
