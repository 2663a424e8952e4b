-- How many slots a group has: what holds at 1, 2, 4 and 8 holds at each.
use Rattle.std.specs.Prelude.{ℕ, zero, suc, ◌^◌, ◌≤◌, ◌≡◌}
use Rattle.std.proofs.Common.{arith}

-- a group has 1, 2, 4 or 8 slots
abbrev pub GroupSize : ℕ → Type 0
GroupSize size = (f : ℕ) × (f ≤ 3) × (size ≡ 2 ^ f)

-- what holds at 1, 2, 4 and 8 holds at every group size
pub by_size : (P : ℕ → Type 0) → P 1 → P 2 → P 4 → P 8 → {size : ℕ} → GroupSize size → P size
by_size P one two four eight g = rw g.2 (go g.0 g.1)
  where
    go : (f : ℕ) → f ≤ 3 → P (2 ^ f)
    go zero l = one
    go (suc zero) l = two
    go (suc (suc zero)) l = four
    go (suc (suc (suc zero))) l = eight
    go (suc (suc (suc (suc f)))) l = absurd (omega arith)

pub eight_at_most : {size : ℕ} → GroupSize size → size ≤ 8
eight_at_most = by_size (λ (size : ℕ). size ≤ 8) (omega arith) (omega arith) (omega arith) (omega arith)
