-- The places of the groups' rows in the table: each lies in one row, and none overlaps another.
use Prim.Native.Nat.{ℕ, ◌+◌, ◌*◌, ◌%◌, ◌^◌, ◌≤◌, ◌<◌}
use mathlib.Core.Path.{◌≡◌, refl}
use native.Mathlib.Omega.{arith}
use Rattle.laws.specs.Numbers.Bits.{power_shifted}
use Rattle.laws.specs.Rows.SlotsInGroup.{by_size, eight_at_most}
use Rattle.rows.specs.Table.{capacity}
use Rattle.rows.specs.Adding.{Sized}
use Rattle.rules.specs.Refusals.{largest}

-- the place of group k among groups of a size
pub record Place (size k : ℕ) : Type 0 where
  pub start : k * 2 ^ size + 2 ^ size ≤ capacity
  pub edge : k * 2 ^ size % 256 + 2 ^ size ≤ 256
  pub seats : k * size + size ≤ 2 ^ largest

module _ {groups size : ℕ} (g : Sized groups size) where
  -- every group has one
  pub place : {k : ℕ} → k < groups → Place size k
  place {k} l =
      by_size (λ (size : ℕ). groups * size ≤ 2 ^ largest → Place size k) (λ h. omega arith) (λ h. omega arith) (λ h. omega arith) (λ h. omega arith) g.shape g.seats

  -- and 8 at most
  pub size_small : size ≤ 8
  size_small = eight_at_most g.shape

  -- more than two slots are 4 or 8
  pub size_even : 2 < size → size % 2 ≡ 0
  size_even = by_size (λ (size : ℕ). 2 < size → size % 2 ≡ 0) (λ n. absurd (omega arith)) (λ n. refl) (λ n. refl) (λ n. refl) g.shape

  -- where more than two slots make groups, four groups from a multiple of four on have seats too
  pub four_sized : 2 < size → {k : ℕ} → k < groups → k % 4 ≡ 0 → Sized (k + 4) size
  four_sized few {k} l whole = record {
    shape = g.shape;
    seats = by_size (λ (size : ℕ). 2 < size → groups * size ≤ 2 ^ largest → (k + 4) * size ≤ 2 ^ largest) (λ n. absurd (omega arith)) (λ n. absurd (omega arith))
        (λ n h. omega arith)
        (λ n h. omega arith)
        g.shape
        few
        g.seats;
  }

  -- the number of entries, as the machine shifts it
  pub entries_shifted : 1 * 2 ^ size % 2 ^ 64 ≡ 2 ^ size
  entries_shifted = power_shifted 64 size (omega (arith, size_small))
