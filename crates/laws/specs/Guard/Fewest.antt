-- What the guard of a mask says: some unfrozen index has W one bits, none has fewer, and the guard is 256 × 2^W.
use Rattle.std.specs.Prelude.{ℕ, ◌*◌, ◌^◌, ◌≡◌, refl}
use Rattle.std.proofs.Math.Option.{Option, none, some, none-ne-some}
use Rattle.std.specs.Int.Count.{ones}
use Rattle.rules.specs.Word.{unfrozen}
use Rattle.rules.specs.Guard.{fewest_ones, guard_for, guard_of}
use Rattle.laws.specs.Guard.LeastBelow.{LeastAt, least_some_at}

-- the guard is 256 × 2^w, w the fewest one bits in an unfrozen index
pub guard_fewest : (n mask g : ℕ) → guard_of n mask ≡ some g → (w : ℕ) × (g ≡ 256 * 2 ^ w) × LeastAt (unfrozen mask) ones (2 ^ n) w
unfolding guard_of
guard_fewest n mask g e = go (fewest_ones n mask) refl e
  where
    go : (o : Option ℕ) → fewest_ones n mask ≡ o → guard_for o ≡ some g → (w : ℕ) × (g ≡ 256 * 2 ^ w) × LeastAt (unfrozen mask) ones (2 ^ n) w
    go none p q = absurd (none-ne-some g q)
    go (some w) p q = (w, cc, least_some_at (unfrozen mask) ones (2 ^ n) w p)
