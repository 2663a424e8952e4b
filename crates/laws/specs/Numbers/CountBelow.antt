-- Laws of `count_below`. `place mask i` and `message_bits n mask` of the rules are `count_below i (unfrozen mask)` and
-- `count_below (2 ^ n) (unfrozen mask)`, so at `test = unfrozen mask` these are the laws of places.
use Prim.Native.Nat.{ℕ, zero, suc, ◌≤◌, ◌<◌}
use Rattle.std.specs.Prelude.{◌≡◌, Bool}
use Rattle.std.proofs.Math.Path.{refl}
use Rattle.std.proofs.Math.Bool.{true, false}
use Rattle.std.proofs.Common.{not-suc-le-zero}
use Rattle.std.proofs.Math.Decide.{dec_lt, le_ind}
use native.Mathlib.Omega.{arith}
use Rattle.rules.specs.Below.{count_below}
use Rattle.laws.specs.Numbers.Sums.{sum-zero}

module _ (test : ℕ → Bool) where
  -- a number that passes is counted
  pub count_passing : (i : ℕ) → test i ≡ true → count_below (suc i) test ≡ suc (count_below i test)
  unfolding count_below
  count_passing i e = rw e (omega arith)

  -- one that fails is not
  pub count_failing : (i : ℕ) → test i ≡ false → count_below (suc i) test ≡ count_below i test
  unfolding count_below
  count_failing i e = rw e (omega arith)

  -- one more number counts one more or none more
  pub count_step : (i : ℕ) → (count_below i test ≤ count_below (suc i) test) × (count_below (suc i) test ≤ suc (count_below i test))
  count_step i = go (test i) refl
    where
      go : (b : Bool) → test i ≡ b → (count_below i test ≤ count_below (suc i) test) × (count_below (suc i) test ≤ suc (count_below i test))
      go true e = omega (arith, count_passing i e)
      go false e = omega (arith, count_failing i e)

  -- counting further counts no less
  pub count_mono : {i j : ℕ} → i ≤ j → count_below i test ≤ count_below j test
  count_mono {i} {j} h =
      le_ind (λ (m : ℕ). count_below i test ≤ count_below m test) (omega arith) (λ m l e. omega (arith, count_step m)) j h

  -- and more beyond a number that passes
  pub count_rises : {i j : ℕ} → i < j → test i ≡ true → count_below i test < count_below j test
  count_rises {i} h e = omega (arith, count_passing i e, count_mono h)

  -- numbers that pass are told apart by how many stand below them
  pub count_inj : {i j : ℕ} → test i ≡ true → test j ≡ true → count_below i test ≡ count_below j test → i ≡ j
  count_inj {i} {j} p q e = go (dec_lt i j) (dec_lt j i)
    where
      go : Dec (i < j) → Dec (j < i) → i ≡ j
      go (yes l) d = absurd (omega (arith, count_rises l p))
      go (no n) (yes l) = absurd (omega (arith, count_rises l q))
      go (no n) (no k) = omega arith

  -- each smaller count is that at some number that passes
  pub count_onto : (m k : ℕ) → k < count_below m test → (i : ℕ) × (i < m) × (test i ≡ true) × (count_below i test ≡ k)
  unfolding count_below
  count_onto zero k h = absurd (not-suc-le-zero h)
  count_onto (suc m) k h = go (test m) refl (dec_lt k (count_below m test)) (count_onto m k)
    where
      go : (b : Bool) → test m ≡ b → Dec (k < count_below m test)
          → (k < count_below m test → (i : ℕ) × (i < m) × (test i ≡ true) × (count_below i test ≡ k))
          → (i : ℕ) × (i < suc m) × (test i ≡ true) × (count_below i test ≡ k)
      go b e (yes l) below = let r = below l in (r.0, omega arith, r.2, r.3)
      go true e (no n) below = (m, omega arith, e, omega (arith, count_passing m e))
      go false e (no n) below = absurd (omega (arith, count_failing m e))

  -- none counted: each fails
  pub count_none : (m : ℕ) → count_below m test ≡ 0 → (i : ℕ) → i < m → test i ≡ false
  count_none m z i l = go (test i) refl
    where
      go : (b : Bool) → test i ≡ b → b ≡ false
      go true e = absurd (omega (arith, count_rises l e))
      go false e = refl

  -- each fails: none counted
  pub count-zero : (m : ℕ) → ((i : ℕ) → i < m → test i ≡ false) → count_below m test ≡ 0
  unfolding count_below
  count-zero m h = sum-zero m (λ i l. rw (h i l))
