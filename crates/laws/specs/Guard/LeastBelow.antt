-- Laws of `least_below`: when there is a least value, what it is; and when a mask has a guard.
use Prim.Native.Nat.{ℕ, zero, suc, ◌^◌, ◌≤◌, ◌<◌, min}
use Rattle.std.specs.Prelude.{◌≡◌, Bool, ◌↔◌}
use Rattle.std.proofs.Math.Path.{refl}
use Rattle.std.proofs.Common.{sym, ◌∙◌, true≢false, not-suc-le-zero, arith}
use Rattle.std.proofs.Math.Bool.{true, false, cond}
use Rattle.std.proofs.Math.Option.{Option, none, some, none-ne-some}
use Rattle.std.proofs.Math.Decide.{ℕ_discrete, dec_le}
use Rattle.std.specs.Int.Count.{ones}
use Rattle.rules.specs.Below.{least_below, or_less}
use Rattle.rules.specs.Word.{unfrozen, message_bits}
use Rattle.rules.specs.Guard.{fewest_ones, guard_for, guard_of}
use Rattle.laws.specs.Numbers.CountBelow.{count_none, count-zero}

-- w is the value of f at an index below m that passes, and at most its value at each
pub record LeastAt (test : ℕ → Bool) (f : ℕ → ℕ) (m w : ℕ) : Type 0 where
  pub index : ℕ
  pub inside : index < m
  pub passes : test index ≡ true
  pub value : f index ≡ w
  pub least : (i : ℕ) → i < m → test i ≡ true → w ≤ f i

module _ (test : ℕ → Bool) (f : ℕ → ℕ) where
  -- no least value: each index fails
  pub least_none_at : (m : ℕ) → least_below m test f ≡ none → (i : ℕ) → i < m → test i ≡ false
  unfolding least_below
  least_none_at zero e i l = absurd (not-suc-le-zero l)
  least_none_at (suc m) e i l = go (test m) refl e (ℕ_discrete i m) (λ t. least_none_at m t i)
    where
      go : (b : Bool) → test m ≡ b → cond b (some (or_less (f m) (least_below m test f))) (least_below m test f) ≡ none → Dec (i ≡ m)
          → (least_below m test f ≡ none → i < m → test i ≡ false) → test i ≡ false
      go true q t d below = absurd (none-ne-some _ (sym t))
      go false q t (yes s) below = rw s q
      go false q t (no n) below = below t (omega arith)

  -- each index fails: no least value
  pub least_none_of : (m : ℕ) → ((i : ℕ) → i < m → test i ≡ false) → least_below m test f ≡ none
  unfolding least_below
  least_none_of zero h = refl
  least_none_of (suc m) h = rw (h m (omega arith)) (least_none_of m (λ i l. h i (omega arith)))

  later : (m w : ℕ) → (test m ≡ true → w ≤ f m) → ((i : ℕ) → i < m → test i ≡ true → w ≤ f i)
      → (i : ℕ) → i < suc m → test i ≡ true → w ≤ f i
  later m w last before i l t = go (ℕ_discrete i m)
    where
      go : Dec (i ≡ m) → w ≤ f i
      go (yes e) = rw e (last (rw e at t))
      go (no n) = before i (omega arith) t

  -- the least value is the value at some index that passes, and at most that at each
  pub least_some_at : (m w : ℕ) → least_below m test f ≡ some w → LeastAt test f m w
  unfolding least_below
  least_some_at zero w e = absurd (none-ne-some w e)
  least_some_at (suc m) w e = go (test m) (least_below m test f) refl refl e (least_some_at m)
    where
      here : test m ≡ true → f m ≡ w → ((i : ℕ) → i < m → test i ≡ true → w ≤ f i) → LeastAt test f (suc m) w
      here t q before = record { index = m; inside = omega arith; passes = t; value = q; least = later m w (λ u. omega arith) before }

      before : (test m ≡ true → w ≤ f m) → LeastAt test f m w → LeastAt test f (suc m) w
      before last r =
          record { index = r.index; inside = omega (arith, r.inside); passes = r.passes; value = r.value; least = later m w last r.least }

      pick : (v : ℕ) → test m ≡ true → min (f m) v ≡ w → LeastAt test f m v → Dec (f m ≤ v) → LeastAt test f (suc m) w
      pick v t q r (yes l) = here t (omega arith) (λ i k u. omega (arith, r.least i k u))
      pick v t q r (no g) = let v≡w : v ≡ w = omega arith in before (λ u. omega arith) (rw v≡w at r)

      go : (b : Bool) (r : Option ℕ) → test m ≡ b → least_below m test f ≡ r → cond b (some (or_less (f m) r)) r ≡ some w
          → ((v : ℕ) → least_below m test f ≡ some v → LeastAt test f m v) → LeastAt test f (suc m) w
      go true none t p q below = here t (cc) (λ i l u. absurd (true≢false (sym u ∙ least_none_at m p i l)))
      go true (some v) t p q below = pick v t (cc) (below v p) (dec_le (f m) v)
      go false r t p q below = before (λ u. absurd (true≢false (sym u ∙ t))) (below w (p ∙ q))

-- a mask has no guard exactly when it leaves no message bit
pub no_guard : (n mask : ℕ) → (guard_of n mask ≡ none) ↔ (message_bits n mask ≡ 0)
unfolding guard_of
no_guard n mask = (there, back)
  where
    fewest : (r : Option ℕ) → guard_for r ≡ none → r ≡ none
    fewest none e = refl
    fewest (some w) e = absurd (none-ne-some _ (sym e))

    there : guard_of n mask ≡ none → message_bits n mask ≡ 0
    there e = count-zero (unfrozen mask) (2 ^ n) (least_none_at (unfrozen mask) ones (2 ^ n) (fewest (fewest_ones n mask) e))

    back : message_bits n mask ≡ 0 → guard_of n mask ≡ none
    back e = rw (least_none_of (unfrozen mask) ones (2 ^ n) (count_none (unfrozen mask) (2 ^ n) e))
