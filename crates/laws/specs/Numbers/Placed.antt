-- Words whose bits are put at given places, none twice, and sums over indices in another order.
use Prim.Native.Nat.{ℕ, zero, suc, ◌+◌, ◌*◌, ◌^◌, ◌<◌, min}
use Rattle.std.specs.Prelude.{◌≡◌, refl, ◌≢◌, cond, eqb}
use Rattle.std.proofs.Common.{sym, ◌∙◌, zero-mul, one-mul, add-zero, not-suc-le-zero, arith, eq-eqb, ne_eqb}
use Rattle.std.proofs.Math.Decide.{ℕ_discrete}
use Rattle.std.specs.Int.Bits.{bit_xor, xor_zero_r, xor_disjoint}
use Rattle.rules.specs.Below.{sum_below}
use Rattle.rules.specs.Word.{bit}
use Rattle.laws.specs.Numbers.Sums.{sum_cong, sum-single, sum_swap}
use Rattle.laws.specs.Numbers.Bits.{bit-zero, bit_ext, bit-and, bit-put, bit_pow_same, bit_pow_other}

-- no two numbers below m have one image
abbrev pub Apart : ℕ → (ℕ → ℕ) → Type 0
Apart m at = (i j : ℕ) → i < m → j < m → at i ≡ at j → i ≡ j

-- a single bit c at place a
single_same : (c a : ℕ) → c < 2 → bit (c * 2 ^ a) a ≡ c
single_same zero a l = rw zero-mul (bit-zero a)
single_same (suc zero) a l = rw one-mul (bit_pow_same a)
single_same (suc (suc c)) a l = absurd (omega arith)

single_other : (c a k : ℕ) → c < 2 → k ≢ a → bit (c * 2 ^ a) k ≡ 0
single_other zero a k l n = rw zero-mul (bit-zero k)
single_other (suc zero) a k l n = rw one-mul (bit_pow_other a k n)
single_other (suc (suc c)) a k l n = absurd (omega arith)

-- a bit added where there was none
single-add : (w c a : ℕ) → c < 2 → bit w a ≡ 0 → (k : ℕ) → bit (w + c * 2 ^ a) k ≡ bit w k + bit (c * 2 ^ a) k
single-add w zero a l z k = rw (zero-mul (2 ^ a), add-zero w, bit-zero k) (sym (add-zero (bit w k)))
single-add w (suc zero) a l z k = rw (one-mul (2 ^ a)) (bit-put w a z k)
single-add w (suc (suc c)) a l z k = absurd (omega arith)

-- a bit put by `xor` where there was none is added
pub xor_single : (w a b : ℕ) → bit w a ≡ 0 → b < 2 → bit_xor w (b * 2 ^ a) ≡ w + b * 2 ^ a
xor_single w a zero z h = rw (zero-mul (2 ^ a), xor_zero_r w) (sym (add-zero w))
xor_single w a (suc (suc b)) z h = absurd (omega arith)
xor_single w a (suc zero) z h =
    rw (one-mul (2 ^ a)) (xor_disjoint w (2 ^ a) (bit_ext (λ k. bit-and w (2 ^ a) k ∙ go k (ℕ_discrete k a) ∙ sym (bit-zero k))))
  where
    go : (k : ℕ) → Dec (k ≡ a) → min (bit w k) (bit (2 ^ a) k) ≡ 0
    go k (yes e) = rw (e, z) (omega arith)
    go k (no n) = rw (bit_pow_other a k n) (omega arith)

module _ (at b : ℕ → ℕ) (small : (i : ℕ) → b i < 2) where
  -- no bit stands where none is put
  pub placed_other : (m : ℕ) → Apart m at → (k : ℕ) → ((i : ℕ) → i < m → at i ≢ k) → bit (sum_below m (λ i. b i * 2 ^ at i)) k ≡ 0
  unfolding sum_below
  placed_other zero apart k h = bit-zero k
  placed_other (suc m) apart k h =
      let before = placed_other m (λ i j p q. apart i j (omega arith) (omega arith)) in
      single-add _ (b m) (at m) (small m) (before (at m) (λ i l e. omega (arith, apart i m (omega arith) (omega arith) e))) k
      ∙ omega (arith, before k (λ i l. h i (omega arith)), single_other (b m) (at m) k (small m) (λ e. h m (omega arith) (sym e)))

  -- each bit stands where it is put
  pub placed_at : (m : ℕ) → Apart m at → (i : ℕ) → i < m → bit (sum_below m (λ j. b j * 2 ^ at j)) (at i) ≡ b i
  unfolding sum_below
  placed_at zero apart i l = absurd (not-suc-le-zero l)
  placed_at (suc m) apart i l =
      let inner : Apart m at = λ j k p q. apart j k (omega arith) (omega arith) in
      let new : bit (sum_below m (λ j. b j * 2 ^ at j)) (at m) ≡ 0
      = placed_other m inner (at m) (λ j p e. omega (arith, apart j m (omega arith) (omega arith) e)) in
      single-add _ (b m) (at m) (small m) new (at i) ∙ go (ℕ_discrete i m) new (placed_at m inner i)
    where
      go : Dec (i ≡ m) → bit (sum_below m (λ j. b j * 2 ^ at j)) (at m) ≡ 0
          → (i < m → bit (sum_below m (λ j. b j * 2 ^ at j)) (at i) ≡ b i)
          → bit (sum_below m (λ j. b j * 2 ^ at j)) (at i) + bit (b m * 2 ^ at m) (at i) ≡ b i
      go (yes e) new below = rw (e, new, single_same (b m) (at m) (small m)) (omega arith)
      go (no n) new below = omega (arith, below (omega arith), single_other (b m) (at m) (at i) (small m) (λ e. n (apart i m l (omega arith) e)))

-- a sum over all numbers below m, in another order
pub sum_permuted : (m : ℕ) (s : ℕ → ℕ) → ((p : ℕ) → p < m → s p < m) → Apart m s
    → ((i : ℕ) → i < m → (p : ℕ) × (p < m) × (s p ≡ i)) → (g : ℕ → ℕ) → sum_below m (λ p. g (s p)) ≡ sum_below m g
sum_permuted m s below apart onto g =
    sum_cong m (λ p l. sym (row p l)) ∙ sum_swap m m (λ p j. cond (eqb (s p) j) (g j) 0) ∙ sum_cong m column
  where
    row : (p : ℕ) → p < m → sum_below m (λ j. cond (eqb (s p) j) (g j) 0) ≡ g (s p)
    row p l = sum-single m (s p) (below p l) (λ j _ n. rw (ne_eqb (s p) j (λ e. n (sym e)))) ∙ rw (eq-eqb (s p) (s p) refl)

    column : (j : ℕ) → j < m → sum_below m (λ p. cond (eqb (s p) j) (g j) 0) ≡ g j
    column j l =
        let r = onto j l in
        sum-single m r.0 r.1 (λ p h n. rw (ne_eqb (s p) j (λ e. n (apart p r.0 h r.1 (e ∙ sym r.2)))))
        ∙ rw (eq-eqb (s r.0) j r.2)
