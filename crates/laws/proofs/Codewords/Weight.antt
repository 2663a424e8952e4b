-- The ones of a codeword: at least 2 ^ W where every one bit of the word stands at an index of W ones or more.
use Rattle.std.specs.Prelude.{ℕ, zero, suc, ◌+◌, ◌*◌, ◌/◌, ◌%◌, ◌^◌, ◌≤◌, ◌<◌, ◌≡◌, refl, ◌≢◌}
use Rattle.std.proofs.Common.{zero-le, sym, ap₂, ◌∙◌, subst, mod-lt, le_trans, le_of_eq, le_refl, le_of_suc-le-suc, mod-eq_of_lt, add-zero, arith, pow_pos, pow-add, shr_lt}
use Rattle.std.proofs.Math.Path.{ap}
use Rattle.std.proofs.Math.Nat.{two-pow-succ, div-eq_of_lt, le_dest, mul-div_right, mul-mod_right}
use Rattle.std.proofs.Math.Decide.{dec_lt, ℕ_discrete}
use Rattle.std.proofs.Math.Arith.{lt-one}
use Rattle.std.proofs.Math.Pow.{pow-lt, split}
use Rattle.std.specs.Int.Bits.{bit_xor, xor_zero_l, xor_zero_r}
use Rattle.std.specs.Int.Count.{ones, ones_in}
use Rattle.std.proofs.lemmas.Nat.{ones_cat}
use Rattle.rules.specs.Below.{sum_below}
use Rattle.rules.specs.Word.{bit, code_bit, codeword}
use Rattle.laws.specs.Code.Matrix.{codeword-halves, codeword-lt, codeword-xor, codeword-zero}
use Rattle.laws.specs.Code.Weight.{weight}
use Rattle.laws.specs.Numbers.Bits.{bit-div, bit-mod, bit-within, bit-xor, bit-zero, bit_high, bit_low, xor_twice}
use Rattle.laws.specs.Numbers.Sums.{sum-add, sum-le, sum-zero, sum_cong, sum_split}

-- an exclusive or has no more ones than its parts together
weight-xor : (n a b : ℕ) → weight n (bit_xor a b) ≤ weight n a + weight n b
weight-xor n a b =
    le_trans (sum-le (2 ^ n) (λ i l. slot i)) (le_of_eq (sum-add (2 ^ n) (bit a) (bit b)))
  where
    slot : (i : ℕ) → bit (bit_xor a b) i ≤ bit a i + bit b i
    slot i = rw (bit-xor a b i) (omega arith)

-- the ones of a codeword by halves
weight-halves : (n d : ℕ) → weight (suc n) (codeword (suc n) d)
    ≡ weight n (codeword n (bit_xor (d % 2 ^ (2 ^ n)) (d / 2 ^ (2 ^ n)))) + weight n (codeword n (d / 2 ^ (2 ^ n)))
weight-halves n d = rw (two-pow-succ n, codeword-halves n d, sum_split)
    (ap₂ (λ (x y : ℕ). x + y)
    (sum_cong (2 ^ n) (bit_low H (2 ^ n) small))
    (sum_cong (2 ^ n) (λ i l. bit_high H (2 ^ n) small i)))
  where
    H : ℕ
    H = codeword n (d / 2 ^ (2 ^ n))

    small : codeword n (bit_xor (d % 2 ^ (2 ^ n)) (d / 2 ^ (2 ^ n))) < 2 ^ (2 ^ n)
    small = codeword-lt n (bit_xor (d % 2 ^ (2 ^ n)) (d / 2 ^ (2 ^ n)))

ones-upper : (n i : ℕ) → i < 2 ^ n → ones (2 ^ n + i) ≡ suc (ones i)
unfolding ones ones_in
ones-upper n i h = let e : 1 * 2 ^ n + i ≡ 2 ^ n + i = omega arith in rw (← e, ones_cat n 1 i h) (omega arith)

module _ (n e : ℕ) where
  hi : ℕ
  hi = e / 2 ^ (2 ^ n)

  lo : ℕ
  lo = e % 2 ^ (2 ^ n)

  -- the codeword of the lower half has no more ones than the whole one
  weight_lower : weight n (codeword n lo) ≤ weight (suc n) (codeword (suc n) e)
  unfolding hi lo
  weight_lower =
      let same : codeword n lo ≡ bit_xor (codeword n (bit_xor lo hi)) (codeword n hi) = ap (codeword n) (sym (xor_twice lo hi)) ∙ codeword-xor n (bit_xor lo hi) hi in
      rw (weight-halves n e, same) (weight-xor n (codeword n (bit_xor lo hi)) (codeword n hi))

  -- where the lower half is 0, the codeword of the upper half stands there twice
  weight-upper : lo ≡ 0 → weight (suc n) (codeword (suc n) e) ≡ weight n (codeword n hi) + weight n (codeword n hi)
  unfolding hi lo
  weight-upper z = rw (weight-halves n e, z, xor_zero_l hi)

weight_least_one : (W e : ℕ) → e < 2 → e ≢ 0 → ((i : ℕ) → bit e i ≡ 1 → W ≤ ones i) → 2 ^ W ≤ weight 0 (codeword 0 e)
unfolding ones ones_in codeword code_bit sum_below
weight_least_one W zero l z h = absurd (z refl)
weight_least_one zero (suc zero) l z h = le_refl 1
weight_least_one (suc W) (suc zero) l z h = absurd (omega (arith, h 0 refl))
weight_least_one W (suc (suc e)) l z h = absurd (omega arith)

-- minimum weight: a word that is not 0, with ones only at indices of W ones or more, has a codeword of 2 ^ W ones or more
pub weight_least : (n W e : ℕ) → e < 2 ^ (2 ^ n) → e ≢ 0 → ((i : ℕ) → bit e i ≡ 1 → W ≤ ones i) → 2 ^ W ≤ weight n (codeword n e)
unfolding hi lo
weight_least zero W e l z h = weight_least_one W e l z h
weight_least (suc n) W e l z h =
    go (ℕ_discrete (lo n e) 0) W h (weight_least n W (lo n e) (mod-lt e (pow_pos (2 ^ n)))) (λ U. weight_least n U (hi n e) small)
  where
    small : hi n e < 2 ^ (2 ^ n)
    small = shr_lt (2 ^ n) (2 ^ n) (rw (two-pow-succ n) at l)

    some_high : lo n e ≡ 0 → hi n e ≢ 0
    some_high p q = z (sym (split e (2 ^ n)) ∙ rw (q, p) (omega arith))

    lower : (i : ℕ) → bit (lo n e) i ≡ 1 → bit e i ≡ 1
    lower i b = sym (bit-mod e (2 ^ n) i (bit-within (mod-lt e (pow_pos (2 ^ n))) b)) ∙ b

    upper : (U : ℕ) → ((i : ℕ) → bit e i ≡ 1 → U ≤ ones i) → (i : ℕ) → bit (hi n e) i ≡ 1 → U ≤ suc (ones i)
    upper U g i b = rw (← ones-upper n i (bit-within small b)) (g (2 ^ n + i) (sym (bit-div e (2 ^ n) i) ∙ b))

    go : Dec (lo n e ≡ 0) → (U : ℕ) → ((i : ℕ) → bit e i ≡ 1 → U ≤ ones i)
        → (lo n e ≢ 0 → ((i : ℕ) → bit (lo n e) i ≡ 1 → U ≤ ones i) → 2 ^ U ≤ weight n (codeword n (lo n e)))
        → ((U : ℕ) → hi n e ≢ 0 → ((i : ℕ) → bit (hi n e) i ≡ 1 → U ≤ ones i) → 2 ^ U ≤ weight n (codeword n (hi n e)))
        → 2 ^ U ≤ weight (suc n) (codeword (suc n) e)
    go (no p) U g low high = le_trans (low p (λ i b. g i (lower i b))) (weight_lower n e)
    go (yes p) zero g low high = rw (weight-upper n e p) (omega (arith, high 0 (some_high p) (λ i b. zero-le)))
    go (yes p) (suc U) g low high = rw (weight-upper n e p) (omega (arith, two-pow-succ U, high U (some_high p) (λ i b. le_of_suc-le-suc (upper (suc U) g i b))))

weight_single_one : weight 0 (codeword 0 (2 ^ 0)) ≡ 2 ^ ones 0
unfolding ones ones_in codeword code_bit sum_below
weight_single_one = refl

-- the codeword of a single one bit at j has 2 ^ (ones j) ones
pub weight_single : (n j : ℕ) → j < 2 ^ n → weight n (codeword n (2 ^ j)) ≡ 2 ^ ones j
unfolding hi lo
weight_single zero j l = rw (lt-one l) weight_single_one
weight_single (suc n) j l = go (dec_lt j (2 ^ n)) (weight_single n)
  where
    upper : (k : ℕ) → k < 2 ^ n → ((k : ℕ) → k < 2 ^ n → weight n (codeword n (2 ^ k)) ≡ 2 ^ ones k)
        → weight (suc n) (codeword (suc n) (2 ^ (2 ^ n + k))) ≡ 2 ^ ones (2 ^ n + k)
    upper k small below =
        let whole : 2 ^ (2 ^ n + k) ≡ 2 ^ (2 ^ n) * 2 ^ k = pow-add 2 (2 ^ n) k in
        let high : hi n (2 ^ (2 ^ n + k)) ≡ 2 ^ k = rw whole (mul-div_right (2 ^ k) (pow_pos (2 ^ n))) in
        rw (weight-upper n (2 ^ (2 ^ n + k)) (rw whole (mul-mod_right (2 ^ (2 ^ n)) (2 ^ k))), high, below k small, ones-upper n k small)
        (sym (two-pow-succ (ones k)))

    go : Dec (j < 2 ^ n) → ((k : ℕ) → k < 2 ^ n → weight n (codeword n (2 ^ k)) ≡ 2 ^ ones k)
        → weight (suc n) (codeword (suc n) (2 ^ j)) ≡ 2 ^ ones j
    go (yes k) below =
        rw (
          weight-halves n (2 ^ j),
          div-eq_of_lt (pow-lt k),
          mod-eq_of_lt (pow-lt k),
          xor_zero_r (2 ^ j),
          codeword-zero n,
          sum-zero (2 ^ n) (λ i h. bit-zero i),
          add-zero (weight n (codeword n (2 ^ j))),
        ) (below j k)
    go (no g) below =
        let r = le_dest {n = 2 ^ n} {m = j} (omega arith) in
        subst (λ (x : ℕ). weight (suc n) (codeword (suc n) (2 ^ x)) ≡ 2 ^ ones x) r.1
        (upper r.0 (omega (arith, r.1, two-pow-succ n)) below)
