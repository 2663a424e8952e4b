-- The order of two numbers is that of the highest bit in which they differ.
use Rattle.std.specs.Prelude.{ℕ, zero, suc, ◌+◌, ◌/◌, ◌^◌, ◌≤◌, ◌<◌, ◌≡◌}
use Rattle.std.proofs.Common.{sym, ap, ◌∙◌, div-one, not-suc-le-zero, add-one, arith, shr-shr}
use Rattle.std.proofs.Math.Decide.{dec_lt, ℕ_discrete}
use Rattle.std.proofs.Math.Pow.{shr_mono}
use Rattle.std.proofs.Math.Arith.{bin_ind}
use Rattle.rules.specs.Word.{bit}
use Rattle.laws.specs.Numbers.Bits.{bit-div, bit_half, bit_ext}

-- bit k is the highest in which a and b differ, and it is one in b
unfoldable pub Highest : ℕ → ℕ → ℕ → Type 0
Highest a b k = (bit a k ≡ 0) × (bit b k ≡ 1) × ((i : ℕ) → k < i → bit a i ≡ bit b i)

-- the number with the one there is the greater
pub highest-lt : (a b k : ℕ) → Highest a b k → a < b
unfolding Highest
highest-lt a b k h = go (dec_lt a b)
  where
    half : (w : ℕ) → w / 2 ^ k / 2 ≡ w / 2 ^ suc k
    half w = shr-shr w k 1 ∙ ap (λ (x : ℕ). w / 2 ^ x) (add-one k)

    above : a / 2 ^ suc k ≡ b / 2 ^ suc k
    above = bit_ext (λ i. bit-div a (suc k) i ∙ h.2 (suc k + i) (omega arith) ∙ sym (bit-div b (suc k) i))

    go : Dec (a < b) → a < b
    go (yes l) = l
    go (no n) = absurd (omega (arith, h.0, h.1, half a, half b, above, shr_mono {a = b} {b = a} k (omega arith)))

-- of two different numbers some bit is the highest in which they differ
pub highest_of : (b a : ℕ) → a < b → (k : ℕ) × Highest a b k
unfolding Highest
highest_of = bin_ind (λ (b : ℕ). (a : ℕ) → a < b → (k : ℕ) × Highest a b k) (λ a l. absurd (not-suc-le-zero l)) step
  where
    later : (a b k : ℕ) → ((i : ℕ) → k ≤ i → bit (a / 2) i ≡ bit (b / 2) i) → (i : ℕ) → k < i → bit a i ≡ bit b i
    later a b k h zero l = absurd (not-suc-le-zero l)
    later a b k h (suc i) l = sym (bit_half a i) ∙ h i (omega arith) ∙ bit_half b i

    step : (b : ℕ) → ((a : ℕ) → a < b / 2 → (k : ℕ) × Highest a (b / 2) k) → (a : ℕ) → a < b → (k : ℕ) × Highest a b k
    step b below a l = go (ℕ_discrete (a / 2) (b / 2))
      where
        go : Dec (a / 2 ≡ b / 2) → (k : ℕ) × Highest a b k
        go (yes e) = (0, (rw div-one (omega arith), rw div-one (omega arith), later a b 0 (λ i j. rw e)))
        go (no n) =
            let r = below (a / 2) (omega arith) in
            (suc r.0, (sym (bit_half a r.0) ∙ r.1.0, sym (bit_half b r.0) ∙ r.1.1, later a b (suc r.0) (λ i j. r.1.2 i j)))
