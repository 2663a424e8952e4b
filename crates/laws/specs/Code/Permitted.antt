-- What `permitted` says of a word and back: it has 2 ^ n bits, and a zero at each frozen index. Words that are permitted.
use Rattle.std.specs.Prelude.{ℕ, ◌^◌, ◌<◌, ◌≡◌, Bool, ◌||◌, ltb}
use Rattle.std.proofs.Math.Path.{refl}
use Rattle.std.proofs.Common.{sym, ◌∙◌, true≢false, arith, pow_pos}
use Rattle.std.proofs.Math.Bool.{true, false, and-eq-true_iff}
use Rattle.std.proofs.Math.Decide.{ℕ_discrete}
use Rattle.std.specs.Int.Bits.{bit_xor}
use Rattle.std.proofs.lemmas.Nat.{xor_lt}
use Rattle.std.proofs.Math.Pow.{pow-lt}
use Rattle.std.proofs.Math.Dec.{eqb}
use borrow.Author.Tests.{ltb-true, lt-ltb, eqb-true, eq-eqb}
use Rattle.rules.specs.Below.{all_below}
use Rattle.rules.specs.Word.{bit, unfrozen, permitted}
use Rattle.laws.specs.Numbers.Sums.{all-at, all_of}
use Rattle.laws.specs.Numbers.Bits.{bit-within, bit_lt_two, bit-zero, bit-xor, bit_pow_other}

clear : ℕ → ℕ → ℕ → Bool
clear mask d i = unfrozen mask i || eqb (bit d i) 0

module _ (n mask : ℕ) where
  parts : (d : ℕ) → permitted n mask d ≡ true → (ltb d (2 ^ (2 ^ n)) ≡ true) × (all_below (2 ^ n) (clear mask d) ≡ true)
  unfolding permitted clear
  parts d h = (and-eq-true_iff _ _).0 h

  -- a permitted word has 2 ^ n bits
  pub permitted-lt : (d : ℕ) → permitted n mask d ≡ true → d < 2 ^ (2 ^ n)
  permitted-lt d h = ltb-true d (2 ^ (2 ^ n)) (parts d h).0

  -- and a zero at each frozen index
  pub permitted_frozen : (d : ℕ) → permitted n mask d ≡ true → (i : ℕ) → i < 2 ^ n → unfrozen mask i ≡ false → bit d i ≡ 0
  unfolding clear
  permitted_frozen d h i l f = eqb-true (bit d i) 0 (rw f at (all-at (2 ^ n) (clear mask d) (parts d h).1 i l))

  -- so that its one bits stand at unfrozen indices
  pub permitted_at : (d : ℕ) → permitted n mask d ≡ true → (i : ℕ) → bit d i ≡ 1 → unfrozen mask i ≡ true
  permitted_at d h i one = go (unfrozen mask i) refl
    where
      go : (u : Bool) → unfrozen mask i ≡ u → u ≡ true
      go true e = refl
      go false e = absurd (omega (arith, permitted_frozen d h i (bit-within (permitted-lt d h) one) e))

  -- such a word is permitted
  pub permitted_of : (d : ℕ) → d < 2 ^ (2 ^ n) → ((i : ℕ) → i < 2 ^ n → unfrozen mask i ≡ false → bit d i ≡ 0)
      → permitted n mask d ≡ true
  unfolding permitted
  permitted_of d l h = rw (lt-ltb d (2 ^ (2 ^ n)) l) (all_of (2 ^ n) _ (λ i k. go i (unfrozen mask i) (h i k)))
    where
      go : (i : ℕ) (u : Bool) → (u ≡ false → bit d i ≡ 0) → (u || eqb (bit d i) 0) ≡ true
      go i true z = refl
      go i false z = eq-eqb (bit d i) 0 (z refl)

  -- or one whose ones stand at unfrozen indices
  pub permitted-ones : (d : ℕ) → d < 2 ^ (2 ^ n) → ((i : ℕ) → bit d i ≡ 1 → unfrozen mask i ≡ true) → permitted n mask d ≡ true
  permitted-ones d l h = permitted_of d l (λ i k f. go i f (ℕ_discrete (bit d i) 1))
    where
      go : (i : ℕ) → unfrozen mask i ≡ false → Dec (bit d i ≡ 1) → bit d i ≡ 0
      go i f (yes one) = absurd (true≢false (sym (h i one) ∙ f))
      go i f (no other) = omega (arith, bit_lt_two d i)

  -- word 0 is permitted
  pub permitted-zero : permitted n mask 0 ≡ true
  permitted-zero = permitted_of 0 (pow_pos (2 ^ n)) (λ i l f. bit-zero i)

  -- the word of a single one at an unfrozen index is permitted
  pub permitted-pow : (j : ℕ) → j < 2 ^ n → unfrozen mask j ≡ true → permitted n mask (2 ^ j) ≡ true
  permitted-pow j l u = permitted_of (2 ^ j) (pow-lt l) (λ i k f. bit_pow_other j i (λ e. true≢false (sym u ∙ rw e at f)))

  -- the exclusive or of permitted words is permitted
  pub permitted-xor : (d e : ℕ) → permitted n mask d ≡ true → permitted n mask e ≡ true → permitted n mask (bit_xor d e) ≡ true
  permitted-xor d e p q =
      permitted_of (bit_xor d e) (xor_lt (2 ^ n) d e (permitted-lt d p) (permitted-lt e q))
      (λ i l f. bit-xor d e i ∙ omega (arith, permitted_frozen d p i l f, permitted_frozen e q i l f))
