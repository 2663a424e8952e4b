-- A number's bits, lowest first, put at the places below m that pass a test.
use Rattle.std.specs.Prelude.{ℕ, suc, ◌+◌, ◌*◌, ◌^◌, ◌<◌, ◌≡◌, ◌≢◌, Bool}
use Rattle.std.proofs.Math.Path.{refl, ap}
use Rattle.std.proofs.Common.{sym, ◌∙◌, add_comm, one-mul, le_refl, arith}
use Rattle.std.proofs.Math.Bool.{true, false, cond}
use Rattle.std.proofs.Math.Nat.{add-mul, zero-mul}
use Rattle.std.proofs.Math.Decide.{dec_lt}
use Rattle.rules.specs.Below.{sum_below, count_below}
use Rattle.rules.specs.Word.{bit}
use Rattle.laws.specs.Numbers.Sums.{sum_cong, sum-zero, sum-single, sum-add}
use Rattle.laws.specs.Numbers.Bits.{bit_lt_two, bit-zero, bit_pow_same, bit_pow_other, bit-put, bit_beyond, bit-within, bit_low, bit_ext_below, word_lt, word_bit}
use Rattle.laws.specs.Numbers.Highest.{Highest, highest-lt, highest_of}
use Rattle.laws.specs.Numbers.CountBelow.{count_rises, count_inj, count_onto}

-- the bit at place i
abbrev pub deposit_bit : (ℕ → Bool) → ℕ → ℕ → ℕ
deposit_bit test q i = cond (test i) (bit q (count_below i test)) 0

-- the word of those bits
unfoldable pub deposit : (ℕ → Bool) → ℕ → ℕ → ℕ
deposit test m q = sum_below m (λ i. deposit_bit test q i * 2 ^ i)

module _ (test : ℕ → Bool) (m : ℕ) where
  bit-lt : (q i : ℕ) → deposit_bit test q i < 2
  bit-lt q i = go (test i)
    where
      go : (t : Bool) → cond t (bit q (count_below i test)) 0 < 2
      go true = bit_lt_two q (count_below i test)
      go false = omega arith

  -- it has m bits
  pub deposit-lt : (q : ℕ) → deposit test m q < 2 ^ m
  unfolding deposit
  deposit-lt q = word_lt m (deposit_bit test q) (λ i l. bit-lt q i)

  -- its bits
  pub deposit-bit : (q i : ℕ) → i < m → bit (deposit test m q) i ≡ deposit_bit test q i
  unfolding deposit
  deposit-bit q i l = word_bit m (deposit_bit test q) (λ j k. bit-lt q j) i l

  same_bit : (q r i : ℕ) → (test i ≡ true → bit q (count_below i test) ≡ bit r (count_below i test))
      → bit (deposit test m q) i ≡ bit (deposit test m r) i
  same_bit q r i same = go (dec_lt i m) (test i) refl
    where
      go : Dec (i < m) → (t : Bool) → test i ≡ t → bit (deposit test m q) i ≡ bit (deposit test m r) i
      go (yes l) true t = deposit-bit q i l ∙ rw t (same t) ∙ sym (deposit-bit r i l)
      go (yes l) false t = deposit-bit q i l ∙ rw t refl ∙ sym (deposit-bit r i l)
      go (no g) t u = bit_beyond (deposit-lt q) (omega arith) ∙ sym (bit_beyond (deposit-lt r) (omega arith))

  -- the smaller number gives the smaller word
  pub deposit_rises : (q r : ℕ) → r < 2 ^ count_below m test → q < r → deposit test m q < deposit test m r
  unfolding Highest
  deposit_rises q r h l =
      let top = highest_of r q l in
      let at = count_onto test m top.0 (bit-within h top.1.1) in
      highest-lt (deposit test m q) (deposit test m r) at.0 (
        deposit-bit q at.0 at.1 ∙ rw (at.2, at.3) top.1.0,
        deposit-bit r at.0 at.1 ∙ rw (at.2, at.3) top.1.1,
        λ i k. same_bit q r i (λ u. top.1.2 (count_below i test) (rw at.3 at (count_rises test k at.2))),
      )

  -- a one above the places that are there changes nothing
  pub deposit_above : (q : ℕ) → q < 2 ^ count_below m test → deposit test m (2 ^ count_below m test + q) ≡ deposit test m q
  deposit_above q h =
      bit_ext_below m (deposit-lt _) (deposit-lt q) (λ i l. same_bit (2 ^ count_below m test + q) q i (λ t. lower (count_below i test) (count_rises test l t)))
    where
      lower : (k : ℕ) → k < count_below m test → bit (2 ^ count_below m test + q) k ≡ bit q k
      lower k l = rw one-mul at (bit_low 1 (count_below m test) h k l)

  -- one more place, which passes
  pub deposit_passing : (q : ℕ) → test m ≡ true → deposit test (suc m) q ≡ deposit test m q + bit q (count_below m test) * 2 ^ m
  unfolding deposit sum_below
  deposit_passing q t = rw t

  -- or fails
  pub deposit_failing : (q : ℕ) → test m ≡ false → deposit test (suc m) q ≡ deposit test m q
  unfolding deposit sum_below
  deposit_failing q t = rw t (omega arith)

  -- nothing is deposited of 0
  pub deposit_none : deposit test m 0 ≡ 0
  unfolding deposit
  deposit_none = sum-zero m (λ i _. go (test i) i)
    where
      go : (t : Bool) (i : ℕ) → cond t (bit 0 (count_below i test)) 0 * 2 ^ i ≡ 0
      go true i = rw (bit-zero (count_below i test)) (zero-mul (2 ^ i))
      go false i = zero-mul (2 ^ i)

  -- a number's highest one is put apart from the rest
  pub deposit_more : (b r : ℕ) → r < 2 ^ b → deposit test m (2 ^ b + r) ≡ deposit test m r + deposit test m (2 ^ b)
  unfolding deposit
  deposit_more b r h = sum_cong m (λ i _. ap (λ (x : ℕ). x * 2 ^ i) (go (test i) (count_below i test)) ∙ add-mul _ _ (2 ^ i)) ∙ sum-add m _ _
    where
      go : (t : Bool) (j : ℕ) → cond t (bit (2 ^ b + r) j) 0 ≡ cond t (bit r j) 0 + cond t (bit (2 ^ b) j) 0
      go true j = rw (add_comm (2 ^ b) r) (bit-put r b (bit_beyond h (le_refl b)) j)
      go false j = refl

  -- a single one is put at one place
  pub deposit-pow : (b : ℕ) → b < count_below m test → (c : ℕ) × (c < m) × (deposit test m (2 ^ b) ≡ 2 ^ c)
  unfolding deposit
  deposit-pow b l = (
    at.0,
    at.1,
    sum-single m at.0 at.1 (λ i _ ne. rw (none i ne (test i) refl) (zero-mul (2 ^ i))) ∙ rw (at.2, at.3, bit_pow_same b) (one-mul _),
  )
    where
      at : (c : ℕ) × (c < m) × (test c ≡ true) × (count_below c test ≡ b)
      at = count_onto test m b l

      none : (i : ℕ) → i ≢ at.0 → (t : Bool) → test i ≡ t → deposit_bit test (2 ^ b) i ≡ 0
      none i ne true t = rw t (bit_pow_other b (count_below i test) (λ e. ne (count_inj test t at.2 (e ∙ sym at.3))))
      none i ne false t = rw t
