-- Messages and information words: `spread` and `gather` bit by bit, and one undoes the other.
use Prim.Native.Nat.{ℕ, zero, suc, ◌+◌, ◌*◌, ◌^◌, ◌<◌}
use Rattle.std.specs.Prelude.{◌≡◌, Bool}
use Rattle.std.proofs.Math.Path.{refl}
use Rattle.std.proofs.Common.{sym, ap, ◌∙◌, mod-eq_of_lt, not-suc-le-zero, arith}
use Rattle.std.proofs.Math.Bool.{true, false, cond}
use Rattle.std.proofs.Math.Nat.{zero-mul, two-pow-succ}
use Rattle.std.proofs.Math.Decide.{dec_lt, ℕ_discrete}
use Rattle.std.proofs.Math.Pow.{high, low, pow_pos}
use Rattle.std.proofs.Math.Arith.{digits_lt}
use Rattle.rules.specs.Below.{sum_below, count_below}
use Rattle.rules.specs.Word.{bit, unfrozen, permitted, place, message_bits, spread, gather}
use Rattle.laws.specs.Numbers.Sums.{sum_cong, sum-zero}
use Rattle.laws.specs.Numbers.Bits.{bit_lt_two, bit-zero, bit_beyond, bit-mod, bit_ext_below, word_lt, word_bit}
use Rattle.laws.specs.Numbers.CountBelow.{count_passing, count_failing, count_rises, count_onto}
use Rattle.laws.specs.Code.Permitted.{permitted-lt, permitted_frozen, permitted_of, permitted-zero}

cond-mul : (u : Bool) (a p : ℕ) → cond u (a * p) 0 ≡ cond u a 0 * p
cond-mul true a p = refl
cond-mul false a p = sym (zero-mul p)

spread_bit : ℕ → ℕ → ℕ → ℕ
spread_bit mask m i = cond (unfrozen mask i) (bit m (place mask i)) 0

spread_bit_lt : (mask m i : ℕ) → spread_bit mask m i < 2
unfolding spread_bit
spread_bit_lt mask m i = go (unfrozen mask i)
  where
    go : (u : Bool) → cond u (bit m (place mask i)) 0 < 2
    go true = bit_lt_two m (place mask i)
    go false = omega arith

-- the message bits of the indices below N
gathered : ℕ → ℕ → ℕ → ℕ
gathered mask d N = sum_below N (λ i. cond (unfrozen mask i) (bit d i * 2 ^ place mask i) 0)

module _ (mask d : ℕ) where
  gathered_passing : (N : ℕ) → unfrozen mask N ≡ true → gathered mask d (suc N) ≡ bit d N * 2 ^ place mask N + gathered mask d N
  unfolding gathered sum_below
  gathered_passing N u = rw u (omega arith)

  gathered_failing : (N : ℕ) → unfrozen mask N ≡ false → gathered mask d (suc N) ≡ gathered mask d N
  unfolding gathered sum_below
  gathered_failing N u = rw u (omega arith)

  gathered_lt : (N : ℕ) → gathered mask d N < 2 ^ place mask N
  unfolding gathered sum_below count_below
  gathered_lt zero = pow_pos 0
  gathered_lt (suc N) = go (unfrozen mask N) refl (gathered_lt N)
    where
      go : (u : Bool) → unfrozen mask N ≡ u → gathered mask d N < 2 ^ place mask N → gathered mask d (suc N) < 2 ^ place mask (suc N)
      go true u l = rw (gathered_passing N u, count_passing (unfrozen mask) N u, two-pow-succ) (omega (arith, digits_lt (bit_lt_two d N) l))
      go false u l = rw (gathered_failing N u, count_failing (unfrozen mask) N u) l

  gathered_bit : (N i : ℕ) → i < N → unfrozen mask i ≡ true → bit (gathered mask d N) (place mask i) ≡ bit d i
  gathered_bit zero i l u = absurd (not-suc-le-zero l)
  gathered_bit (suc N) i l u = go (ℕ_discrete i N) (unfrozen mask N) refl (λ k. gathered_bit N i k u)
    where
      go : Dec (i ≡ N) → (v : Bool) → unfrozen mask N ≡ v → (i < N → bit (gathered mask d N) (place mask i) ≡ bit d i)
          → bit (gathered mask d (suc N)) (place mask i) ≡ bit d i
      go (yes e) v w below =
          rw (e, gathered_passing N (rw e at u), high (bit d N) (place mask N) (gathered_lt N)) (mod-eq_of_lt (bit_lt_two d N))
      go (no n) true w below =
          let lower : place mask i < place mask N = count_rises (unfrozen mask) (omega arith) u in
          sym (bit-mod (gathered mask d (suc N)) (place mask N) (place mask i) lower)
          ∙ rw (gathered_passing N w, low (bit d N) (place mask N) (gathered_lt N)) (below (omega arith))
      go (no n) false w below = rw (gathered_failing N w) (below (omega arith))

module _ (n mask : ℕ) where
  spread_word : (m : ℕ) → spread n mask m ≡ sum_below (2 ^ n) (λ i. spread_bit mask m i * 2 ^ i)
  unfolding spread spread_bit
  spread_word m = sum_cong (2 ^ n) (λ i l. cond-mul (unfrozen mask i) (bit m (place mask i)) (2 ^ i))

  gather_word : (d : ℕ) → gather n mask d ≡ gathered mask d (2 ^ n)
  unfolding gather gathered
  gather_word d = refl

  -- an information word has 2 ^ n bits
  pub spread-lt : (m : ℕ) → spread n mask m < 2 ^ (2 ^ n)
  spread-lt m = rw (spread_word m) (word_lt (2 ^ n) (spread_bit mask m) (λ i l. spread_bit_lt mask m i))

  -- an unfrozen index gets the message bit of its place
  pub spread-bit : (m i : ℕ) → i < 2 ^ n → unfrozen mask i ≡ true → bit (spread n mask m) i ≡ bit m (place mask i)
  unfolding spread_bit
  spread-bit m i l u = rw (spread_word m, word_bit (2 ^ n) (spread_bit mask m) (λ j k. spread_bit_lt mask m j) i l, u)

  -- and no other index gets a one
  pub spread_clear : (m i : ℕ) → (i < 2 ^ n → unfrozen mask i ≡ false) → bit (spread n mask m) i ≡ 0
  unfolding spread_bit
  spread_clear m i f = go (dec_lt i (2 ^ n))
    where
      go : Dec (i < 2 ^ n) → bit (spread n mask m) i ≡ 0
      go (yes l) = rw (spread_word m, word_bit (2 ^ n) (spread_bit mask m) (λ j k. spread_bit_lt mask m j) i l, f l)
      go (no g) = bit_beyond (spread-lt m) (omega arith)

  -- a message's word is permitted
  pub spread-permitted : (m : ℕ) → permitted n mask (spread n mask m) ≡ true
  spread-permitted m = permitted_of n mask (spread n mask m) (spread-lt m) (λ i l f. spread_clear m i (λ k. f))

  -- a word's message has K bits
  pub gather-lt : (d : ℕ) → gather n mask d < 2 ^ message_bits n mask
  gather-lt d = rw (gather_word d) (gathered_lt mask d (2 ^ n))

  -- the message bit at the place of an unfrozen index is the word's bit there
  pub gather-bit : (d i : ℕ) → i < 2 ^ n → unfrozen mask i ≡ true → bit (gather n mask d) (place mask i) ≡ bit d i
  gather-bit d i l u = rw (gather_word d) (gathered_bit mask d (2 ^ n) i l u)

  -- the message of a message's word is that message
  pub gather-spread : (m : ℕ) → m < 2 ^ message_bits n mask → gather n mask (spread n mask m) ≡ m
  gather-spread m h = bit_ext_below (message_bits n mask) (gather-lt (spread n mask m)) h same
    where
      same : (k : ℕ) → k < message_bits n mask → bit (gather n mask (spread n mask m)) k ≡ bit m k
      same k l =
          let r = count_onto (unfrozen mask) (2 ^ n) k l in
          rw (← r.3) (gather-bit (spread n mask m) r.0 r.1 r.2 ∙ spread-bit m r.0 r.1 r.2)

  -- the word of a permitted word's message is that word
  pub spread-gather : (d : ℕ) → permitted n mask d ≡ true → spread n mask (gather n mask d) ≡ d
  spread-gather d p = bit_ext_below (2 ^ n) (spread-lt (gather n mask d)) (permitted-lt n mask d p) (λ i l. same i l (unfrozen mask i) refl)
    where
      same : (i : ℕ) → i < 2 ^ n → (u : Bool) → unfrozen mask i ≡ u → bit (spread n mask (gather n mask d)) i ≡ bit d i
      same i l true u = spread-bit (gather n mask d) i l u ∙ gather-bit d i l u
      same i l false u = spread_clear (gather n mask d) i (λ k. u) ∙ sym (permitted_frozen n mask d p i l u)

  -- word 0 has message 0
  pub gather-zero : gather n mask 0 ≡ 0
  unfolding gather
  gather-zero = sum-zero (2 ^ n) (λ i l. go i (unfrozen mask i))
    where
      go : (i : ℕ) (u : Bool) → cond u (bit 0 i * 2 ^ place mask i) 0 ≡ 0
      go i true = rw (bit-zero i, zero-mul (2 ^ place mask i))
      go i false = refl

  -- and message 0 has word 0
  pub spread-zero : spread n mask 0 ≡ 0
  spread-zero = ap (spread n mask) (sym gather-zero) ∙ spread-gather 0 (permitted-zero n mask)
