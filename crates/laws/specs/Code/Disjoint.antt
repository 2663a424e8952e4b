-- Words whose ones lie in disjoint index bits: where one of them is copied to each one of the other, no two copies meet. By
-- halves over n: one of the two has no one in its upper half, and makes such a pair with each half of the other. So the copies
-- fit in the word, and are made without a carry from half to half.
use Rattle.std.specs.Prelude.{ℕ, zero, suc, ◌+◌, ◌-◌, ◌*◌, ◌/◌, ◌%◌, ◌^◌, ◌≤◌, ◌<◌, min, ◌≡◌, refl, ◌⊎◌, true}
use Rattle.std.proofs.Common.{sym, ap, ◌∙◌, inl, inr, ⊎_elim, add_comm, mul_comm, mul-add, mul_assoc, mod-lt, le_refl, lt_of_lt_of_le, arith, pow_pos, pow-add, pow_mono, shr_lt}
use Rattle.std.proofs.Math.Nat.{le_dest, two-pow-succ}
use Rattle.std.proofs.Math.Decide.{dec_lt}
use Rattle.std.proofs.Math.Arith.{digits_lt}
use Rattle.std.proofs.Math.Pow.{split}
use Rattle.std.specs.Int.Bits.{bit_and}
use Rattle.rules.specs.Below.{sum_below}
use Rattle.rules.specs.Word.{bit, covers}
use Rattle.laws.specs.Numbers.Bits.{bit_lt_two, bit-zero, bit_ext, bit-and, bit-div, bit-mod, bit_beyond, bit-within, bit-put, bit_pow_same, word_bit, covers_at, covers_of, small_of_bits}

-- `own` is a set of index bits: an index of a one of w has none of them, one of a one of b no other; both words have 2 ^ n bits
pub record Disjoint (n w b : ℕ) : Type 0 where
  pub own : ℕ
  pub first_small : w < 2 ^ (2 ^ n)
  pub second_small : b < 2 ^ (2 ^ n)
  pub outside : (i : ℕ) → bit w i ≡ 1 → bit_and i own ≡ 0
  pub inside : (i : ℕ) → bit b i ≡ 1 → bit_and i own ≡ i

-- the same at every n that holds both words
pub disjoint_longer : {n w b : ℕ} (m : ℕ) → n ≤ m → Disjoint n w b → Disjoint m w b
disjoint_longer m l d =
    record {
      own = d.own;
      first_small = lt_of_lt_of_le d.first_small (pow_mono (pow_mono l));
      second_small = lt_of_lt_of_le d.second_small (pow_mono (pow_mono l));
      outside = d.outside;
      inside = d.inside;
    }

-- where an index has none of a set's bits, one that it covers has none
pub outside_covered : (own i j : ℕ) → covers i j ≡ true → bit_and j own ≡ 0 → bit_and i own ≡ 0
outside_covered own i j c e =
    bit_ext (λ k. bit-and i own k ∙ omega (arith, covers_at i j c k, bit-and j own k, ap (λ (x : ℕ). bit x k) e, bit-zero k))

-- where it has no other bits, one that it covers has no other
pub inside-covered : (own i j : ℕ) → covers i j ≡ true → bit_and j own ≡ j → bit_and i own ≡ i
inside-covered own i j c e =
    bit_ext (λ k. bit-and i own k ∙ omega (arith, covers_at i j c k, bit-and j own k, ap (λ (x : ℕ). bit x k) e))

-- the index bits below n that are not in the set
abbrev others : ℕ → ℕ → ℕ
others n own = sum_below n (λ k. (1 - bit own k) * 2 ^ k)

-- each is one where the set's is not
others-bit : (n own k : ℕ) → k < n → bit (others n own) k ≡ 1 - bit own k
others-bit n own = word_bit n (λ k. 1 - bit own k) (λ k _. omega arith)

module _ (n own i : ℕ) (fits : i < 2 ^ n) where
  -- an index has those of its bits in common with them that are not in the set
  rest_bit : (k : ℕ) → bit (bit_and i (others n own)) k ≡ bit i k - bit own k
  rest_bit k = bit-and i (others n own) k ∙ go (dec_lt k n)
    where
      go : Dec (k < n) → min (bit i k) (bit (others n own) k) ≡ bit i k - bit own k
      go (yes l) = rw (others-bit n own k l) (omega (arith, bit_lt_two i k, bit_lt_two own k))
      go (no g) = rw (bit_beyond {i = k} fits (omega arith)) (omega arith)

  -- none, where all its bits are in the set
  others_outside : bit_and i own ≡ i → bit_and i (others n own) ≡ 0
  others_outside e = bit_ext (λ k. rest_bit k ∙ omega (arith, bit-and i own k, ap (λ (x : ℕ). bit x k) e, bit-zero k))

  -- and all, where none is
  others-inside : bit_and i own ≡ 0 → bit_and i (others n own) ≡ i
  others-inside e =
      bit_ext (λ k. rest_bit k ∙ omega (arith, bit-and i own k, ap (λ (x : ℕ). bit x k) e, bit-zero k, bit_lt_two i k, bit_lt_two own k))

-- the roles turned, with the other index bits
turned : {n w b : ℕ} → Disjoint n w b → Disjoint n b w
turned {n} d =
    record {
      own = others n d.own;
      first_small = d.second_small;
      second_small = d.first_small;
      outside = λ i e. others_outside n d.own i (bit-within d.second_small e) (d.inside i e);
      inside = λ i e. others-inside n d.own i (bit-within d.first_small e) (d.outside i e);
    }

-- w has no one in its upper half, makes a pair with each half of b, and the copies of b are those of its halves
pub record Halves (n w b : ℕ) : Type 0 where
  pub lower : Disjoint n w (b % 2 ^ (2 ^ n))
  pub upper : Disjoint n w (b / 2 ^ (2 ^ n))
  pub product : w * b ≡ w * (b / 2 ^ (2 ^ n)) * 2 ^ (2 ^ n) + w * (b % 2 ^ (2 ^ n))

-- the bits of an index of the upper half
upper-bit : (n r k : ℕ) → r < 2 ^ n → bit (2 ^ n + r) k ≡ bit r k + bit (2 ^ n) k
upper-bit n r k l = rw (add_comm (2 ^ n) r) (bit-put r n (bit_beyond l (le_refl n)) k)

module _ {n w b : ℕ} (d : Disjoint (suc n) w b) where
  -- where a one of the upper half can be
  upper_index : (v i : ℕ) → v < 2 ^ (2 ^ suc n) → bit v (2 ^ n + i) ≡ 1 → i < 2 ^ n
  upper_index v i l e = omega (arith, bit-within {w = v} {k = 2 ^ suc n} {i = 2 ^ n + i} l e, two-pow-succ n)

  -- where bit n is in the set, w has no one in the upper half
  short : bit d.own n ≡ 1 → w < 2 ^ (2 ^ n)
  short own_n = small_of_bits (2 ^ n) w (λ i g. let r = le_dest g in rw (← r.1) (none r.0 (bit w (2 ^ n + r.0)) refl))
    where
      none : (r x : ℕ) → bit w (2 ^ n + r) ≡ x → x ≡ 0
      none r zero e = refl
      none r (suc zero) e =
          let l : r < 2 ^ n = upper_index w r d.first_small e in
          let at : bit (bit_and (2 ^ n + r) d.own) n ≡ 0 = ap (λ (x : ℕ). bit x n) (d.outside (2 ^ n + r) e) ∙ bit-zero n in
          absurd (omega (arith, at, bit-and (2 ^ n + r) d.own n, upper-bit n r n l, bit_pow_same n))
      none r (suc (suc x)) e = absurd (omega (arith, bit_lt_two w (2 ^ n + r)))

  -- and makes a pair with each half of b
  by_halves : bit d.own n ≡ 1 → Halves n w b
  by_halves own_n =
      record {
        lower = pair (mod-lt b (pow_pos (2 ^ n))) (λ i e.
            let l : i < 2 ^ n = bit-within (mod-lt b (pow_pos (2 ^ n))) e in d.inside i (sym (bit-mod b (2 ^ n) i l) ∙ e));
        upper = pair (shr_lt (2 ^ n) (2 ^ n) (rw (two-pow-succ n) at d.second_small)) (λ i e. moved i (sym (bit-div b (2 ^ n) i) ∙ e));
        product = ap (λ (x : ℕ). w * x) (sym (split b (2 ^ n))) ∙ mul-add w _ _ ∙ ap (λ (x : ℕ). x + w * (b % 2 ^ (2 ^ n))) (sym (mul_assoc w _ _));
      }
    where
      pair : {v : ℕ} → v < 2 ^ (2 ^ n) → ((i : ℕ) → bit v i ≡ 1 → bit_and i d.own ≡ i) → Disjoint n w v
      pair small within = record { own = d.own; first_small = short own_n; second_small = small; outside = d.outside; inside = within }

      moved : (i : ℕ) → bit b (2 ^ n + i) ≡ 1 → bit_and i d.own ≡ i
      moved i e =
          let l : i < 2 ^ n = upper_index b i d.second_small e in
          inside-covered d.own i (2 ^ n + i) (covers_of i (2 ^ n + i) (λ k. omega (arith, upper-bit n i k l))) (d.inside (2 ^ n + i) e)

-- the law by halves: one of the two words has no one in its upper half, and makes a pair with each half of the other
pub halves : {n w b : ℕ} → Disjoint (suc n) w b → Halves n w b ⊎ Halves n b w
unfolding turned
halves {n} {w} {b} d = go (bit d.own n) refl
  where
    go : (x : ℕ) → bit d.own n ≡ x → Halves n w b ⊎ Halves n b w
    go zero e = inr (by_halves (turned d) (others-bit (suc n) d.own n (omega arith) ∙ rw e))
    go (suc zero) e = inl (by_halves d e)
    go (suc (suc x)) e = absurd (omega (arith, bit_lt_two d.own n))

-- the copies fit
pub copies_fit : (n w b : ℕ) → Disjoint n w b → w * b < 2 ^ (2 ^ n)
copies_fit zero w b d = single w d.first_small
  where
    single : (w : ℕ) → w < 2 → w * b < 2
    single zero l = omega arith
    single (suc zero) l = omega (arith, d.second_small)
    single (suc (suc w)) l = absurd (omega arith)
copies_fit (suc n) w b d = ⊎_elim (joined w b (copies_fit n)) (λ h. rw (mul_comm w b) (joined b w (copies_fit n) h)) (halves d)
  where
    joined : (w b : ℕ) → ((w b : ℕ) → Disjoint n w b → w * b < 2 ^ (2 ^ n)) → Halves n w b → w * b < 2 ^ (2 ^ suc n)
    joined w b fit h =
        rw (h.product, two-pow-succ n, pow-add 2 (2 ^ n) (2 ^ n)) (digits_lt (fit w _ h.upper) (fit w _ h.lower))
