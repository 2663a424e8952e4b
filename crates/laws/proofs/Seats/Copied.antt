-- Group by group in index order: the change of a pattern is that of group 0 times the codeword of the group's smallest index, two
-- words whose ones lie in disjoint index bits; that codeword from the one of the group without its highest one bit; and the
-- frozen indices of a group.
use Prim.Native.Nat.{ℕ, zero, suc, ◌+◌, ◌-◌, ◌*◌, ◌^◌, ◌≤◌, ◌<◌}
use Rattle.std.specs.Prelude.{◌≡◌, Bool, true, false, cond}
use Rattle.std.proofs.Common.{sym, ap, ap₂, ◌∙◌, add_comm, add-zero, zero-mul, one-mul, mul-one, mul-add, suc-mul, mod-lt, le_refl, lt_of_lt_of_le, arith, pow_pos, pow-add, pow_mono}
use Rattle.std.proofs.Math.Nat.{mul-zero, div-eq_of_lt}
use Rattle.std.proofs.Math.Decide.{dec_lt, ℕ_discrete}
use Rattle.std.proofs.Math.Arith.{digits_lt}
use Rattle.std.proofs.Math.Pow.{pow-lt, high_ones, ones_lt}
use Rattle.std.proofs.lemmas.Nat.{shl-shr, and_le_l, ones-le, ones_cat}
use Rattle.std.specs.Int.Bits.{bit_and}
use Rattle.std.proofs.lemmas.Nat.Bits.{and_high}
use Rattle.std.specs.Int.Count.{ones, ones-ones}
use Rattle.rules.specs.Below.{sum_below, count_below}
use Rattle.rules.specs.Word.{bit, covers, codeword}
use Rattle.rules.specs.Folding.{groups, smallest}
use Rattle.laws.proofs.Codewords.Matrix.{codeword-moved, codeword_longer, codeword_one}
use Rattle.laws.proofs.Seats.Blocks.{block_code, block_start}
use Rattle.laws.proofs.Seats.SeatGroups.{group-seat-lt, groups-pow, seat_start}
use Rattle.laws.proofs.Seats.SeatedBlocks.{unseat_block}
use Rattle.laws.proofs.Seats.SeatedDown.{block_small}
use Rattle.laws.specs.Code.Disjoint.{Disjoint, inside-covered, outside_covered}
use Rattle.laws.specs.Code.Matrix.{code_one, codeword-lt}
use Rattle.laws.specs.Numbers.Bits.{bit-within, bit_beyond, bit_lt_two, bit_pow_other, bit_pow_same}
use Rattle.laws.specs.Numbers.Deposits.{deposit, deposit-pow, deposit_more, deposit_none, deposit_rises}
use Rattle.laws.specs.Seats.Blocks.{block_below}
use Rattle.laws.specs.Seats.Copied.{covered_of}
use Rattle.laws.specs.Seats.Decided.{change_of, shut_of}
use Rattle.laws.specs.Seats.SeatSums.{unseat_code}
use Rattle.laws.specs.Seats.SeatWords.{and-unseat, seat, unseat, unseat-add, unseat-bit, unseat-lt, unseat-ones, unseat-pow, unseat-zero}
use Rattle.laws.specs.Seats.SeatedDown.{groups_blocks}
use Rattle.laws.specs.Seats.SeatedRow.{block_of}
use Rattle.laws.specs.Seats.Seats.{has_bit, seat-smallest, seat_index, seat_onto}

-- a one at the start of each block below m that passes the test, in seat order
abbrev starts : ℕ → (ℕ → Bool) → ℕ → ℕ
starts s test m = sum_below m (λ a. cond (test a) (2 ^ (a * s)) 0)

-- the copies of a block stay within the m blocks
copies_lt : (s v : ℕ) → v < 2 ^ s → (test : ℕ → Bool) (m : ℕ) → v * starts s test m < 2 ^ (m * s)
unfolding sum_below
copies_lt s v hv test zero = rw (mul-zero v) (pow_pos (0 * s))
copies_lt s v hv test (suc m) = go (test m) (copies_lt s v hv test m)
  where
    go : (t : Bool) → v * starts s test m < 2 ^ (m * s) → v * (starts s test m + cond t (2 ^ (m * s)) 0) < 2 ^ (suc m * s)
    go true l =
        rw (add_comm (starts s test m) (2 ^ (m * s)), mul-add v (2 ^ (m * s)) (starts s test m), suc-mul m s, add_comm (m * s) s, pow-add 2 s (m * s))
        (digits_lt hv l)
    go false l = rw (add-zero (starts s test m)) (lt_of_lt_of_le l (pow_mono (omega (arith, suc-mul m s))))

module _ (n F : ℕ) (fits : F < 2 ^ n) where
  -- a one at the smallest index of each group below m that passes the test
  abbrev smallests : (ℕ → Bool) → ℕ → ℕ
  smallests test m = sum_below m (λ a. cond (test a) (2 ^ seat_index n F (a * 2 ^ ones F)) 0)

  -- copies of a block, put back in index order
  unseat_copies : (v : ℕ) → v < 2 ^ (2 ^ ones F) → (test : ℕ → Bool) (m : ℕ) → m ≤ groups n F
      → unseat n F (v * starts (2 ^ ones F) test m) ≡ unseat n F v * smallests test m
  unfolding sum_below
  unseat_copies v hv test zero h = rw (mul-zero v, unseat-zero n F, mul-zero (unseat n F v))
  unseat_copies v hv test (suc m) h = go (test m) (unseat_copies v hv test m (omega arith))
    where
      one : (i : ℕ) → Dec (i < m * 2 ^ ones F) → bit (v * starts (2 ^ ones F) test m) i + bit (v * 2 ^ (m * 2 ^ ones F)) i ≤ 1
      one i (yes l) = rw (block_below (2 ^ ones F) m v i l) (omega (arith, bit_lt_two (v * starts (2 ^ ones F) test m) i))
      one i (no g) = rw (bit_beyond {i = i} (copies_lt (2 ^ ones F) v hv test m) (omega arith)) (omega (arith, bit_lt_two (v * 2 ^ (m * 2 ^ ones F)) i))

      go : (t : Bool) → unseat n F (v * starts (2 ^ ones F) test m) ≡ unseat n F v * smallests test m
          → unseat n F (v * (starts (2 ^ ones F) test m + cond t (2 ^ (m * 2 ^ ones F)) 0))
          ≡ unseat n F v * (smallests test m + cond t (2 ^ seat_index n F (m * 2 ^ ones F)) 0)
      go true e =
          rw (mul-add v (starts (2 ^ ones F) test m) (2 ^ (m * 2 ^ ones F)), mul-add (unseat n F v) (smallests test m) (2 ^ seat_index n F (m * 2 ^ ones F)))
          (unseat-add n F _ _ (λ i. one i (dec_lt i (m * 2 ^ ones F))) ∙ ap₂ (λ (x y : ℕ). x + y) e (unseat_block n F fits m v h hv))
      go false e = rw (add-zero (starts (2 ^ ones F) test m), add-zero (smallests test m)) e

  some_group : 0 < groups n F
  some_group = rw (groups-pow n F fits) (pow_pos (count_below n (has_bit F 0)))

  seat_first : seat_index n F 0 ≡ 0
  seat_first = rw zero-mul at (seat_start n F fits 0 some_group) ∙ deposit_none (has_bit F 0) n

  unseat_one : unseat n F 1 ≡ 1
  unseat_one = unseat-pow n F 0 (pow_pos n) ∙ rw seat_first

  -- the change of a pattern in any group, from that in group 0
  pub change_copied : (k u : ℕ) → k < groups n F → u < 2 ^ (2 ^ ones F) → change_of n F 0 u * covered_of n F k ≡ change_of n F k u
  change_copied k u hk hu =
      ap₂ (λ (x y : ℕ). x * y) first spread ∙ sym (unseat_copies value (codeword-lt (ones F) u) covered (groups n F) (le_refl _))
      ∙ ap (unseat n F) (ap (λ (x : ℕ). value * x) (sym start) ∙ sym (block_code n (ones F) k (ones-le n F fits) inside u hu))
      ∙ unseat_code n F fits (u * 2 ^ (k * 2 ^ ones F))
    where
      value : ℕ
      value = codeword (ones F) u

      covered : ℕ → Bool
      covered a = covers a k

      inside : k < 2 ^ (n - ones F)
      inside = rw (groups_blocks n F fits) at hk

      first : change_of n F 0 u ≡ unseat n F value
      first = rw (zero-mul (2 ^ ones F), mul-one u, ← unseat_code n F fits u) (ap (unseat n F) (codeword_longer (ones F) n u (ones-le n F fits) hu))

      start : codeword n (2 ^ (k * 2 ^ ones F)) ≡ starts (2 ^ ones F) covered (groups n F)
      start = block_start n (ones F) k (ones-le n F fits) inside ∙ ap (starts (2 ^ ones F) covered) (sym (groups_blocks n F fits))

      spread : covered_of n F k ≡ smallests covered (groups n F)
      spread =
          ap (codeword n) (sym (unseat-pow n F (k * 2 ^ ones F) (rw add-zero at (group-seat-lt n F fits k 0 hk (pow_pos (ones F))))))
          ∙ sym (unseat_code n F fits (2 ^ (k * 2 ^ ones F))) ∙ ap (unseat n F) (start ∙ sym (one-mul _)) ∙ unseat_copies 1 (pow-lt (pow_pos (ones F))) covered (groups n F) (le_refl _)
          ∙ rw unseat_one (one-mul _)

  -- what a group covers has ones at indices with none of the folding's bits
  covered_outside : (k : ℕ) → k < groups n F → (i : ℕ) → bit (covered_of n F k) i ≡ 1 → bit_and i F ≡ 0
  covered_outside k hk i e = let r = code_one n (2 ^ at) i e in outside_covered F i r.0 r.2 (go r.0 r.1 (ℕ_discrete r.0 at))
    where
      at : ℕ
      at = seat_index n F (k * 2 ^ ones F)

      own : smallest F at ≡ at
      own =
          seat-smallest n F fits (k * 2 ^ ones F) (rw add-zero at (group-seat-lt n F fits k 0 hk (pow_pos (ones F))))
          ∙ rw (shl-shr k (ones F)) (sym (seat_start n F fits k hk))

      go : (j : ℕ) → bit (2 ^ at) j ≡ 1 → Dec (j ≡ at) → bit_and j F ≡ 0
      go j b (yes same) = rw same (omega (arith, own, and_le_l at F))
      go j b (no other) = absurd (omega (arith, bit_pow_other at j other))

  -- the change of a pattern in group 0 has ones at indices with no other bits
  change_inside : (u : ℕ) → u < 2 ^ (2 ^ ones F) → (i : ℕ) → bit (change_of n F 0 u) i ≡ 1 → bit_and i F ≡ i
  change_inside u hu i e =
      let r = code_one n (unseat n F block) i e in
      let at = seat_onto n F fits r.0 (bit-within (unseat-lt n F fits block) r.1) in
      let own : bit block at.0 ≡ 1 = sym (unseat-bit n F fits block at.0 at.1) ∙ ap (bit (unseat n F block)) at.2 ∙ r.1 in
      inside-covered F i r.0 r.2 (rw (← at.2) (lowest at.0 at.1 (bit-within small own)))
    where
      block : ℕ
      block = u * 2 ^ (0 * 2 ^ ones F)

      small : block < 2 ^ (2 ^ ones F)
      small = rw (zero-mul (2 ^ ones F), mul-one u) hu

      lowest : (p : ℕ) → p < 2 ^ n → p < 2 ^ ones F → bit_and (seat_index n F p) F ≡ seat_index n F p
      lowest p l h =
          let first : smallest F (seat_index n F p) ≡ 0 = seat-smallest n F fits p l ∙ rw (div-eq_of_lt h) (deposit_none (has_bit F 0) n) in
          omega (arith, and_le_l (seat_index n F p) F)

  -- so they lie in disjoint index bits
  pub covered_apart : (k u : ℕ) → k < groups n F → u < 2 ^ (2 ^ ones F) → Disjoint n (covered_of n F k) (change_of n F 0 u)
  covered_apart k u hk hu =
      record {
        own = F;
        first_small = codeword-lt n _;
        second_small = codeword-lt n _;
        outside = covered_outside k hk;
        inside = change_inside u hu;
      }

  -- group 0 covers itself alone
  pub covered_first : covered_of n F 0 ≡ 1
  covered_first = rw (zero-mul (2 ^ ones F), seat_first) (codeword_one n)

  -- a group's highest one bit moves what the rest of it covers, past the rest's own place
  pub covered_more : (b r : ℕ) → r < 2 ^ b → 2 ^ b + r < groups n F
      → (covered_of n F r < 2 ^ seat_index n F (2 ^ b * 2 ^ ones F))
      × (covered_of n F (2 ^ b + r) ≡ covered_of n F r + covered_of n F r * 2 ^ seat_index n F (2 ^ b * 2 ^ ones F))
  covered_more b r hr hk =
      rw (
        seat_start n F fits r (omega arith),
        seat_start n F fits (2 ^ b) (omega arith),
        seat_start n F fits (2 ^ b + r) hk,
        deposit_more (has_bit F 0) n b r hr,
        at.2,
        pow-add 2 (deposit (has_bit F 0) n r) (2 ^ at.0),
      ) (rw (codeword_longer at.0 n _ (omega (arith, at.1)) rest) (codeword-lt at.0 _), codeword-moved at.0 n _ at.1 rest)
    where
      highest : 2 ^ b < 2 ^ count_below n (has_bit F 0)
      highest = rw (← groups-pow n F fits) (omega arith)

      at : (c : ℕ) × (c < n) × (deposit (has_bit F 0) n (2 ^ b) ≡ 2 ^ c)
      at = deposit-pow (has_bit F 0) n b (bit-within highest (bit_pow_same b))

      rest : 2 ^ deposit (has_bit F 0) n r < 2 ^ (2 ^ at.0)
      rest = pow-lt (rw (← at.2) (deposit_rises (has_bit F 0) n r (2 ^ b) highest hr))

  -- the frozen indices of a group: the mask at those of group 0, moved up to its smallest
  pub shut_is : (mask k : ℕ) → k < groups n F
      → bit_and mask (unseat n F (2 ^ (2 ^ ones F) - 1) * 2 ^ seat_index n F (k * 2 ^ ones F)) ≡ shut_of n F mask k
  shut_is mask k hk =
      rw (← unseat_block n F fits k (2 ^ (2 ^ ones F) - 1) hk (ones_lt (2 ^ ones F)), ← high_ones (2 ^ ones F) (k * 2 ^ ones F))
      (and-unseat n F fits mask _ ∙ ap (unseat n F) (and_high (seat n F mask) (2 ^ ones F) (k * 2 ^ ones F)))

  -- as many as there are in seat order
  pub shut-ones : (mask k : ℕ) → k < groups n F → ones (shut_of n F mask k) ≡ ones (block_of (2 ^ ones F) k (seat n F mask))
  shut-ones mask k hk =
      let v : ℕ = block_of (2 ^ ones F) k (seat n F mask) in
      unseat-ones n F fits _ (block_small n F fits k v hk (mod-lt _ (pow_pos (2 ^ ones F))))
      ∙ rw (add-zero (v * 2 ^ (k * 2 ^ ones F)), ones-ones 0, add-zero (ones v)) at (ones_cat (k * 2 ^ ones F) v 0 (pow_pos (k * 2 ^ ones F)))
