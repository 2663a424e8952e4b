-- Seats and groups: seat k * 2 ^ ones F + t holds the t-th index of group k.
use Rattle.std.specs.Prelude.{ℕ, zero, suc, ◌+◌, ◌-◌, ◌*◌, ◌/◌, ◌%◌, ◌^◌, ◌≤◌, ◌<◌, ◌≡◌, refl, true, get_or}
use Rattle.std.proofs.Common.{zero-le, ap, ◌∙◌, add-zero, zero-add, mod-lt, div-lt_iff_lt-mul, arith, pow_pos}
use Rattle.std.proofs.Math.Path.{sym}
use mathlib.Core.List.{List, map, Memᴰ}
use Rattle.std.proofs.Math.Nat.{eq_of_mul-eq-mul_right}
use Rattle.std.proofs.Math.Pow.{split, high}
use Rattle.std.proofs.Math.Arith.{digits_lt}
use Rattle.std.specs.Int.Count.{ones}
use Rattle.rules.specs.Below.{count_below, list_below}
use Rattle.rules.specs.Folding.{smallest, group_no, group, groups}
use Rattle.laws.specs.Numbers.Deposits.{deposit, deposit-lt, deposit_none, deposit_rises}
use Rattle.laws.specs.Numbers.Each.{each_at}
use Rattle.laws.specs.Numbers.SortedLists.{list_rising, mem_map_at, mem_map_of, rising-map, rising_unique}
use Rattle.laws.specs.Numbers.Sums.{mem_at, mem_of}
use Rattle.laws.specs.Seats.Seats.{has_bit, high_size, ones-count, out_part, seat-smallest, seat_at, seat_below, seat_index, seat_onto}
use Rattle.laws.specs.Walk.GroupSizes.{group-rising, group_at, group_no_below, group_of, groups_all}
use Rattle.laws.specs.Walk.Groups.{group_no-lt, group_no_same, smallest_twice}

-- a strictly rising map of the numbers below m into themselves moves none
rising_self : (m : ℕ) (r : ℕ → ℕ) → ((i j : ℕ) → i < j → j < m → r i < r j) → ((i : ℕ) → i < m → r i < m) → (k : ℕ) → k < m → r k ≡ k
rising_self m r rises below k l = omega (arith, low k l, top (m - suc k) k (omega arith))
  where
    low : (i : ℕ) → i < m → i ≤ r i
    low zero h = zero-le
    low (suc i) h = omega (arith, low i (omega arith), rises i (suc i) (omega arith) h)

    top : (d i : ℕ) → i + suc d ≡ m → r i + d < m
    top zero i e = omega (arith, below i (omega arith))
    top (suc d) i e = omega (arith, top d (suc i) (omega arith), rises i (suc i) (omega arith) (omega arith))

module _ (n F : ℕ) (fits : F < 2 ^ n) where
  -- the groups are the settings of the bits outside the folding
  pub groups-pow : groups n F ≡ 2 ^ count_below n (has_bit F 0)
  groups-pow = eq_of_mul-eq-mul_right (2 ^ ones F) (pow_pos (ones F)) _ _ (groups_all n F fits ∙ sym (high_size n F fits))

  -- each index of a group has a seat below 2 ^ n
  pub group-seat-lt : (k t : ℕ) → k < groups n F → t < 2 ^ ones F → k * 2 ^ ones F + t < 2 ^ n
  group-seat-lt k t hk ht = rw (groups_all n F fits) at (digits_lt hk ht)

  -- the first seat of group k holds what k gives to the bits outside the folding
  pub seat_start : (k : ℕ) → k < groups n F → seat_index n F (k * 2 ^ ones F) ≡ deposit (has_bit F 0) n k
  seat_start k l =
      rw (add-zero, deposit_none (has_bit F 1) n, zero-add) at (seat_at n F fits k 0 (rw (← groups-pow) l) (pow_pos (ones F)))

  -- the number of the group of that smallest index
  number : ℕ → ℕ
  number k = group_no F (deposit (has_bit F 0) n k)

  own_smallest : (k : ℕ) → k < groups n F → smallest F (deposit (has_bit F 0) n k) ≡ deposit (has_bit F 0) n k
  own_smallest k l =
      let p = group-seat-lt k 0 l (pow_pos (ones F)) in
      rw (seat-smallest n F fits (k * 2 ^ ones F + 0) p, high k (ones F) (pow_pos (ones F))) at (smallest_twice F (seat_index n F (k * 2 ^ ones F + 0)))

  number_self : (k : ℕ) → k < groups n F → number k ≡ k
  unfolding number
  number_self = rising_self (groups n F) number
      (λ i j h l. group_no-lt F _ _ (rw (own_smallest i (omega arith), own_smallest j l) (deposit_rises (has_bit F 0) n i j (rw (← groups-pow) l) h)))
      (λ i l. group_no_below n F fits _ (deposit-lt (has_bit F 0) n i))

  -- the high bits of a seat are its group's number
  pub seat-group : (p : ℕ) → p < 2 ^ n → group_no F (seat_index n F p) ≡ p / 2 ^ ones F
  unfolding number
  seat-group p l =
      let k : p / 2 ^ ones F < groups n F = (div-lt_iff_lt-mul (pow_pos (ones F))).1 (rw (groups_all n F fits) l) in
      group_no_same F (seat_index n F p) (out_part n F p) (seat-smallest n F fits p l ∙ sym (own_smallest (p / 2 ^ ones F) k)) ∙ number_self (p / 2 ^ ones F) k

  in_order : (k : ℕ) → k < groups n F → group n F k ≡ map (λ t. seat_index n F (k * 2 ^ ones F + t)) (list_below (2 ^ ones F) (λ t. true))
  in_order k l = rising_unique ◌<◌ (λ a b h g. omega arith) (group n F k) _ (group-rising n F k)
      (rising-map ◌<◌ ◌<◌ at within (λ s t hs ht h. rises s t (mem_at _ _ s hs).0 (mem_at _ _ t ht).0 h) (list_rising _ _)) there back
    where
      at : ℕ → ℕ
      at t = seat_index n F (k * 2 ^ ones F + t)

      within : List ℕ
      within = list_below (2 ^ ones F) (λ t. true)

      rises : (s t : ℕ) → s < 2 ^ ones F → t < 2 ^ ones F → s < t → at s < at t
      rises s t hs ht h = rw (seat_at n F fits k s (rw (← groups-pow) l) hs, seat_at n F fits k t (rw (← groups-pow) l) ht)
          (omega (arith, deposit_rises (has_bit F 1) n s t (rw (ones-count n F fits) ht) h))

      there : (i : ℕ) → Memᴰ i (group n F k) → Memᴰ i (map at within)
      there i m =
          let g = group_at n F k i m in
          let r = seat_onto n F fits i g.0 in
          let own : r.0 / 2 ^ ones F ≡ k = sym (seat-group r.0 r.1) ∙ ap (group_no F) r.2 ∙ g.1 in
          let e : at (r.0 % 2 ^ ones F) ≡ i = ap (seat_index n F) (rw own at (split r.0 (ones F))) ∙ r.2 in
          rw (← e) (mem_map_of at within (r.0 % 2 ^ ones F) (mem_of _ _ _ (mod-lt r.0 (pow_pos (ones F))) refl))

      back : (i : ℕ) → Memᴰ i (map at within) → Memᴰ i (group n F k)
      back i m =
          let r = mem_map_at at within i m in
          let t : r.0 < 2 ^ ones F = (mem_at _ _ r.0 r.1).0 in
          let p = group-seat-lt k r.0 l t in
          rw r.2 (group_of n F k (at r.0) (seat_below n F fits _ p) (seat-group _ p ∙ high k (ones F) t))

  -- the t-th index of group k is at seat k * 2 ^ ones F + t
  pub group-seat : (k t : ℕ) → k < groups n F → t < 2 ^ ones F → get_or (group n F k) t 0 ≡ seat_index n F (k * 2 ^ ones F + t)
  group-seat k t hk ht = rw (in_order k hk) (each_at (λ t. seat_index n F (k * 2 ^ ones F + t)) 0 (2 ^ ones F) t ht)
