-- A block in seat order, put back in index order, is block 0 put back and moved up to the group's smallest index; and what a
-- word has in common with it.
use Prim.Native.Nat.{ℕ, suc, ◌+◌, ◌-◌, ◌*◌, ◌^◌, ◌≤◌, ◌<◌}
use Rattle.std.specs.Prelude.{◌≡◌}
use Rattle.std.proofs.Common.{sym, ap₂, ◌∙◌, zero-add, zero-mul, mul_comm, mul-one, mul_assoc, arith, pow-add}
use Rattle.std.proofs.Math.Path.{ap}
use Rattle.std.proofs.Math.Nat.{suc-mul, mul-le-mul_right}
use Rattle.std.specs.Int.Count.{ones}
use Rattle.rules.specs.Below.{sum_below}
use Rattle.rules.specs.Word.{bit}
use Rattle.rules.specs.Folding.{groups}
use Rattle.laws.proofs.Seats.SeatGroups.{groups-pow, seat_start}
use Rattle.laws.specs.Numbers.Deposits.{deposit_none}
use Rattle.laws.specs.Numbers.Sums.{sum-mul, sum-zero, sum_cong, sum_split}
use Rattle.laws.specs.Seats.Blocks.{block_above, block_below, block_same}
use Rattle.laws.specs.Seats.SeatWords.{unseat}
use Rattle.laws.specs.Seats.Seats.{has_bit, seat_at, seat_index}
use Rattle.laws.specs.Walk.GroupSizes.{groups_all}

-- a sum whose terms are zero outside a window
sum_window : (a s r : ℕ) (f : ℕ → ℕ) → ((i : ℕ) → i < a → f i ≡ 0) → ((i : ℕ) → a + s ≤ i → f i ≡ 0) → sum_below (a + (s + r)) f ≡ sum_below s (λ i. f (a + i))
sum_window a s r f before after =
    sum_split a (s + r) f
    ∙ ap₂ (λ (x y : ℕ). x + y) (sum-zero a before)
    (sum_split s r (λ i. f (a + i)) ∙ ap (λ (y : ℕ). sum_below s (λ i. f (a + i)) + y) (sum-zero r (λ i l. after (a + (s + i)) (omega arith))))
    ∙ omega arith

module _ (n F : ℕ) (fits : F < 2 ^ n) (k : ℕ) (inside : k < groups n F) where
  -- the index at seat t of a group is that of seat t of group 0, moved up by the group's smallest index
  seat-moved : (t : ℕ) → t < 2 ^ ones F → seat_index n F (k * 2 ^ ones F + t) ≡ seat_index n F t + seat_index n F (k * 2 ^ ones F)
  seat-moved t l =
      let here = seat_at n F fits k t (rw (← groups-pow n F fits) inside) l in
      let lowest = seat_at n F fits 0 t (rw (← groups-pow n F fits) (omega (arith, inside))) l in
      here ∙ omega (arith, seat_start n F fits k inside, rw (zero-mul (2 ^ ones F), zero-add t) at lowest, deposit_none (has_bit F 0) n)

module _ (n F : ℕ) (fits : F < 2 ^ n) (k v : ℕ) (inside : k < groups n F) (small : v < 2 ^ (2 ^ ones F)) where
  -- a block put back in index order, bit by bit
  block_sum : unseat n F (v * 2 ^ (k * 2 ^ ones F)) ≡ sum_below (2 ^ ones F) (λ t. bit v t * 2 ^ seat_index n F (k * 2 ^ ones F + t))
  unfolding unseat
  block_sum =
      let all : k * 2 ^ ones F + (2 ^ ones F + (2 ^ n - suc k * 2 ^ ones F)) ≡ 2 ^ n =
      omega (arith, suc-mul k (2 ^ ones F), groups_all n F fits, mul-le-mul_right {m = suc k} {n = groups n F} (2 ^ ones F) inside)
      in
      ap (λ (m : ℕ). sum_below m (λ p. bit (v * 2 ^ (k * 2 ^ ones F)) p * 2 ^ seat_index n F p)) (sym all)
      ∙ sum_window (k * 2 ^ ones F) (2 ^ ones F) _ _
      (λ i l. rw (block_below (2 ^ ones F) k v i l) (zero-mul _))
      (λ i l. rw (block_above (2 ^ ones F) k v i small (omega (arith, suc-mul k (2 ^ ones F)))) (zero-mul _))
      ∙ sum_cong (2 ^ ones F) (λ t l. ap (λ (b : ℕ). b * 2 ^ seat_index n F (k * 2 ^ ones F + t)) (block_same (2 ^ ones F) k v t))

module _ (n F : ℕ) (fits : F < 2 ^ n) (k v : ℕ) (inside : k < groups n F) (small : v < 2 ^ (2 ^ ones F)) where
  -- a block put back in index order
  pub unseat_block : unseat n F (v * 2 ^ (k * 2 ^ ones F)) ≡ unseat n F v * 2 ^ seat_index n F (k * 2 ^ ones F)
  unseat_block =
      let lowest : unseat n F v ≡ sum_below (2 ^ ones F) (λ t. bit v t * 2 ^ seat_index n F t) =
      rw (zero-mul (2 ^ ones F), mul-one v) at (block_sum n F fits 0 v (omega (arith, inside)) small)
      ∙ sum_cong (2 ^ ones F) (λ t l. ap (λ (i : ℕ). bit v t * 2 ^ seat_index n F i) (zero-add t))
      in
      block_sum n F fits k v inside small
      ∙ sum_cong (2 ^ ones F) (λ t l.
      ap (λ (i : ℕ). bit v t * 2 ^ i) (seat-moved n F fits k inside t l)
      ∙ rw (pow-add 2 (seat_index n F t) (seat_index n F (k * 2 ^ ones F))) (sym (mul_assoc (bit v t) _ _) ∙ mul_comm _ (2 ^ seat_index n F (k * 2 ^ ones F))))
      ∙ sum-mul (2 ^ ones F) (2 ^ seat_index n F (k * 2 ^ ones F)) (λ t. bit v t * 2 ^ seat_index n F t)
      ∙ mul_comm _ _ ∙ ap (λ (w : ℕ). w * 2 ^ seat_index n F (k * 2 ^ ones F)) (sym lowest)
