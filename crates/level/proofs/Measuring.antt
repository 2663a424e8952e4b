-- Measuring slot after slot: what holds after the slots below i, that the sum stays small, and what both ends answer.
use Prim.Native.Nat.{ℕ, ◌+◌, ◌*◌, ◌^◌, ◌≤◌, ◌<◌}
use mathlib.Core.Path.{◌≡◌, refl, ap₂, ◌∙◌}
use mathlib.Core.Bool.{true, false, not}
use mathlib.Core.List.{List, [], ◌∷◌}
use native.Mathlib.Nat.{le_trans, le_of_eq, mul-le-mul_right, not-suc-le-zero}
use native.Mathlib.Numerals.{add-one}
use borrow.Author.Count.{below_more}
use borrow.Author.Tests.{not-false}
use lib.IntN.{ℤ}
use Rattle.rules.specs.Below.{sum_below}
use Rattle.rules.specs.Word.{bit}
use Rattle.rules.specs.Level.{limit, in_range, level_at, level_cost, slot_cost}
use Rattle.rules.specs.Refusals.{refused, done, largest}
use Rattle.laws.specs.Distance.GreatestDistance.{slot_greatest}
use Rattle.laws.specs.Numbers.Sums.{sum-le, sum-const, some_of, none_of}
use Rattle.level.specs.Measuring.{measured_below}

-- after the slots below i: all of them are in range, and the sum is that of their costs
pub record SoFar (levels : List ℤ) (x i sum : ℕ) : Type 0 where
  pub ranged : (k : ℕ) → k < i → not (in_range (level_at levels k)) ≡ false
  pub summed : sum ≡ sum_below i (λ k. level_cost levels k (bit x k))

-- before the first slot
pub none_yet : (levels : List ℤ) (x : ℕ) → SoFar levels x 0 0
unfolding sum_below
none_yet levels x = record { ranged = λ k l. absurd (not-suc-le-zero l); summed = refl }

module _ {levels : List ℤ} {x i sum : ℕ} (before : SoFar levels x i sum) where
  -- one slot more, whose bit costs `cost`
  pub one_more : (cost b : ℕ) → not (in_range (level_at levels i)) ≡ false → b ≡ bit x i → cost ≡ slot_cost (level_at levels i) b
      → SoFar levels x (i + 1) (sum + cost)
  unfolding sum_below
  one_more cost b inside is_bit is_cost =
      rw (add-one i)
      (record {
        ranged = rw (add-one i) at (below_more _ _ before.ranged inside);
        summed = ap₂ ◌+◌ before.summed (is_cost ∙ rw is_bit);
      })

  -- no sum is larger than the greatest cost for each slot of the largest block
  pub sum_small : i ≤ 2 ^ largest → sum ≤ 2 ^ largest * ((limit + 256) * (limit + 256))
  sum_small l =
      rw before.summed
      (le_trans (sum-le i (λ k k<i. slot_greatest (level_at levels k) (bit x k) (not-false _ (before.ranged k k<i))))
      (le_trans (le_of_eq (sum-const i ((limit + 256) * (limit + 256)))) (mul-le-mul_right _ l)))

  -- a slot out of range is the first
  pub out_found : (slots : ℕ) → i < slots → not (in_range (level_at levels i)) ≡ true
      → refused (record { number = 6; values = i ∷ [] }) ≡ measured_below slots levels x
  unfolding measured_below
  out_found slots l out = rw (some_of slots _ i l out before.ranged)

  -- where every slot was met, the sum is the distance
  pub all_measured : done sum ≡ measured_below i levels x
  unfolding measured_below
  all_measured = rw (none_of i _ before.ranged, before.summed)
