-- What a level costs at each bit: the cost of the nearer bit, and at the farther bit 1024 times the level's magnitude more; and so
-- for a whole distance.
-- (1024 is four times 256, the ideal level's magnitude, and no limit.)
use Rattle.std.specs.Prelude.{ℕ, ◌+◌, ◌*◌, ◌^◌, ◌≤◌, min, ◌≡◌, true, List, ℤ}
use Rattle.std.proofs.Common.{ap, ◌∙◌, arith}
use Rattle.rules.specs.Below.{sum_below}
use Rattle.rules.specs.Word.{bit}
use Rattle.rules.specs.Level.{limit, in_range, level_at, slot_cost, level_cost, distance}
use Rattle.laws.specs.Distance.Excess.{cost_split, excess, nearest, one_nearer}
use Rattle.laws.specs.Distance.GreatestDistance.{slot_greatest}
use Rattle.laws.specs.Numbers.Sums.{sum-add, sum-mul, sum_cong}

-- the nearer bit's cost is the less of both
pub nearest_least : (level : ℤ) → nearest level ≡ min (slot_cost level 0) (slot_cost level 1)
nearest_least level = rw (cost_split level 0, cost_split level 1) (omega (arith, one_nearer level))

-- in range, the nearer bit costs no more than any bit
pub nearest_greatest : (level : ℤ) → in_range level ≡ true → nearest level ≤ (limit + 256) * (limit + 256)
nearest_greatest level h = omega (arith, cost_split level 0, slot_greatest level 0 h)

-- a word's distance: the nearer bits' costs, which every word has, and 1024 times its excess
pub distance_split : (n : ℕ) (levels : List ℤ) (x : ℕ)
    → distance n (level_cost levels) x
    ≡ sum_below (2 ^ n) (λ i. nearest (level_at levels i)) + 1024 * sum_below (2 ^ n) (λ i. excess (level_at levels i) (bit x i))
unfolding distance
distance_split n levels x =
    sum_cong (2 ^ n) (λ i l. cost_split (level_at levels i) (bit x i))
    ∙ sum-add (2 ^ n) (λ i. nearest (level_at levels i)) (λ i. 1024 * excess (level_at levels i) (bit x i))
    ∙ ap (λ (s : ℕ). sum_below (2 ^ n) (λ i. nearest (level_at levels i)) + s) (sum-mul (2 ^ n) 1024 (λ i. excess (level_at levels i) (bit x i)))
