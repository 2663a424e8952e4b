-- Document 01, "Folding": the groups of a folding and their order.
use Rattle.std.specs.Prelude.{ℕ, ◌-◌, ◌/◌, ◌^◌, List, eqb}
use Rattle.std.specs.Int.Bits.{bit_and}
use Rattle.std.specs.Int.Count.{ones}
use Rattle.rules.specs.Below.{count_below, list_below}

-- "Indices that agree outside the folding's bits make one group": the index with the folding's bits cleared,
-- which is the smallest of its group
abbrev pub smallest : ℕ → ℕ → ℕ
smallest folding i = i - bit_and i folding

-- the number of an index's group, from 0 in rising order of the smallest index ("in falling order of their smallest index" they
-- are decided)
unfoldable pub group_no : ℕ → ℕ → ℕ
group_no folding i = count_below (smallest folding i) (λ j. eqb (smallest folding j) j)

-- "Indices that agree outside the folding's bits make one group": the indices of group k, rising
unfoldable pub group : ℕ → ℕ → ℕ → List ℕ
group n folding k = list_below (2 ^ n) (λ i. eqb (group_no folding i) k)

-- "with k ones in the folding there are L = N/2^k groups of 2^k"
abbrev pub groups : ℕ → ℕ → ℕ
groups n folding = 2 ^ n / 2 ^ ones folding
