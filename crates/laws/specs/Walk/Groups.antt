-- Groups of a folding: which indices share a number, the order of the numbers, and what a codeword bit
-- depends on.
use Rattle.std.specs.Prelude.{ℕ, ◌-◌, ◌%◌, ◌^◌, ◌≤◌, ◌<◌, ◌≡◌, refl, ◌↔◌, Bool, true, false, cond, eqb}
use Rattle.std.proofs.Common.{sym, ◌∙◌, ap, arith, eq-eqb}
use Rattle.std.proofs.Math.Decide.{dec_lt, ℕ_discrete}
use Rattle.std.specs.Int.Bits.{bit_and, bit_xor, xor_add_and}
use Rattle.rules.specs.Word.{bit, covers, code_bit}
use Rattle.rules.specs.Folding.{smallest, group_no}
use Rattle.laws.specs.Numbers.Sums.{sum_cong}
use Rattle.laws.specs.Numbers.CountBelow.{count_mono, count_rises}
use Rattle.laws.specs.Numbers.Bits.{bit_lt_two, bit_ext, bit-and, bit-xor, covers_at, covers_of, covers-le}

-- the smallest index of a group has the index's bits outside the folding alone
pub smallest-bit : (folding i k : ℕ) → bit (smallest folding i) k ≡ bit i k - bit folding k
smallest-bit folding i k =
    let inside : bit_and i (bit_and i folding) ≡ bit_and i folding = bit_ext (λ j. bit-and i (bit_and i folding) j ∙ rw (bit-and i folding j) (omega arith)) in
    let cleared : bit_xor i (bit_and i folding) ≡ smallest folding i = omega (arith, xor_add_and i (bit_and i folding)) in
    rw (← cleared, bit-xor i (bit_and i folding) k, bit-and i folding k) (omega (arith, bit_lt_two i k, bit_lt_two folding k))

-- the smallest index of a group is its own smallest
pub smallest_twice : (folding i : ℕ) → smallest folding (smallest folding i) ≡ smallest folding i
smallest_twice folding i = bit_ext (λ k. smallest-bit folding (smallest folding i) k ∙ rw (smallest-bit folding i k) (omega arith))

-- indices that agree outside the folding's bits have one smallest index
pub smallest_of_agree : (folding i j : ℕ) → ((k : ℕ) → bit folding k ≡ 0 → bit i k ≡ bit j k) → smallest folding i ≡ smallest folding j
smallest_of_agree folding i j h = bit_ext (λ k. smallest-bit folding i k ∙ at k (ℕ_discrete (bit folding k) 0) ∙ sym (smallest-bit folding j k))
  where
    at : (k : ℕ) → Dec (bit folding k ≡ 0) → bit i k - bit folding k ≡ bit j k - bit folding k
    at k (yes e) = ap (λ (b : ℕ). b - bit folding k) (h k e)
    at k (no n) = omega (arith, bit_lt_two i k, bit_lt_two j k)

-- and indices with one smallest index agree there
pub agree_of_smallest : (folding i j : ℕ) → smallest folding i ≡ smallest folding j → (k : ℕ) → bit folding k ≡ 0 → bit i k ≡ bit j k
agree_of_smallest folding i j e k z =
    omega (arith, smallest-bit folding i k, smallest-bit folding j k, ap (λ (x : ℕ). bit x k) e)

-- group numbers go as the smallest indices do
pub group_no-le : (folding i j : ℕ) → smallest folding i ≤ smallest folding j → group_no folding i ≤ group_no folding j
unfolding group_no
group_no-le folding i j h = count_mono (λ k. eqb (smallest folding k) k) h

-- a greater smallest index has a greater number
pub group_no-lt : (folding i j : ℕ) → smallest folding i < smallest folding j → group_no folding i < group_no folding j
unfolding group_no
group_no-lt folding i j h = count_rises (λ k. eqb (smallest folding k) k) h (eq-eqb _ _ (smallest_twice folding i))

-- one number, one smallest index
pub smallest_same : (folding i j : ℕ) → group_no folding i ≡ group_no folding j → smallest folding i ≡ smallest folding j
smallest_same folding i j e = go (dec_lt (smallest folding i) (smallest folding j)) (dec_lt (smallest folding j) (smallest folding i))
  where
    go : Dec (smallest folding i < smallest folding j) → Dec (smallest folding j < smallest folding i) → smallest folding i ≡ smallest folding j
    go (yes h) t = absurd (omega (arith, group_no-lt folding i j h))
    go (no h) (yes t) = absurd (omega (arith, group_no-lt folding j i t))
    go (no h) (no t) = omega arith

-- one smallest index, one number
pub group_no_same : (folding i j : ℕ) → smallest folding i ≡ smallest folding j → group_no folding i ≡ group_no folding j
group_no_same folding i j e = omega (arith, group_no-le folding i j (omega arith), group_no-le folding j i (omega arith))

-- a greater number has a greater smallest index
pub smallest-lt : (folding i j : ℕ) → group_no folding i < group_no folding j → smallest folding i < smallest folding j
smallest-lt folding i j h = go (dec_lt (smallest folding i) (smallest folding j))
  where
    go : Dec (smallest folding i < smallest folding j) → smallest folding i < smallest folding j
    go (yes l) = l
    go (no g) = absurd (omega (arith, group_no-le folding j i (omega arith)))

-- "Indices that agree outside the folding's bits make one group": one number exactly where they agree
pub same_group : (folding i j : ℕ) → (group_no folding i ≡ group_no folding j) ↔ ((k : ℕ) → bit folding k ≡ 0 → bit i k ≡ bit j k)
same_group folding i j =
    (λ e. agree_of_smallest folding i j (smallest_same folding i j e), λ h. group_no_same folding i j (smallest_of_agree folding i j h))

-- an index that covers i is in no lower group
pub covers-group : (folding i j : ℕ) → covers i j ≡ true → group_no folding i ≤ group_no folding j
covers-group folding i j h =
    let bits : covers (smallest folding i) (smallest folding j) ≡ true
    = covers_of (smallest folding i) (smallest folding j)
    (λ k. omega (arith, smallest-bit folding i k, smallest-bit folding j k, covers_at i j h k)) in
    group_no-le folding i j (covers-le (smallest folding i) (smallest folding j) bits)

-- a codeword bit depends on the bits of d in groups not below its own alone
pub code_bit_depends : (n folding d e i : ℕ) → ((j : ℕ) → j < 2 ^ n → group_no folding i ≤ group_no folding j → bit d j ≡ bit e j)
    → code_bit n d i ≡ code_bit n e i
unfolding code_bit
code_bit_depends n folding d e i h = ap (λ (x : ℕ). x % 2) (sum_cong (2 ^ n) (λ j l. go j l (covers i j) refl))
  where
    go : (j : ℕ) → j < 2 ^ n → (t : Bool) → covers i j ≡ t → cond t (bit d j) 0 ≡ cond t (bit e j) 0
    go j l true t = h j l (covers-group folding i j t)
    go j l false t = refl
