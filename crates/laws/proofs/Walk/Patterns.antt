-- Different fillings of a group have different patterns: so the candidates of a node are in strict order, and any
-- list in that order with the same members is the same list.
use Rattle.std.specs.Prelude.{ℕ, suc, ◌+◌, ◌^◌, ◌≤◌, ◌<◌, ◌≡◌, ◌≢◌}
use Rattle.std.proofs.Common.{sym, ◌∙◌, ap, arith}
use mathlib.Core.List.{List, Memᴰ}
use Rattle.std.proofs.Math.Decide.{ℕ_discrete}
use Rattle.rules.specs.Word.{bit, code_bit, codeword}
use Rattle.rules.specs.Folding.{group_no, group}
use Rattle.rules.specs.Walk.{Candidate, fillings, pattern, candidate, candidates}
use Rattle.laws.proofs.Codewords.Matrix.{codeword_twice}
use Rattle.laws.specs.Code.Matrix.{codeword-bit}
use Rattle.laws.specs.Code.Permitted.{permitted-lt}
use Rattle.laws.specs.Numbers.Bits.{bit_ext}
use Rattle.laws.specs.Numbers.SortedLists.{Rising, rising-map, rising_unique}
use Rattle.laws.specs.Walk.Candidates.{Before, before_asym, in_order-rising}
use Rattle.laws.specs.Walk.Completions.{Node, fill_zero, node-add, node_down}
use Rattle.laws.specs.Walk.Fillings.{Fills, fillings_at, fillings_differ}
use Rattle.laws.specs.Walk.GroupSizes.{group-rising, group_of}
use Rattle.laws.specs.Walk.Groups.{code_bit_depends}
use Rattle.laws.specs.Walk.Patterns.{pattern-bits}

-- words with equal codeword bits in the groups from k on have equal bits there
pub bits_of_code : (n folding k d e : ℕ) → d < 2 ^ (2 ^ n) → e < 2 ^ (2 ^ n)
    → ((i : ℕ) → i < 2 ^ n → k ≤ group_no folding i → code_bit n d i ≡ code_bit n e i)
    → (j : ℕ) → k ≤ group_no folding j → bit d j ≡ bit e j
bits_of_code n folding k d e p q h j g =
    sym (back d p) ∙ code_bit_depends n folding (codeword n d) (codeword n e) j
    (λ i l t. codeword-bit n d i ∙ h i l (omega arith) ∙ sym (codeword-bit n e i)) ∙ back e q
  where
    back : (x : ℕ) → x < 2 ^ (2 ^ n) → code_bit n (codeword n x) j ≡ bit x j
    back x l = sym (codeword-bit n (codeword n x) j) ∙ ap (λ (y : ℕ). bit y j) (codeword_twice n x l)

module _ (n mask folding k d : ℕ) (node : Node n mask folding (suc k) d) where
  -- fillings of the next group with one pattern are one
  pub pattern_filling : (f g : ℕ) → Fills mask (group n folding k) f → Fills mask (group n folding k) g
      → pattern n (d + f) (group n folding k) ≡ pattern n (d + g) (group n folding k) → f ≡ g
  pattern_filling f g p q e = bit_ext (λ j. same j (ℕ_discrete (group_no folding j) k))
    where
      later : (j : ℕ) → group_no folding j ≢ k → bit (d + f) j ≡ bit (d + g) j
      later j ne = omega (
        arith,
        node-add n mask folding k d f node p j,
        node-add n mask folding k d g node q j,
        fill_zero n mask folding k f j p ne,
        fill_zero n mask folding k g j q ne,
      )

      code : (i : ℕ) → i < 2 ^ n → k ≤ group_no folding i → Dec (group_no folding i ≡ k) → code_bit n (d + f) i ≡ code_bit n (d + g) i
      code i l t (yes y) = pattern-bits n (d + f) (d + g) (group n folding k) e i (group_of n folding k i l y)
      code i l t (no y) = code_bit_depends n folding (d + f) (d + g) i (λ j _ u. later j (λ z. y (omega arith)))

      same : (j : ℕ) → Dec (group_no folding j ≡ k) → bit f j ≡ bit g j
      same j (yes y) = omega (
        arith,
        node-add n mask folding k d f node p j,
        node-add n mask folding k d g node q j,
        bits_of_code n folding k (d + f) (d + g) (permitted-lt n mask (d + f) (node_down n mask folding k d f node p).allowed)
            (permitted-lt n mask (d + g) (node_down n mask folding k d g node q).allowed) (λ i l t. code i l t (ℕ_discrete (group_no folding i) k)) j (omega arith),
      )
      same j (no y) = omega (arith, fill_zero n mask folding k f j p y, fill_zero n mask folding k g j q y)

  -- the candidates of a node are in strict order
  pub candidates-rising : (cost : ℕ → ℕ → ℕ) → Rising Before (candidates n mask cost folding k d)
  unfolding candidates candidate
  candidates-rising cost =
      let fills : (f : ℕ) → Memᴰ f (fillings mask (group n folding k)) → Fills mask (group n folding k) f
      = fillings_at mask (group n folding k) (group-rising n folding k) in
      in_order-rising _ (rising-map (λ (f g : ℕ). f ≢ g) (λ (a b : Candidate). a.pattern ≢ b.pattern) (candidate n cost d (group n folding k)) (fillings mask (group n folding k))
      (λ f g i j ne e. ne (pattern_filling f g (fills f i) (fills g j) e))
      (fillings_differ mask (group n folding k) (group-rising n folding k)))

  -- a list in strict order with the same members is the list of candidates
  pub candidates_unique : (cost : ℕ → ℕ → ℕ) (row : List Candidate) → Rising Before row
      → ((c : Candidate) → Memᴰ c row → Memᴰ c (candidates n mask cost folding k d))
      → ((c : Candidate) → Memᴰ c (candidates n mask cost folding k d) → Memᴰ c row)
      → row ≡ candidates n mask cost folding k d
  candidates_unique cost row r f g = rising_unique Before before_asym row (candidates n mask cost folding k d) r (candidates-rising cost) f g
