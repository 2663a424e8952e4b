-- Groups of a folding, counted: with k ones in the folding there are N / 2 ^ k groups of 2 ^ k indices,
-- each a rising list of the indices with its number.
use Rattle.std.specs.Prelude.{ℕ, zero, suc, ◌+◌, ◌-◌, ◌*◌, ◌/◌, ◌%◌, ◌^◌, ◌≤◌, ◌<◌, ◌≡◌, cond, length}
use Rattle.std.proofs.Math.Path.{refl, sym}
use Rattle.std.proofs.Common.{◌∙◌, ap, pow-suc, mul-div_cancel, mul-one, arith, pow_pos}
use mathlib.Core.List.{Memᴰ}
use Rattle.std.proofs.Math.Nat.{two-pow-succ}
use Rattle.std.proofs.Math.Decide.{ℕ_discrete}
use Rattle.std.specs.Int.Bits.{and_step}
use Rattle.std.proofs.lemmas.Nat.{and_le_l}
use Rattle.std.specs.Int.Count.{ones, ones_step}
use Rattle.std.proofs.Math.Dec.{eqb}
use borrow.Author.Tests.{eq-eqb, ne_eqb, eqb-true}
use Rattle.rules.specs.Below.{sum_below, count_below}
use Rattle.rules.specs.Folding.{smallest, group_no, group, groups}
use Rattle.laws.specs.Numbers.Sums.{sum_cong, sum-const, sum-mul, sum-single, sum_swap, mem_at, mem_of, count_cong, length_list, sum_pairs}
use Rattle.laws.specs.Numbers.CountBelow.{count_rises, count_onto}
use Rattle.laws.specs.Numbers.SortedLists.{Rising, list_rising}
use Rattle.laws.specs.Walk.Groups.{smallest_twice, smallest_same, group_no_same}

-- the lowest digit of a smallest index, apart
smallest_step : (folding x i : ℕ) → x / 2 ≡ i → smallest folding x ≡ smallest (folding / 2) i * 2 + (x % 2 - folding % 2)
smallest_step folding x i e = omega (arith, rw e at (and_step x folding), and_le_l i (folding / 2))

-- one where two numbers are equal, else zero
abbrev flag : ℕ → ℕ → ℕ
flag a b = cond (eqb a b) 1 0

flag_same : {a b : ℕ} → a ≡ b → flag a b ≡ 1
flag_same {a} {b} e = rw (eq-eqb a b e)

flag_other : {a b : ℕ} → (a ≡ b → ⊥) → flag a b ≡ 0
flag_other {a} {b} n = rw (ne_eqb a b n)

-- a pair of indices with one higher part: how many of the two have the smallest index h
pair : (a b s f h : ℕ) → a ≡ s * 2 → b ≡ s * 2 + (1 - f) → f < 2 → h % 2 ≤ 1 - f → flag a h + flag b h ≡ (1 + f) * flag s (h / 2)
pair a b s zero h p q r t = go (ℕ_discrete s (h / 2)) (ℕ_discrete (h % 2) 0)
  where
    go : Dec (s ≡ h / 2) → Dec (h % 2 ≡ 0) → flag a h + flag b h ≡ 1 * flag s (h / 2)
    go (no n) g = rw (flag_other n, flag_other {a = a} {b = h} (λ u. n (omega arith)), flag_other {a = b} {b = h} (λ u. n (omega arith)))
    go (yes y) (yes g) = rw (flag_same y, flag_same {a = a} {b = h} (omega arith), flag_other {a = b} {b = h} (λ u. omega arith))
    go (yes y) (no g) = rw (flag_same y, flag_other {a = a} {b = h} (λ u. g (omega arith)), flag_same {a = b} {b = h} (omega arith))
pair a b s (suc f) h p q r t = go (ℕ_discrete s (h / 2))
  where
    one : f ≡ 0
    one = omega arith

    go : Dec (s ≡ h / 2) → flag a h + flag b h ≡ (1 + suc f) * flag s (h / 2)
    go (no n) = rw (flag_other n, flag_other {a = a} {b = h} (λ u. n (omega arith)), flag_other {a = b} {b = h} (λ u. n (omega arith)), one)
    go (yes y) = rw (flag_same y, flag_same {a = a} {b = h} (omega arith), flag_same {a = b} {b = h} (omega arith), one)

flag_pair : (folding h i : ℕ) → smallest folding h ≡ h
    → flag (smallest folding (i * 2)) h + flag (smallest folding (i * 2 + 1)) h ≡ (1 + folding % 2) * flag (smallest (folding / 2) i) (h / 2)
flag_pair folding h i e = pair _ _ (smallest (folding / 2) i) (folding % 2) h
    (omega (arith, smallest_step folding (i * 2) i (omega arith))) (omega (arith, smallest_step folding (i * 2 + 1) i (omega arith)))
    (omega arith) (omega (arith, smallest_step folding h (h / 2) refl))

one_more : (f m : ℕ) → f < 2 → (1 + f) * 2 ^ m ≡ 2 ^ (f + m)
one_more zero m h = let e : 0 + m ≡ m = omega arith in rw e (omega arith)
one_more (suc f) m h =
    let e : suc f + m ≡ suc m = omega arith in let z : f ≡ 0 = omega arith in rw (e, z) (omega (arith, two-pow-succ m))

ones-zero : ones 0 ≡ 0
unfolding ones
ones-zero = refl

-- how many indices have the smallest index h
size : (n folding h : ℕ) → folding < 2 ^ n → h < 2 ^ n → smallest folding h ≡ h
    → count_below (2 ^ n) (λ i. eqb (smallest folding i) h) ≡ 2 ^ ones folding
unfolding count_below sum_below
size zero folding h f l e =
    let f0 : folding ≡ 0 = omega arith in let h0 : h ≡ 0 = omega arith in rw (f0, h0, ones-zero)
size (suc n) folding h f l e =
    let below : count_below (2 ^ n) (λ i. eqb (smallest (folding / 2) i) (h / 2)) ≡ 2 ^ ones (folding / 2)
    = size n (folding / 2) (h / 2) (omega (arith, two-pow-succ n)) (omega (arith, two-pow-succ n)) (omega (arith, smallest_step folding h (h / 2) refl)) in
    rw (pow-suc 2 n, sum_pairs (2 ^ n) (λ i. flag (smallest folding i) h))
    (sum_cong (2 ^ n) (λ i l. flag_pair folding h i e) ∙ sum-mul (2 ^ n) (1 + folding % 2) (λ i. flag (smallest (folding / 2) i) (h / 2))
    ∙ rw (below, ones_step folding) (one_more (folding % 2) (ones (folding / 2)) (omega arith)))

module _ (n folding : ℕ) (fits : folding < 2 ^ n) where
  -- the smallest indices below 2 ^ n
  heads : ℕ
  heads = count_below (2 ^ n) (λ i. eqb (smallest folding i) i)

  no_lt : (i : ℕ) → i < 2 ^ n → group_no folding i < heads
  unfolding group_no heads
  no_lt i l = count_rises (λ j. eqb (smallest folding j) j) (omega arith) (eq-eqb _ _ (smallest_twice folding i))

  head : (k : ℕ) → k < heads → (h : ℕ) × (h < 2 ^ n) × (smallest folding h ≡ h) × (group_no folding h ≡ k)
  unfolding group_no heads
  head k l =
      let r = count_onto (λ i. eqb (smallest folding i) i) (2 ^ n) k l in
      let e : smallest folding r.0 ≡ r.0 = eqb-true _ _ r.2 in (r.0, r.1, e, rw e r.3)

  no_size : (k : ℕ) → k < heads → count_below (2 ^ n) (λ i. eqb (group_no folding i) k) ≡ 2 ^ ones folding
  no_size k l =
      let r = head k l in
      count_cong (2 ^ n) _ _ (λ i _. same i r.0 r.2 r.3 (ℕ_discrete (smallest folding i) r.0)) ∙ size n folding r.0 fits r.1 r.2
    where
      same : (i h : ℕ) → smallest folding h ≡ h → group_no folding h ≡ k → Dec (smallest folding i ≡ h) → eqb (group_no folding i) k ≡ eqb (smallest folding i) h
      same i h e g (yes y) = eq-eqb _ _ (group_no_same folding i h (y ∙ sym e) ∙ g) ∙ sym (eq-eqb _ _ y)
      same i h e g (no y) = ne_eqb _ _ (λ t. y (smallest_same folding i h (t ∙ sym g) ∙ e)) ∙ sym (ne_eqb _ _ y)

  all_heads : 2 ^ n ≡ heads * 2 ^ ones folding
  unfolding count_below
  all_heads =
      let number : 2 ^ n ≡ sum_below (2 ^ n) (λ i. sum_below heads (λ k. flag (group_no folding i) k))
      = sym (mul-one (2 ^ n)) ∙ sym (sum-const (2 ^ n) 1) ∙ sum_cong (2 ^ n) (λ i l. sym (own i l)) in
      number ∙ sum_swap (2 ^ n) heads (λ i k. flag (group_no folding i) k) ∙ sum_cong heads (λ k l. no_size k l) ∙ sum-const heads (2 ^ ones folding)
    where
      own : (i : ℕ) → i < 2 ^ n → sum_below heads (λ k. flag (group_no folding i) k) ≡ 1
      own i l = sum-single heads (group_no folding i) (no_lt i l) (λ k _ ne. flag_other (λ t. ne (sym t))) ∙ flag_same {a = group_no folding i} refl

  -- a group for each smallest index
  heads_groups : heads ≡ groups n folding
  heads_groups = sym (ap (λ (x : ℕ). x / 2 ^ ones folding) all_heads ∙ mul-div_cancel heads (pow_pos (ones folding)))

  -- the groups and their size make N
  pub groups_all : groups n folding * 2 ^ ones folding ≡ 2 ^ n
  groups_all = rw (← heads_groups) (sym all_heads)

  -- an index below N is in a group
  pub group_no_below : (i : ℕ) → i < 2 ^ n → group_no folding i < groups n folding
  group_no_below i l = rw heads_groups at (no_lt i l)

  -- each group has 2 ^ k indices
  pub group-length : (k : ℕ) → k < groups n folding → length (group n folding k) ≡ 2 ^ ones folding
  unfolding group
  group-length k l = length_list (2 ^ n) _ ∙ no_size k (rw heads_groups l)

-- a member of a group is an index below N with its number
pub group_at : (n folding k i : ℕ) → Memᴰ i (group n folding k) → (i < 2 ^ n) × (group_no folding i ≡ k)
unfolding group
group_at n folding k i m = let r = mem_at (2 ^ n) (λ j. eqb (group_no folding j) k) i m in (r.0, eqb-true _ _ r.1)

-- an index below N with that number is a member
pub group_of : (n folding k i : ℕ) → i < 2 ^ n → group_no folding i ≡ k → Memᴰ i (group n folding k)
unfolding group
group_of n folding k i l e = mem_of (2 ^ n) (λ j. eqb (group_no folding j) k) i l (eq-eqb _ _ e)

-- the indices of a group rise
pub group-rising : (n folding k : ℕ) → Rising ◌<◌ (group n folding k)
unfolding group
group-rising n folding k = list_rising (2 ^ n) (λ i. eqb (group_no folding i) k)
