-- Branches add up to the distance: the cost that is left with k levels left is a sum over the slots of the groups
-- below k, one branch more at each level, and the whole distance at the first.
use Rattle.std.specs.Prelude.{ℕ, zero, suc, ◌+◌, ◌^◌, ◌<◌, ◌≡◌, Bool}
use Rattle.std.proofs.Math.Path.{refl, ap}
use Rattle.std.proofs.Common.{sym, ◌∙◌, ap₂, zero-add, arith}
use Rattle.std.proofs.Math.Bool.{true, false, cond}
use mathlib.Core.List.{List, [], ◌∷◌, ◌++◌, Memᴰ}
use Rattle.std.proofs.Math.Dec.{ltb, eqb}
use borrow.Author.Tests.{ltb-true, ltb-false, eqb-true, eqb-false, lt-ltb, le-ltb}
use Rattle.rules.specs.Below.{sum_below, list_below}
use Rattle.rules.specs.Word.{code_bit}
use Rattle.rules.specs.Level.{distance, word_distance}
use Rattle.rules.specs.Folding.{group_no, group, groups}
use Rattle.rules.specs.Walk.{branch}
use Rattle.laws.specs.Numbers.Sums.{sum_cong, sum-zero, sum-add}
use Rattle.laws.specs.Code.Matrix.{codeword-bit}
use Rattle.laws.specs.Walk.GroupSizes.{group_no_below}

-- words with the same codeword bits have the same branch
pub branch_cong : (n : ℕ) (cost : ℕ → ℕ → ℕ) (d e : ℕ) (is : List ℕ) → ((i : ℕ) → Memᴰ i is → code_bit n d i ≡ code_bit n e i)
    → branch n cost d is ≡ branch n cost e is
unfolding branch
branch_cong n cost d e [] h = refl
branch_cong n cost d e (i ∷ is) h =
    ap₂ ◌+◌ (ap (cost i) (h i (Memᴰ.head refl))) (branch_cong n cost d e is (λ j m. h j (Memᴰ.tail m)))

branch-append : (n : ℕ) (cost : ℕ → ℕ → ℕ) (d : ℕ) (is js : List ℕ) → branch n cost d (is ++ js) ≡ branch n cost d is + branch n cost d js
unfolding branch
branch-append n cost d [] js = sym (zero-add _)
branch-append n cost d (i ∷ is) js = omega (arith, branch-append n cost d is js)

-- a branch over a list of indices is a sum over the slots
pub branch_list : (n : ℕ) (cost : ℕ → ℕ → ℕ) (d m : ℕ) (test : ℕ → Bool)
    → branch n cost d (list_below m test) ≡ sum_below m (λ i. cond (test i) (cost i (code_bit n d i)) 0)
unfolding branch list_below sum_below
branch_list n cost d zero test = refl
branch_list n cost d (suc m) test =
    branch-append n cost d (list_below m test) (cond (test m) (m ∷ []) []) ∙ ap₂ ◌+◌ (branch_list n cost d m test) (go (test m))
  where
    go : (t : Bool) → branch n cost d (cond t (m ∷ []) []) ≡ cond t (cost m (code_bit n d m)) 0
    go true = omega arith
    go false = refl

-- the cost of the slots in groups below k
unfoldable pub cost_left : ℕ → (ℕ → ℕ → ℕ) → ℕ → ℕ → ℕ → ℕ
cost_left n cost folding k e = sum_below (2 ^ n) (λ i. cond (ltb (group_no folding i) k) (cost i (code_bit n e i)) 0)

module _ (n : ℕ) (cost : ℕ → ℕ → ℕ) (folding : ℕ) where
  -- no level left, no cost left
  pub left_zero : (e : ℕ) → cost_left n cost folding 0 e ≡ 0
  unfolding cost_left
  left_zero e = sum-zero (2 ^ n) (λ i l. rw (le-ltb (group_no folding i) 0 (omega arith)))

  -- one level more, one branch more
  pub left_step : (k e : ℕ) → cost_left n cost folding (suc k) e ≡ cost_left n cost folding k e + branch n cost e (group n folding k)
  unfolding cost_left group
  left_step k e =
      sum_cong (2 ^ n) (λ i l. go i (ltb (group_no folding i) k) (eqb (group_no folding i) k) refl refl)
      ∙ sum-add (2 ^ n) (λ i. cond (ltb (group_no folding i) k) (cost i (code_bit n e i)) 0) (λ i. cond (eqb (group_no folding i) k) (cost i (code_bit n e i)) 0)
      ∙ ap (λ (x : ℕ). cost_left n cost folding k e + x) (sym (branch_list n cost e (2 ^ n) (λ i. eqb (group_no folding i) k)))
    where
      go : (i : ℕ) (a b : Bool) → ltb (group_no folding i) k ≡ a → eqb (group_no folding i) k ≡ b
          → cond (ltb (group_no folding i) (suc k)) (cost i (code_bit n e i)) 0 ≡ cond a (cost i (code_bit n e i)) 0 + cond b (cost i (code_bit n e i)) 0
      go i true true p q = absurd (omega (arith, ltb-true (group_no folding i) k p, eqb-true (group_no folding i) k q))
      go i true false p q = rw (lt-ltb (group_no folding i) (suc k) (omega (arith, ltb-true (group_no folding i) k p))) (omega arith)
      go i false true p q = rw (lt-ltb (group_no folding i) (suc k) (omega (arith, eqb-true (group_no folding i) k q))) (omega arith)
      go i false false p q =
          rw (le-ltb (group_no folding i) (suc k) (omega (arith, ltb-false (group_no folding i) k p, eqb-false (group_no folding i) k q)))

  -- all levels left, the whole distance
  pub left_all : folding < 2 ^ n → (e : ℕ) → cost_left n cost folding (groups n folding) e ≡ word_distance n cost e
  unfolding cost_left distance
  left_all fits e = sum_cong (2 ^ n) (λ i l. rw (lt-ltb _ _ (group_no_below n folding fits i l), codeword-bit n e i))
