-- A clean block: where one permitted word alone costs nothing, the walk takes a visit for each group and one more
-- for each group with an unfrozen index. Over any such cost, then for the ideal levels.
use Prim.Native.Nat.{ℕ, zero, suc, ◌+◌, ◌*◌, ◌^◌, ◌<◌}
use Rattle.std.specs.Prelude.{◌≡◌, refl, Bool}
use Rattle.std.proofs.Common.{sym, ◌∙◌, ap₂, ⊎_elim, lt-ltb}
use Rattle.std.proofs.Math.Path.{ap}
use Rattle.std.proofs.Math.Bool.{true, false, cond}
use mathlib.Core.List.Memᴰ
use mathlib.Core.List.{List, [], ◌∷◌, Memᴰ}
use Rattle.std.proofs.Math.Nat.{zero-add}
use Rattle.std.proofs.Math.Decide.{ℕ_discrete}
use native.Mathlib.Omega.{arith}
use Rattle.std.proofs.Math.ListN.{length}
use Rattle.rules.specs.Below.{count_below, sum_below}
use Rattle.rules.specs.Word.{code_bit, permitted}
use Rattle.rules.specs.Level.{nothing, best}
use Rattle.rules.specs.Folding.{group, groups}
use Rattle.rules.specs.Walk.{Candidate, pattern, branch, candidate, candidates, keep_best, State, visit, walk, walk_of, walk_visits}
use Rattle.laws.proofs.Walk.Completions.{branch_final}
use Rattle.laws.proofs.Walk.Patterns.{candidates-rising, pattern_filling}
use Rattle.laws.specs.Code.Matrix.{code_bit_lt}
use Rattle.laws.specs.Numbers.SortedLists.{Rising}
use Rattle.laws.specs.Walk.Candidates.{Before, before_asym, candidates_at, candidates_of_lem}
use Rattle.laws.specs.Walk.CleanBlock.{Clean}
use Rattle.laws.specs.Walk.Completions.{Completes, Node, completes_all, completes_none, next_filling, node_down, root}
use Rattle.laws.specs.Walk.FillingCount.{candidates-length, has_unfrozen, more_fillings, one_filling}
use Rattle.laws.specs.Walk.Fillings.{Fills}
use Rattle.laws.specs.Walk.GroupSizes.{group_at}

-- a branch of no cost is a sum of no costs
branch-zero : (n : ℕ) (cost : ℕ → ℕ → ℕ) (d : ℕ) (is : List ℕ) → branch n cost d is ≡ 0 → (i : ℕ) → Memᴰ i is → cost i (code_bit n d i) ≡ 0
unfolding branch
branch-zero n cost d is h i m = go i is m h
  where
    go : (i : ℕ) (is : List ℕ) → Memᴰ i is → branch n cost d is ≡ 0 → cost i (code_bit n d i) ≡ 0
    go i is (Memᴰ.head {x = j} {xs = js} t) h = rw t (omega arith)
    go i is (Memᴰ.tail {x = j} {xs = js} m) h = go i js m (omega arith)

branch_none : (n : ℕ) (cost : ℕ → ℕ → ℕ) (d : ℕ) (is : List ℕ) → ((i : ℕ) → Memᴰ i is → cost i (code_bit n d i) ≡ 0) → branch n cost d is ≡ 0
unfolding branch
branch_none n cost d [] h = refl
branch_none n cost d (i ∷ is) h = omega (arith, h i (Memᴰ.head refl), branch_none n cost d is (λ j m. h j (Memᴰ.tail m)))

pattern_cong : (n d e : ℕ) (is : List ℕ) → ((i : ℕ) → Memᴰ i is → code_bit n d i ≡ code_bit n e i) → pattern n d is ≡ pattern n e is
unfolding pattern
pattern_cong n d e [] h = refl
pattern_cong n d e (i ∷ is) h =
    ap₂ (λ (x y : ℕ). x + 2 * y) (h i (Memᴰ.head refl)) (pattern_cong n d e is (λ j m. h j (Memᴰ.tail m)))

-- a visit for each of k groups, and one more for each with an unfrozen index
visits_of : ℕ → ℕ → ℕ → ℕ → ℕ
visits_of n mask folding k = k + count_below k (λ g. has_unfrozen mask (group n folding g))

-- in strict order, the only candidate of no cost stands first, and every other costs
first_free : (c : Candidate) (cs : List Candidate) → Rising Before cs → Memᴰ c cs → c.branch ≡ 0
    → ((a : Candidate) → Memᴰ a cs → a.branch ≡ 0 → a ≡ c)
    → (rest : List Candidate) × (cs ≡ c ∷ rest) × ((a : Candidate) → Memᴰ a rest → 0 < a.branch)
unfolding Rising
first_free c [] r m z only = absurd (Memᴰ.not-nil m)
first_free c (x ∷ cs) r m z only = (cs, ap (λ (y : Candidate). y ∷ cs) same, λ a i. costs a i (ℕ_discrete a.branch 0))
  where
    same : x ≡ c
    same = ⊎_elim (λ (e : c ≡ x). sym e) (λ i. only x (Memᴰ.head refl) (omega (arith, (r.0 c i).near))) (Memᴰ.cases_cons m)

    costs : (a : Candidate) → Memᴰ a cs → Dec (a.branch ≡ 0) → 0 < a.branch
    costs a i (yes y) =
        let e : a ≡ x = only a (Memᴰ.tail i) y ∙ sym same in
        let b : Before x x = rw e at (r.0 a i) in absurd (before_asym x x b b)
    costs a i (no y) = omega arith

module _ (n mask : ℕ) (cost : ℕ → ℕ → ℕ) (folding w : ℕ) (clean : Clean n cost w) where
  -- the row of a node on the way to w: the candidate on that way, of no cost, and others that cost
  row : (k d : ℕ) → Node n mask folding (suc k) d → Completes n mask folding (suc k) d w
      → (f : ℕ) × (rest : List Candidate) × Fills mask (group n folding k) f × Completes n mask folding k (d + f) w
      × (candidates n mask cost folding k d ≡ candidate n cost d (group n folding k) f ∷ rest) × (branch n cost (d + f) (group n folding k) ≡ 0)
      × ((a : Candidate) → Memᴰ a rest → 0 < a.branch)
  unfolding candidate
  row k d v h =
      let next = next_filling n mask folding k d w v h in
      let r = first_free (candidate n cost d (group n folding k) next.0) (candidates n mask cost folding k d) (candidates-rising n mask folding k d v cost)
      (candidates_of_lem n mask cost folding k d next.0 next.1) (free next.0 next.2) (only next.0 next.1 next.2) in
      (next.0, r.0, next.1, next.2, r.1, free next.0 next.2, r.2)
    where
      free : (f : ℕ) → Completes n mask folding k (d + f) w → branch n cost (d + f) (group n folding k) ≡ 0
      free f c = branch_final n mask cost folding k (d + f) w c ∙ branch_none n cost w (group n folding k) (λ i m. clean.free i (group_at n folding k i m).0)

      bits : (f : ℕ) → branch n cost (d + f) (group n folding k) ≡ 0 → (i : ℕ) → Memᴰ i (group n folding k) → code_bit n (d + f) i ≡ code_bit n w i
      bits f z i m = clean.alone i (code_bit n (d + f) i) (group_at n folding k i m).0 (code_bit_lt n (d + f) i) (branch-zero n cost (d + f) (group n folding k) z i m)

      only : (f : ℕ) → Fills mask (group n folding k) f → Completes n mask folding k (d + f) w → (a : Candidate) → Memᴰ a (candidates n mask cost folding k d) → a.branch ≡ 0
          → a ≡ candidate n cost d (group n folding k) f
      only f p c a m z =
          let x = candidates_at n mask cost folding k d a m in
          let e : x.0 ≡ f = pattern_filling n mask folding k d v x.0 f x.1 p
          (pattern_cong n (d + x.0) (d + f) (group n folding k) (λ i t. bits x.0 (rw x.2 at z) i t ∙ sym (bits f (free f c) i t))) in
          x.2 ∙ ap (candidate n cost d (group n folding k)) e

  -- the state in which w is found
  found : ℕ → State keep_best
  found v = record { kept = best 0 w; visits = v }

  -- after the word is found, what is left of a node's row takes one visit, or none where nothing is left
  visit_rest : (down : ℕ → ℕ → State keep_best → State keep_best) (k d v f : ℕ) (rest : List Candidate)
      → candidates n mask cost folding k d ≡ candidate n cost d (group n folding k) f ∷ rest → ((a : Candidate) → Memᴰ a rest → 0 < a.branch)
      → visit keep_best down 0 d rest (record { kept = best 0 w; visits = suc v + visits_of n mask folding k })
      ≡ record { kept = best 0 w; visits = v + visits_of n mask folding (suc k) }
  unfolding visit visits_of count_below sum_below found
  visit_rest down k d v f [] e costs = ap found (go (has_unfrozen mask (group n folding k)) refl)
    where
      go : (t : Bool) → has_unfrozen mask (group n folding k) ≡ t
          → suc v + visits_of n mask folding k ≡ v + (suc k + (count_below k (λ g. has_unfrozen mask (group n folding g)) + cond t 1 0))
      go true t = absurd (omega (arith, more_fillings mask (group n folding k) t, candidates-length n mask cost folding k d, ap length e))
      go false t = omega arith
  visit_rest down k d v f (a ∷ rest) e costs =
      rw (lt-ltb 0 (0 + a.branch) (omega (arith, costs a (Memᴰ.head refl)))) (ap found (go (has_unfrozen mask (group n folding k)) refl))
    where
      go : (t : Bool) → has_unfrozen mask (group n folding k) ≡ t
          → suc (suc v + visits_of n mask folding k) ≡ v + (suc k + (count_below k (λ g. has_unfrozen mask (group n folding g)) + cond t 1 0))
      go true t = omega arith
      go false t = absurd (omega (arith, one_filling mask (group n folding k) t, candidates-length n mask cost folding k d, ap length e))

  -- the walk below a node on the way to w finds w at no cost
  clean-walk : (k d v : ℕ) → Node n mask folding k d → Completes n mask folding k d w
      → walk keep_best (candidates n mask cost folding) k 0 d (record { kept = nothing; visits = v })
      ≡ record { kept = best 0 w; visits = v + visits_of n mask folding k }
  unfolding walk visit candidate visits_of count_below sum_below found
  clean-walk zero d v node h =
      rw (← completes_all n mask folding d w node h) (ap found (omega arith))
  clean-walk (suc k) d v node h =
      let r = row k d node h in
      rw (r.4, r.5, clean-walk k (d + r.0) (suc v) (node_down n mask folding k d r.0 node r.2) r.3)
      (visit_rest (walk keep_best (candidates n mask cost folding) k) k d v r.0 r.1 r.4 r.6)

  -- so does the whole walk
  clean_whole : folding < 2 ^ n → permitted n mask w ≡ true → walk_of n mask cost folding ≡ found (0 + visits_of n mask folding (groups n folding))
  unfolding walk_of found
  clean_whole fits allowed =
      clean-walk (groups n folding) 0 0 (root n mask folding (groups n folding)) (completes_none n mask folding w fits allowed)

  -- the visits of a clean block: the groups, and one more for each with an unfrozen index
  pub clean_visits : folding < 2 ^ n → permitted n mask w ≡ true
      → walk_visits n mask cost folding ≡ groups n folding + count_below (groups n folding) (λ k. has_unfrozen mask (group n folding k))
  unfolding visits_of found
  clean_visits fits allowed = ap (λ (s : State keep_best). s.visits) (clean_whole fits allowed) ∙ zero-add _

  -- what is kept of it: the one word, at no cost
  pub clean_kept : folding < 2 ^ n → permitted n mask w ≡ true → (walk_of n mask cost folding).kept ≡ best 0 w
  unfolding found
  clean_kept fits allowed = ap (λ (s : State keep_best). s.kept) (clean_whole fits allowed)
