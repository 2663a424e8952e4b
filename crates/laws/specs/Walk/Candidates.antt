-- Candidates in order: sorting keeps the members, orders the branches, and is strict where the patterns differ.
use Rattle.std.specs.Prelude.{ℕ, ◌≤◌, ◌<◌, ◌≡◌, refl, Bool, true, false, ◌&&◌, ◌||◌, cond, ◌≢◌, ◌⊎◌, leb, ltb, eqb}
use Rattle.std.proofs.Common.{zero-le, sym, inl, inr, ⊎_elim, arith, ltb-true, ltb-false, leb-true, leb-false, eqb-true}
use mathlib.Core.List.Memᴰ
use mathlib.Core.List.{List, [], ◌∷◌, Memᴰ}
use Rattle.std.proofs.lemmas.Bool.{eqb-false}
use Rattle.rules.specs.Folding.{group}
use Rattle.rules.specs.Walk.{Candidate, fillings, candidate, candidates, goes_first, insert, in_order}
use Rattle.laws.specs.Numbers.SortedLists.{Rising, mem_map_at, mem_map_of}
use Rattle.laws.specs.Walk.BranchAndBound.{OrderedFrom}
use Rattle.laws.specs.Walk.GroupSizes.{group-rising}
use Rattle.laws.specs.Walk.Fillings.{Fills, fillings_at, fillings_of}

-- a candidate goes before another: nearer, or as near with a smaller pattern
pub record Before (a b : Candidate) : Type 0 where
  pub near : a.branch ≤ b.branch
  pub tie : a.branch ≡ b.branch → a.pattern < b.pattern

-- no two candidates go before each other
pub before_asym : (a b : Candidate) → Before a b → Before b a → ⊥
before_asym a b p q = let same : a.branch ≡ b.branch = omega arith in omega (arith, p.tie same, q.tie (sym same))

-- the order is transitive
pub before_trans : (a b c : Candidate) → Before a b → Before b c → Before a c
before_trans a b c p q = record { near = omega arith; tie = λ e. omega (arith, p.tie (omega arith), q.tie (omega arith)) }

-- the test of the order, both ways
goes_cases : (a b : Candidate) (P : Bool → Type 0) → (a.branch ≤ b.branch → (a.pattern ≢ b.pattern → Before a b) → P true)
    → (Before b a → P false) → P (goes_first a b)
goes_cases a b P first later = go (ltb a.branch b.branch) (eqb a.branch b.branch) (leb a.pattern b.pattern) refl refl refl
  where
    go : (x y z : Bool) → ltb a.branch b.branch ≡ x → eqb a.branch b.branch ≡ y → leb a.pattern b.pattern ≡ z → P (x || y && z)
    go true y z h i j = first (omega (arith, ltb-true a.branch b.branch h)) (λ ne. omega (arith, ltb-true a.branch b.branch h))
    go false true true h i j = first (omega (arith, eqb-true a.branch b.branch i))
        (λ ne. record { near = omega (arith, eqb-true a.branch b.branch i); tie = λ e. omega (arith, leb-true a.pattern b.pattern j) })
    go false true false h i j = later (record { near = omega (arith, eqb-true a.branch b.branch i); tie = λ e. leb-false a.pattern b.pattern j })
    go false false z h i j = later (record { near = ltb-false a.branch b.branch h; tie = λ e. absurd (eqb-false a.branch b.branch i (sym e)) })

-- members of a list with one put in
insert_at : (c : Candidate) (cs : List Candidate) (x : Candidate) → Memᴰ x (insert c cs) → Memᴰ x (c ∷ cs)
unfolding insert
insert_at c [] x m = m
insert_at c (a ∷ cs) x m = go (goes_first c a) m (insert_at c cs x)
  where
    later : Memᴰ x (c ∷ cs) → Memᴰ x (c ∷ a ∷ cs)
    later m = ⊎_elim (λ (e : x ≡ c). Memᴰ.head e) (λ i. Memᴰ.tail (Memᴰ.tail i)) (Memᴰ.cases_cons m)

    go : (t : Bool) → Memᴰ x (cond t (c ∷ a ∷ cs) (a ∷ insert c cs)) → (Memᴰ x (insert c cs) → Memᴰ x (c ∷ cs)) → Memᴰ x (c ∷ a ∷ cs)
    go true m below = m
    go false m below = ⊎_elim (λ (e : x ≡ a). Memᴰ.tail (Memᴰ.head e)) (λ i. later (below i)) (Memᴰ.cases_cons m)

insert_of : (c : Candidate) (cs : List Candidate) (x : Candidate) → Memᴰ x (c ∷ cs) → Memᴰ x (insert c cs)
unfolding insert
insert_of c [] x m = m
insert_of c (a ∷ cs) x m = go (goes_first c a) (insert_of c cs x) (Memᴰ.cases_cons m)
  where
    go : (t : Bool) → (Memᴰ x (c ∷ cs) → Memᴰ x (insert c cs)) → (x ≡ c) ⊎ Memᴰ x (a ∷ cs) → Memᴰ x (cond t (c ∷ a ∷ cs) (a ∷ insert c cs))
    go true below (inl e) = Memᴰ.head e
    go true below (inr i) = Memᴰ.tail i
    go false below (inl e) = Memᴰ.tail (below (Memᴰ.head e))
    go false below (inr i) = ⊎_elim (λ (e : x ≡ a). Memᴰ.head e) (λ j. Memᴰ.tail (below (Memᴰ.tail j))) (Memᴰ.cases_cons i)

-- sorting makes no member
pub in_order_at : (cs : List Candidate) (x : Candidate) → Memᴰ x (in_order cs) → Memᴰ x cs
unfolding in_order
in_order_at [] x m = m
in_order_at (c ∷ cs) x m = ⊎_elim (λ (e : x ≡ c). Memᴰ.head e) (λ i. Memᴰ.tail (in_order_at cs x i)) (Memᴰ.cases_cons (insert_at c (in_order cs) x m))

-- and loses none
pub in_order_of : (cs : List Candidate) (x : Candidate) → Memᴰ x cs → Memᴰ x (in_order cs)
unfolding in_order
in_order_of [] x m = m
in_order_of (c ∷ cs) x m = insert_of c (in_order cs) x
    (⊎_elim (λ (e : x ≡ c). Memᴰ.head e) (λ i. Memᴰ.tail (in_order_of cs x i)) (Memᴰ.cases_cons m))

insert_ordered : (b : ℕ) (c : Candidate) (cs : List Candidate) → b ≤ c.branch → OrderedFrom b cs → OrderedFrom b (insert c cs)
unfolding insert OrderedFrom
insert_ordered b c [] l o = (l, tt)
insert_ordered b c (a ∷ cs) l o = go (insert_ordered a.branch c cs)
  where
    go : (a.branch ≤ c.branch → OrderedFrom a.branch cs → OrderedFrom a.branch (insert c cs)) → OrderedFrom b (cond (goes_first c a) (c ∷ a ∷ cs) (a ∷ insert c cs))
    go below = goes_cases c a (λ t. OrderedFrom b (cond t (c ∷ a ∷ cs) (a ∷ insert c cs)))
        (λ h _. (l, (h, o.1))) (λ h. (o.0, below h.near o.1))

-- sorted candidates go by branch
pub in_order_ordered : (cs : List Candidate) → OrderedFrom 0 (in_order cs)
unfolding in_order OrderedFrom
in_order_ordered [] = tt
in_order_ordered (c ∷ cs) = insert_ordered 0 c (in_order cs) zero-le (in_order_ordered cs)

insert-rising : (c : Candidate) (cs : List Candidate) → ((x : Candidate) → Memᴰ x cs → c.pattern ≢ x.pattern) → Rising Before cs → Rising Before (insert c cs)
unfolding insert Rising
insert-rising c [] ne r = (λ x m. absurd (Memᴰ.not-nil m), tt)
insert-rising c (a ∷ cs) ne r = goes_cases c a (λ t. Rising Before (cond t (c ∷ a ∷ cs) (a ∷ insert c cs)))
    (λ _ h. let first : Before c a = h (ne a (Memᴰ.head refl)) in
    (λ x m. ⊎_elim (λ (e : x ≡ a). rw e first) (λ i. before_trans c a x first (r.0 x i)) (Memᴰ.cases_cons m), r))
    (λ h. (
      λ x m. ⊎_elim (λ (e : x ≡ c). rw e h) (λ i. r.0 x i) (Memᴰ.cases_cons (insert_at c cs x m)),
      insert-rising c cs (λ x m. ne x (Memᴰ.tail m)) r.1,
    ))

-- sorted candidates with different patterns rise
pub in_order-rising : (cs : List Candidate) → Rising (λ (a b : Candidate). a.pattern ≢ b.pattern) cs → Rising Before (in_order cs)
unfolding in_order Rising
in_order-rising [] r = tt
in_order-rising (c ∷ cs) r = insert-rising c (in_order cs) (λ x m. r.0 x (in_order_at cs x m)) (in_order-rising cs r.1)

module _ (n mask : ℕ) (cost : ℕ → ℕ → ℕ) (folding k d : ℕ) where
  -- the candidates of a node go by branch
  pub candidates_ordered : OrderedFrom 0 (candidates n mask cost folding k d)
  unfolding candidates
  candidates_ordered = in_order_ordered _

  -- a candidate comes from a filling of the group
  pub candidates_at : (c : Candidate) → Memᴰ c (candidates n mask cost folding k d)
      → (f : ℕ) × Fills mask (group n folding k) f × (c ≡ candidate n cost d (group n folding k) f)
  unfolding candidates
  candidates_at c m =
      let r = mem_map_at (candidate n cost d (group n folding k)) (fillings mask (group n folding k)) c (in_order_at _ c m) in
      (r.0, fillings_at mask (group n folding k) (group-rising n folding k) r.0 r.1, r.2)

  -- a filling of the group gives a candidate
  pub candidates_of_lem : (f : ℕ) → Fills mask (group n folding k) f
      → Memᴰ (candidate n cost d (group n folding k) f) (candidates n mask cost folding k d)
  unfolding candidates
  candidates_of_lem f h = in_order_of _ _ (mem_map_of (candidate n cost d (group n folding k)) _ f (fillings_of mask (group n folding k) f h))
