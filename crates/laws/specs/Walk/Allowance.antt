-- The allowance, over any keeping and any tree: a walk that stops where the next visit would pass the
-- allowance finishes exactly when the whole walk's total is at most the allowance, with the same state.
use Rattle.std.specs.Prelude.{ℕ, zero, suc, ◌+◌, ◌≤◌, ◌<◌, ◌≡◌, Bool, true, false, cond, leb}
use Rattle.std.proofs.Math.Path.{refl, fun_ext}
use Rattle.std.proofs.Common.{sym, ap₂, ◌∙◌, le_refl, arith, leb-true, leb-false, le-leb}
use Rattle.std.proofs.Math.Option.{Option, none, some}
use mathlib.Core.List.{List, [], ◌∷◌}
use Rattle.std.proofs.Math.Decide.{dec_lt}
use Rattle.std.proofs.lemmas.Bool.{lt-leb}
use Rattle.rules.specs.Below.{choose}
use Rattle.rules.specs.Walk.{Candidate, Keeping, State, count, visit, walk}
use Rattle.laws.specs.Walk.BranchAndBound.{visit_cases, visit_grows, walk_grows}

-- a state whose visits are at most the allowance; else none: the allowance is used up
unfoldable pub within : {K : Keeping} → ℕ → State K → Option (State K)
within a s = cond (leb s.visits a) (some s) none

-- the candidates of a node in order; `down` and the state may have used up the allowance
unfoldable pub visit_in : (K : Keeping) → ℕ → (ℕ → ℕ → Option (State K) → Option (State K)) → ℕ → ℕ → List Candidate
    → Option (State K) → Option (State K)
visit_in K a down p d [] o = o
visit_in K a down p d (c ∷ cs) none = none
visit_in K a down p d (c ∷ cs) (some s) =
    choose (leb a s.visits)
    (λ _. none)
    (λ _. choose (K.leaves s.kept (p + c.branch))
    (λ _. some (count s))
    (λ _. visit_in K a down p d cs (down (p + c.branch) (d + c.filling) (some (count s)))))

-- the walk that stops where the next visit would pass the allowance
unfoldable pub walk_in : (K : Keeping) → ℕ → (ℕ → ℕ → List Candidate) → ℕ → ℕ → ℕ → Option (State K) → Option (State K)
walk_in K a candidates_of zero p d none = none
walk_in K a candidates_of zero p d (some s) = some (record { kept = K.keeps p d s.kept; visits = s.visits })
walk_in K a candidates_of (suc k) p d o = visit_in K a (walk_in K a candidates_of k) p d (candidates_of k d) o

-- within the allowance: the state
pub within_some : {K : Keeping} (a : ℕ) (s : State K) → s.visits ≤ a → within a s ≡ some s
unfolding within
within_some a s h = rw (le-leb s.visits a h)

-- past the allowance: none
pub within_none : {K : Keeping} (a : ℕ) (s : State K) → a < s.visits → within a s ≡ none
unfolding within
within_none a s h = rw (lt-leb s.visits a h)

module _ (K : Keeping) (a : ℕ) (down : ℕ → ℕ → Option (State K) → Option (State K)) (p d : ℕ) where
  -- one step: no candidate left
  pub visit_end : (o : Option (State K)) → visit_in K a down p d [] o ≡ o
  unfolding visit_in
  visit_end o = refl

  -- one step: the allowance was used up below
  pub visit_stopped : (cs : List Candidate) → visit_in K a down p d cs none ≡ none
  unfolding visit_in
  visit_stopped [] = refl
  visit_stopped (c ∷ cs) = refl

  -- one step: the next visit would pass the allowance
  pub visit_out : (c : Candidate) (cs : List Candidate) (s : State K) → a ≤ s.visits → visit_in K a down p d (c ∷ cs) (some s) ≡ none
  unfolding visit_in
  visit_out c cs s h = rw (le-leb a s.visits h)

  -- one step: the visit is counted, and the node is left
  pub visit_cut : (c : Candidate) (cs : List Candidate) (s : State K) → s.visits < a → K.leaves s.kept (p + c.branch) ≡ true
      → visit_in K a down p d (c ∷ cs) (some s) ≡ some (count s)
  unfolding visit_in
  visit_cut c cs s h t = rw (lt-leb a s.visits h, t)

  -- one step: the visit is counted, the walk goes down and comes back
  pub visit_down : (c : Candidate) (cs : List Candidate) (s : State K) → s.visits < a → K.leaves s.kept (p + c.branch) ≡ false
      → visit_in K a down p d (c ∷ cs) (some s) ≡ visit_in K a down p d cs (down (p + c.branch) (d + c.filling) (some (count s)))
  unfolding visit_in
  visit_down c cs s h t = rw (lt-leb a s.visits h, t)

module _ (K : Keeping) (a : ℕ) (candidates_of : ℕ → ℕ → List Candidate) where
  -- one step: the last level keeps the word
  pub walk_last : (p d : ℕ) (s : State K)
      → walk_in K a candidates_of zero p d (some s) ≡ some (record { kept = K.keeps p d s.kept; visits = s.visits })
  unfolding walk_in
  walk_last p d s = refl

  -- one step: a node visits its candidates
  pub walk-node : (k p d : ℕ) (o : Option (State K))
      → walk_in K a candidates_of (suc k) p d o ≡ visit_in K a (walk_in K a candidates_of k) p d (candidates_of k d) o
  unfolding walk_in
  walk-node k p d o = refl

module _ (K : Keeping) (a : ℕ) (down : ℕ → ℕ → State K → State K) (down_in : ℕ → ℕ → Option (State K) → Option (State K))
    (grows : (p d : ℕ) (s : State K) → s.visits ≤ (down p d s).visits)
    (same : (p d : ℕ) (s : State K) → down_in p d (within a s) ≡ within a (down p d s)) where
  -- a candidate is at least one visit
  visit_more : (p d : ℕ) (c : Candidate) (cs : List Candidate) (s : State K) → s.visits < (visit K down p d (c ∷ cs) s).visits
  visit_more p d c cs s = visit_cases K down p d c cs s (λ (t : State K). s.visits < t.visits) (λ _. le_refl _)
      (λ _. omega (arith, grows (p + c.branch) (d + c.filling) (count s), visit_grows K down grows p d cs (down (p + c.branch) (d + c.filling) (count s))))

  -- a node's candidates within the allowance, from the levels below
  visit-within : (p d : ℕ) (cs : List Candidate) (s : State K) → visit_in K a down_in p d cs (within a s) ≡ within a (visit K down p d cs s)
  unfolding visit
  visit-within p d [] s = visit_end K a down_in p d (within a s)
  visit-within p d (c ∷ cs) s = go (leb a s.visits) refl
      (visit-within p d cs (down (p + c.branch) (d + c.filling) (count s)))
    where
      out : a ≤ s.visits → visit_in K a down_in p d (c ∷ cs) (within a s) ≡ none
      out h = past (dec_lt a s.visits)
        where
          past : Dec (a < s.visits) → visit_in K a down_in p d (c ∷ cs) (within a s) ≡ none
          past (yes i) = rw (within_none a s i) (visit_stopped K a down_in p d (c ∷ cs))
          past (no i) = rw (within_some a s (omega arith)) (visit_out K a down_in p d c cs s h)

      go : (t : Bool) → leb a s.visits ≡ t
          → visit_in K a down_in p d cs (within a (down (p + c.branch) (d + c.filling) (count s)))
          ≡ within a (visit K down p d cs (down (p + c.branch) (d + c.filling) (count s)))
          → visit_in K a down_in p d (c ∷ cs) (within a s) ≡ within a (visit K down p d (c ∷ cs) s)
      go true t ih = out (leb-true a _ t)
          ∙ sym (within_none a (visit K down p d (c ∷ cs) s) (omega (arith, leb-true a _ t, visit_more p d c cs s)))
      go false t ih = rw (within_some a s (omega (arith, leb-false a _ t)))
          (visit_cases K down p d c cs s (λ (u : State K). visit_in K a down_in p d (c ∷ cs) (some s) ≡ within a u)
          (λ l. visit_cut K a down_in p d c cs s (leb-false a _ t) l ∙ sym (within_some a (count s) (leb-false a _ t)))
          (λ l. visit_down K a down_in p d c cs s (leb-false a _ t) l
          ∙ rw (← within_some a (count s) (leb-false a _ t), same (p + c.branch) (d + c.filling) (count s)) ih))

-- the walk within an allowance is the walk, if its state is within the allowance
pub walk-within : (K : Keeping) (a : ℕ) (candidates_of : ℕ → ℕ → List Candidate) (k p d : ℕ) (s : State K)
    → walk_in K a candidates_of k p d (within a s) ≡ within a (walk K candidates_of k p d s)
unfolding walk walk_in within
walk-within K a candidates_of zero p d s = go (leb s.visits a)
  where
    go : (t : Bool) → walk_in K a candidates_of zero p d (cond t (some s) none)
        ≡ cond t (some (record { kept = K.keeps p d s.kept; visits = s.visits })) none
    go true = refl
    go false = refl
walk-within K a candidates_of (suc k) p d s =
    visit-within K a (walk K candidates_of k) (walk_in K a candidates_of k) (walk_grows K candidates_of k) (walk-within K a candidates_of k)
    p d (candidates_of k d) s

-- the same from a state within the allowance
pub walk_allowed : (K : Keeping) (a : ℕ) (candidates_of : ℕ → ℕ → List Candidate) (k p d : ℕ) (s : State K) → s.visits ≤ a
    → walk_in K a candidates_of k p d (some s) ≡ within a (walk K candidates_of k p d s)
walk_allowed K a candidates_of k p d s h = rw (← within_some a s h) (walk-within K a candidates_of k p d s)

-- two walks agree where their candidates do at each group below
pub walk_cong : (K : Keeping) (a : ℕ) (f g : ℕ → ℕ → List Candidate) (m : ℕ) → ((k d : ℕ) → k < m → f k d ≡ g k d)
    → (p d : ℕ) (o : Option (State K)) → walk_in K a f m p d o ≡ walk_in K a g m p d o
unfolding walk_in
walk_cong K a f g zero h p d none = refl
walk_cong K a f g zero h p d (some s) = refl
walk_cong K a f g (suc k) h p d o =
    ap₂ (λ (down : ℕ → ℕ → Option (State K) → Option (State K)) (cs : List Candidate). visit_in K a down p d cs o)
    (fun_ext (λ q. fun_ext (λ e. fun_ext (λ u. walk_cong K a f g k (λ i x l. h i x (omega arith)) q e u))))
    (h k d (le_refl (suc k)))
