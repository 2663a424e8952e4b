-- Branch and bound, over any tree of candidates in order of branch and any starting state: the walk misses no
-- leaf, keeps only leaves, and its visits only grow. First over any keeping, then for the keeping of document 01.
use Prim.Native.Nat.{ℕ, zero, suc, ◌+◌, ◌≤◌}
use Rattle.std.specs.Prelude.{◌≡◌, Bool, false, ◌&&◌, ◌||◌, cond, ◌⊎◌, ltb, eqb}
use Rattle.std.proofs.Math.Path.{refl}
use Rattle.std.proofs.Common.{sym, true≢false, inl, inr, ⊎_elim, arith, ltb-true, ltb-false, eqb-true}
use Rattle.std.proofs.Math.Bool.{true}
use mathlib.Core.List.Memᴰ
use mathlib.Core.List.{List, [], ◌∷◌, Memᴰ}
use Rattle.std.proofs.Math.Nat.{le_refl}
use Rattle.std.proofs.lemmas.Bool.{eqb-false}
use Rattle.rules.specs.Below.{choose}
use Rattle.rules.specs.Level.{Best, nothing, best, keep}
use Rattle.rules.specs.Walk.{Candidate, Keeping, State, count, visit, walk, is_farther, keep_best}

-- candidates in order of branch, the first not below b
unfoldable pub OrderedFrom : ℕ → List Candidate → Type 0
OrderedFrom b [] = Unit {0}
OrderedFrom b (c ∷ cs) = (b ≤ c.branch) × OrderedFrom c.branch cs

-- a candidate of the list, and what L says one level down
unfoldable pub Under : (ℕ → ℕ → ℕ → ℕ → Type 0) → ℕ → ℕ → List Candidate → ℕ → ℕ → Type 0
Under L p d cs q e = (c : Candidate) × Memᴰ c cs × L (p + c.branch) (d + c.filling) q e

-- with k levels left, at partial distance p and word d: the word e at distance q is a leaf below
unfoldable pub Leaf : (ℕ → ℕ → List Candidate) → ℕ → ℕ → ℕ → ℕ → ℕ → Type 0
Leaf candidates_of zero p d q e = (q ≡ p) × (e ≡ d)
Leaf candidates_of (suc k) p d q e = Under (Leaf candidates_of k) p d (candidates_of k d) q e

-- the two ways on at a candidate
pub visit_cases : (K : Keeping) (down : ℕ → ℕ → State K → State K) (p d : ℕ) (c : Candidate) (cs : List Candidate) (s : State K) (P : State K → Type 0)
    → (K.leaves s.kept (p + c.branch) ≡ true → P (count s))
    → (K.leaves s.kept (p + c.branch) ≡ false → P (visit K down p d cs (down (p + c.branch) (d + c.filling) (count s))))
    → P (visit K down p d (c ∷ cs) s)
unfolding visit
visit_cases K down p d c cs s P cut on = go (K.leaves s.kept (p + c.branch)) cut on
  where
    go : (t : Bool) → (t ≡ true → P (count s)) → (t ≡ false → P (visit K down p d cs (down (p + c.branch) (d + c.filling) (count s))))
        → P (choose t (λ _. count s) (λ _. visit K down p d cs (down (p + c.branch) (d + c.filling) (count s))))
    go true a b = a refl
    go false a b = b refl

-- no candidate of an ordered list is below its bound
pub ordered_least : (b : ℕ) (cs : List Candidate) → OrderedFrom b cs → (c : Candidate) → Memᴰ c cs → b ≤ c.branch
unfolding OrderedFrom
ordered_least b [] o c m = absurd (Memᴰ.not-nil m)
ordered_least b (a ∷ cs) o c m = ⊎_elim (λ (e : c ≡ a). rw e o.0) (λ m'. omega (arith, ordered_least a.branch cs o.1 c m')) (Memᴰ.cases_cons m)

-- a leaf is not nearer than the node above it
pub leaf-near : (candidates_of : ℕ → ℕ → List Candidate) (k p d q e : ℕ) → Leaf candidates_of k p d q e → p ≤ q
unfolding Leaf Under
leaf-near candidates_of zero p d q e l = omega arith
leaf-near candidates_of (suc k) p d q e l = omega (arith, leaf-near candidates_of k _ _ q e l.2)

-- What a keeping has to do for the walk to miss nothing: `Settled kept q e` says that what is kept speaks for word e at
-- distance q. A word that was kept is settled, keeping another unsettles nothing, and where the walk leaves, every word
-- as far as that or farther is settled.
pub record Settles (K : Keeping) (Settled : K.Kept → ℕ → ℕ → Type 0) : Type 0 where
  pub takes : (p d : ℕ) (kept : K.Kept) → Settled (K.keeps p d kept) p d
  pub stays : (p d : ℕ) (kept : K.Kept) (q e : ℕ) → Settled kept q e → Settled (K.keeps p d kept) q e
  pub cuts : (p : ℕ) (kept : K.Kept) → K.leaves kept p ≡ true → (q e : ℕ) → p ≤ q → Settled kept q e

-- what was settled before is settled after, and so is every leaf of L
pub record Good {A : Type 0} (Settled : A → ℕ → ℕ → Type 0) (L : ℕ → ℕ → Type 0) (before after : A) : Type 0 where
  pub stays : (q e : ℕ) → Settled before q e → Settled after q e
  pub below : (q e : ℕ) → L q e → Settled after q e

-- one candidate's leaves, then those of the others
good_cons : {A : Type 0} (Settled : A → ℕ → ℕ → Type 0) (L : ℕ → ℕ → ℕ → ℕ → Type 0) (p d : ℕ) (c : Candidate) (cs : List Candidate) (s t u : A)
    → Good Settled (L (p + c.branch) (d + c.filling)) s t → Good Settled (Under L p d cs) t u → Good Settled (Under L p d (c ∷ cs)) s u
unfolding Under
good_cons Settled L p d c cs s t u first rest =
    record { stays = λ q e h. rest.stays q e (first.stays q e h); below = λ q e l. pick q e l (Memᴰ.cases_cons l.1) }
  where
    pick : (q e : ℕ) (l : Under L p d (c ∷ cs) q e) → (l.0 ≡ c) ⊎ Memᴰ l.0 cs → Settled u q e
    pick q e l (inl h) = rest.stays q e (first.below q e (rw h at l.2))
    pick q e l (inr m) = rest.below q e (l.0, m, l.2)

module _ (K : Keeping) (Settled : K.Kept → ℕ → ℕ → Type 0) (settles : Settles K Settled) where
  -- a node's candidates, from the levels below
  visit-good : (L : ℕ → ℕ → ℕ → ℕ → Type 0) → ((p d q e : ℕ) → L p d q e → p ≤ q) → (down : ℕ → ℕ → State K → State K)
      → ((p d : ℕ) (s : State K) → Good Settled (L p d) s.kept (down p d s).kept)
      → (p d b : ℕ) (cs : List Candidate) → OrderedFrom b cs → (s : State K)
      → Good Settled (Under L p d cs) s.kept (visit K down p d cs s).kept
  unfolding OrderedFrom Under visit
  visit-good L near down good p d b [] o s =
      record { stays = λ q e h. h; below = λ q e l. absurd (Memᴰ.not-nil l.1) }
  visit-good L near down good p d b (c ∷ cs) o s =
      visit_cases K down p d c cs s (λ (t : State K). Good Settled (Under L p d (c ∷ cs)) s.kept t.kept) cut
      (λ _. good_cons Settled L p d c cs _ _ _ (good _ _ (count s)) (visit-good L near down good p d c.branch cs o.1 _))
    where
      cut : K.leaves s.kept (p + c.branch) ≡ true → Good Settled (Under L p d (c ∷ cs)) s.kept s.kept
      cut t = record {
        stays = λ q e h. h;
        below = λ q e l. settles.cuts (p + c.branch) s.kept t q e (omega (arith, near _ _ q e l.2, ordered_least c.branch (c ∷ cs) (le_refl _, o.1) l.0 l.1));
      }

  -- the walk below a node misses no leaf and unsettles nothing
  pub walk-good : (candidates_of : ℕ → ℕ → List Candidate) → ((k d : ℕ) → OrderedFrom 0 (candidates_of k d))
      → (k p d : ℕ) (s : State K) → Good Settled (Leaf candidates_of k p d) s.kept (walk K candidates_of k p d s).kept
  unfolding Leaf walk
  walk-good candidates_of ordered zero p d s = record {
    stays = settles.stays p d s.kept;
    below = λ q e l. rw (l.0, l.1) (settles.takes p d s.kept);
  }
  walk-good candidates_of ordered (suc k) p d s =
      visit-good (Leaf candidates_of k) (leaf-near candidates_of k) (walk K candidates_of k) (walk-good candidates_of ordered k) p d 0
      (candidates_of k d) (ordered k d) s

module _ (K : Keeping) where
  -- a node's candidates keep a property that each leaf below keeps
  visit_from : (P : K.Kept → Type 0) (L : ℕ → ℕ → ℕ → ℕ → Type 0) (down : ℕ → ℕ → State K → State K)
      → ((p d : ℕ) (s : State K) → ((q e : ℕ) → L p d q e → (t : K.Kept) → P t → P (K.keeps q e t)) → P s.kept → P (down p d s).kept)
      → (p d : ℕ) (cs : List Candidate) (s : State K) → ((q e : ℕ) → Under L p d cs q e → (t : K.Kept) → P t → P (K.keeps q e t))
      → P s.kept → P (visit K down p d cs s).kept
  unfolding Under visit
  visit_from P L down from p d [] s closed h = h
  visit_from P L down from p d (c ∷ cs) s closed h =
      visit_cases K down p d c cs s (λ (t : State K). P t.kept) (λ _. h)
      (λ _. visit_from P L down from p d cs (down (p + c.branch) (d + c.filling) (count s)) (λ q e l. closed q e (l.0, Memᴰ.tail l.1, l.2))
      (from _ _ (count s) (λ q e l. closed q e (c, Memᴰ.head refl, l)) h))

  -- what holds at first and is kept by keeping any leaf holds of what the walk has kept
  pub walk_from : (P : K.Kept → Type 0) (candidates_of : ℕ → ℕ → List Candidate) (k p d : ℕ) (s : State K)
      → ((q e : ℕ) → Leaf candidates_of k p d q e → (t : K.Kept) → P t → P (K.keeps q e t))
      → P s.kept → P (walk K candidates_of k p d s).kept
  unfolding Leaf walk
  walk_from P candidates_of zero p d s closed h = closed p d (refl, refl) s.kept h
  walk_from P candidates_of (suc k) p d s closed h =
      visit_from P (Leaf candidates_of k) (walk K candidates_of k) (walk_from P candidates_of k) p d (candidates_of k d) s closed h

  -- visits only grow in a node's candidates
  pub visit_grows : (down : ℕ → ℕ → State K → State K) → ((p d : ℕ) (s : State K) → s.visits ≤ (down p d s).visits)
      → (p d : ℕ) (cs : List Candidate) (s : State K) → s.visits ≤ (visit K down p d cs s).visits
  unfolding visit
  visit_grows down grows p d [] s = le_refl _
  visit_grows down grows p d (c ∷ cs) s =
      visit_cases K down p d c cs s (λ (t : State K). s.visits ≤ t.visits) (λ _. omega arith)
      (λ _. omega (arith, grows (p + c.branch) (d + c.filling) (count s), visit_grows down grows p d cs (down (p + c.branch) (d + c.filling) (count s))))

  -- visits only grow in the walk
  pub walk_grows : (candidates_of : ℕ → ℕ → List Candidate) (k p d : ℕ) (s : State K) → s.visits ≤ (walk K candidates_of k p d s).visits
  unfolding walk
  walk_grows candidates_of zero p d s = le_refl _
  walk_grows candidates_of (suc k) p d s =
      visit_grows (walk K candidates_of k) (walk_grows candidates_of k) p d (candidates_of k d) s

-- word d at distance p does not come after word e at distance q
pub record NotAfter (p d q e : ℕ) : Type 0 where
  pub near : p ≤ q
  pub tie : p ≡ q → d ≤ e

-- there is a best word, and it does not come after word e at distance q
unfoldable pub AtMost : Best → ℕ → ℕ → Type 0
AtMost nothing q e = ⊥
AtMost (best p d) q e = NotAfter p d q e

-- the order of words is transitive
pub after_trans : (p d q e r f : ℕ) → NotAfter p d q e → NotAfter q e r f → NotAfter p d r f
after_trans p d q e r f h i = record { near = omega arith; tie = λ t. omega (arith, h.tie (omega arith), i.tie (omega arith)) }

-- the test by which a word is kept, both ways
pub first_cases : (p d q e : ℕ) (P : Bool → Type 0) → (NotAfter p d q e → P true) → (NotAfter q e p d → P false) → P (ltb p q || eqb p q && ltb d e)
first_cases p d q e P new old = go (ltb p q) (eqb p q) (ltb d e) refl refl refl
  where
    go : (a b c : Bool) → ltb p q ≡ a → eqb p q ≡ b → ltb d e ≡ c → P (a || b && c)
    go true b c h i j = new (omega (arith, ltb-true p q h))
    go false true true h i j = new (omega (arith, eqb-true p q i, ltb-true d e j))
    go false true false h i j = old (omega (arith, eqb-true p q i, ltb-false d e j))
    go false false c h i j = old (record { near = omega (arith, ltb-false p q h); tie = λ t. absurd (eqb-false p q i (omega arith)) })

-- keeping the best word settles what document 01 asks
pub best-settles : Settles keep_best AtMost
unfolding AtMost
best-settles = record { takes = takes; stays = stays; cuts = cuts }
  where
    takes : (p d : ℕ) (kept : Best) → AtMost (keep p d kept) p d
    takes p d nothing = omega arith
    takes p d (best q e) = first_cases p d q e (λ t. AtMost (cond t (best p d) (best q e)) p d) (λ _. omega arith) (λ h. h)

    stays : (p d : ℕ) (kept : Best) (q e : ℕ) → AtMost kept q e → AtMost (keep p d kept) q e
    stays p d nothing q e h = absurd h
    stays p d (best a b) q e h = first_cases p d a b (λ t. AtMost (cond t (best p d) (best a b)) q e) (λ i. after_trans p d a b q e i h) (λ _. h)

    cuts : (p : ℕ) (kept : Best) → is_farther kept p ≡ true → (q e : ℕ) → p ≤ q → AtMost kept q e
    cuts p nothing t q e h = absurd (true≢false (sym t))
    cuts p (best a b) t q e h = omega (arith, ltb-true a p t)

-- the walk of document 01 from any start: what was at most so stays, and every leaf is at least the best
pub best-good : (candidates_of : ℕ → ℕ → List Candidate) → ((k d : ℕ) → OrderedFrom 0 (candidates_of k d))
    → (k p d : ℕ) (s : State keep_best) → Good AtMost (Leaf candidates_of k p d) s.kept (walk keep_best candidates_of k p d s).kept
best-good = walk-good keep_best AtMost best-settles

-- the best is the one at the start, or a leaf
pub best_from : (candidates_of : ℕ → ℕ → List Candidate) (k p d : ℕ) (s : State keep_best)
    → ((walk keep_best candidates_of k p d s).kept ≡ s.kept)
    ⊎ ((q : ℕ) × (e : ℕ) × Leaf candidates_of k p d q e × ((walk keep_best candidates_of k p d s).kept ≡ best q e))
best_from candidates_of k p d s = walk_from keep_best From candidates_of k p d s closed (inl refl)
  where
    From : Best → Type 0
    From t = (t ≡ s.kept) ⊎ ((q : ℕ) × (e : ℕ) × Leaf candidates_of k p d q e × (t ≡ best q e))

    closed : (q e : ℕ) → Leaf candidates_of k p d q e → (t : Best) → From t → From (keep q e t)
    closed q e l nothing h = inr (q, e, l, refl)
    closed q e l (best a b) h = first_cases q e a b (λ t. From (cond t (best q e) (best a b))) (λ _. inr (q, e, l, refl)) (λ _. h)
