-- The least word: there is one, and it is the word that listing every word finds.
use Prim.Native.Nat.{ℕ, zero, suc, ◌^◌, ◌<◌}
use Rattle.std.specs.Prelude.{◌≡◌, Bool, cond}
use Rattle.std.proofs.Math.Path.{refl}
use Rattle.std.proofs.Common.{sym, ◌∙◌, true≢false, not-suc-le-zero, arith}
use Rattle.std.proofs.Math.Bool.{true, false}
use Rattle.std.proofs.Math.Decide.{ℕ_discrete}
use Rattle.rules.specs.Word.{permitted}
use Rattle.rules.specs.Level.{Best, nothing, best, keep, best_below, word_distance, word_kept, least_word, Least}
use Rattle.laws.specs.Code.Permitted.{permitted-lt, permitted-zero}
use Rattle.laws.specs.Walk.BranchAndBound.{NotAfter, AtMost, first_cases, best-settles}

module _ (n mask : ℕ) (cost : ℕ → ℕ → ℕ) where
  -- a permitted word that comes after no permitted word is least
  pub least_of : (d : ℕ) → permitted n mask d ≡ true
      → ((e : ℕ) → permitted n mask e ≡ true → NotAfter (word_distance n cost d) d (word_distance n cost e) e) → Least n mask cost d
  least_of d p h = record { allowed = p; nearest = λ e t. (h e t).near; smallest = λ e t. (h e t).tie }

  -- two least words are one
  pub least_unique : (d e : ℕ) → Least n mask cost d → Least n mask cost e → d ≡ e
  least_unique d e p q =
      let same : word_distance n cost d ≡ word_distance n cost e = omega (arith, p.nearest e q.allowed, q.nearest d p.allowed) in
      omega (arith, p.smallest e q.allowed same, q.smallest d p.allowed (sym same))

  -- what is best is a permitted word with its distance
  Found : Best → Type 0
  Found nothing = Unit {0}
  Found (best p d) = (permitted n mask d ≡ true) × (p ≡ word_distance n cost d)

  below_found : (m : ℕ) → Found (best_below n mask cost m)
  unfolding best_below Found
  below_found zero = tt
  below_found (suc m) = go (permitted n mask m) refl (best_below n mask cost m) (below_found m)
    where
      go : (t : Bool) → permitted n mask m ≡ t → (b : Best) → Found b → Found (cond t (keep (word_distance n cost m) m b) b)
      go true t nothing h = (t, refl)
      go true t (best p d) h = first_cases (word_distance n cost m) m p d (λ u. Found (cond u (best (word_distance n cost m) m) (best p d)))
          (λ _. (t, refl)) (λ _. h)
      go false t b h = h

  below_most : (m e : ℕ) → e < m → permitted n mask e ≡ true → AtMost (best_below n mask cost m) (word_distance n cost e) e
  unfolding best_below
  below_most zero e l t = absurd (not-suc-le-zero l)
  below_most (suc m) e l t = go (permitted n mask m) refl (ℕ_discrete e m) (below_most m e)
    where
      go : (u : Bool) → permitted n mask m ≡ u → Dec (e ≡ m)
          → (e < m → permitted n mask e ≡ true → AtMost (best_below n mask cost m) (word_distance n cost e) e)
          → AtMost (cond u (keep (word_distance n cost m) m (best_below n mask cost m)) (best_below n mask cost m)) (word_distance n cost e) e
      go true u (yes y) below = rw y (best-settles.takes (word_distance n cost m) m (best_below n mask cost m))
      go true u (no y) below = best-settles.stays _ _ _ _ _ (below (omega arith) t)
      go false u (yes y) below = absurd (true≢false (sym t ∙ rw y u))
      go false u (no y) below = below (omega arith) t

  -- listing every word finds a least word
  pub least_word_least : Least n mask cost (least_word n mask cost)
  unfolding least_word AtMost Found
  least_word_least = go (best_below n mask cost (2 ^ (2 ^ n))) (below_found (2 ^ (2 ^ n)))
      (λ e t. below_most (2 ^ (2 ^ n)) e (permitted-lt n mask e t) t)
    where
      go : (b : Best) → Found b → ((e : ℕ) → permitted n mask e ≡ true → AtMost b (word_distance n cost e) e) → Least n mask cost (word_kept b)
      go nothing f h = absurd (h 0 (permitted-zero n mask))
      go (best p d) f h = least_of d f.0 (λ e t. rw f.1 at (h e t))

  -- a least word is the one that listing finds
  pub least_word_lem : (d : ℕ) → Least n mask cost d → d ≡ least_word n mask cost
  least_word_lem d h = least_unique d (least_word n mask cost) h least_word_least
