-- Lists with an element for each number below m, as the ideal levels: their length, their elements, and how stores in turn make one.
use Prim.Native.Nat.{ℕ, zero, suc, ◌+◌, ◌<◌}
use Rattle.std.specs.Prelude.{◌≡◌, true, length, set}
use Rattle.std.proofs.Math.Path.{refl}
use Rattle.std.proofs.Common.{sym, ◌∙◌, not-suc-le-zero, add-one, arith, get_or-set_same, get_or-set_other, ext_get_or, below_more}
use mathlib.Core.List.{List, [], ◌∷◌, ◌++◌, map, map-append}
use Rattle.std.proofs.Math.Decide.{ℕ_discrete}
use Rattle.std.proofs.Math.ListN.{get_or, length-append, get_or-append}
use Rattle.std.proofs.lemmas.List.{get_or_at}
use Rattle.rules.specs.Below.{list_below}

module _ {A : Type 0} (f : ℕ → A) where
  -- it has m elements
  pub each-length : (m : ℕ) → length (map f (list_below m (λ i. true))) ≡ m
  unfolding list_below
  each-length zero = refl
  each-length (suc m) = rw (map-append f (list_below m (λ i. true)) (m ∷ []), length-append, each-length m) (add-one m)

  -- element i is f i
  pub each_at : (d : A) (m i : ℕ) → i < m → get_or (map f (list_below m (λ i. true))) i d ≡ f i
  unfolding list_below
  each_at d zero i l = absurd (not-suc-le-zero l)
  each_at d (suc m) i l = rw (map-append f (list_below m (λ i. true)) (m ∷ [])) (go (ℕ_discrete i m) (each_at d m i))
    where
      go : Dec (i ≡ m) → (i < m → get_or (map f (list_below m (λ i. true))) i d ≡ f i) → get_or (map f (list_below m (λ i. true)) ++ (f m ∷ [])) i d ≡ f i
      go (yes e) below = rw e (get_or_at (map f (list_below m (λ i. true))) (f m) [] d m (each-length m))
      go (no n) below = get_or-append (map f (list_below m (λ i. true))) (f m ∷ []) d i (omega (arith, each-length m)) ∙ below (omega arith)

  -- an element stored at i: what held below i holds below i + 1
  pub each_stored : (d : A) (l : List A) (i : ℕ) (v : A) → i < length l → v ≡ f i → ((j : ℕ) → j < i → get_or l j d ≡ f j)
      → (j : ℕ) → j < i + 1 → get_or (set l i v) j d ≡ f j
  each_stored d l i v inside is below =
      below_more _ i
      (λ j before. get_or-set_other l i j v d (λ (e : j ≡ i). omega arith) ∙ below j before)
      (get_or-set_same l i v d inside ∙ is)

  -- a list whose every element is f's is the list of them
  pub each_all : (d : A) (l : List A) (m : ℕ) → length l ≡ m → ((j : ℕ) → j < m → get_or l j d ≡ f j) → l ≡ map f (list_below m (λ i. true))
  each_all d l m full every =
      ext_get_or d l _ (full ∙ sym (each-length m)) (λ i inside. every i (omega arith) ∙ sym (each_at d m i (omega arith)))
