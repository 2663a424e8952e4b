-- How many fillings and candidates a group has: two to the number of its unfrozen indices, so one where every index is frozen,
-- else more.
use Rattle.std.specs.Prelude.{ℕ, suc, ◌+◌, ◌^◌, ◌≤◌, ◌≡◌, refl, Bool, true, false, ◌||◌, cond, List, [], ◌∷◌, ◌++◌, map, ltb, length}
use Rattle.std.proofs.Common.{sym, ◌∙◌, ap, arith, length-append, pow_mono, ltb-true, ltb-false, lt-ltb}
use Rattle.std.proofs.Math.Nat.{two-pow-succ}
use Rattle.std.proofs.lemmas.List.{length-map}
use Rattle.rules.specs.Word.{unfrozen}
use Rattle.rules.specs.Folding.{group}
use Rattle.rules.specs.Walk.{Candidate, fillings, insert, in_order, goes_first, candidates}

-- whether a list of indices has an unfrozen one
unfoldable pub has_unfrozen : ℕ → List ℕ → Bool
has_unfrozen mask [] = false
has_unfrozen mask (i ∷ is) = unfrozen mask i || has_unfrozen mask is

-- an unfrozen index more: twice as many
twice : (mask i : ℕ) (is : List ℕ) → length (fillings mask is ++ map (λ f. f + 2 ^ i) (fillings mask is)) ≡ length (fillings mask is) + length (fillings mask is)
twice mask i is = length-append (fillings mask is) _ ∙ ap (λ (x : ℕ). length (fillings mask is) + x) (length-map (fillings mask is) _)

-- how many indices of a list are unfrozen
unfoldable pub unfrozen_in : ℕ → List ℕ → ℕ
unfrozen_in mask [] = 0
unfrozen_in mask (i ∷ is) = cond (unfrozen mask i) 1 0 + unfrozen_in mask is

-- each unfrozen index doubles the fillings
pub fillings_number : (mask : ℕ) (is : List ℕ) → length (fillings mask is) ≡ 2 ^ unfrozen_in mask is
unfolding fillings unfrozen_in
fillings_number mask [] = refl
fillings_number mask (i ∷ is) = go (unfrozen mask i) (fillings_number mask is)
  where
    go : (u : Bool) → length (fillings mask is) ≡ 2 ^ unfrozen_in mask is
        → length (cond u (fillings mask is ++ map (λ f. f + 2 ^ i) (fillings mask is)) (fillings mask is)) ≡ 2 ^ (cond u 1 0 + unfrozen_in mask is)
    go true below =
        let e : 1 + unfrozen_in mask is ≡ suc (unfrozen_in mask is) = omega arith in
        rw e (omega (arith, twice mask i is, two-pow-succ (unfrozen_in mask is)))
    go false below = let e : 0 + unfrozen_in mask is ≡ unfrozen_in mask is = omega arith in rw e below

-- a list has an unfrozen index where their number is not 0
any_unfrozen : (mask : ℕ) (is : List ℕ) → has_unfrozen mask is ≡ ltb 0 (unfrozen_in mask is)
unfolding has_unfrozen unfrozen_in
any_unfrozen mask [] = refl
any_unfrozen mask (i ∷ is) = go (unfrozen mask i) (any_unfrozen mask is)
  where
    go : (u : Bool) → has_unfrozen mask is ≡ ltb 0 (unfrozen_in mask is) → (u || has_unfrozen mask is) ≡ ltb 0 (cond u 1 0 + unfrozen_in mask is)
    go true below = sym (lt-ltb 0 (1 + unfrozen_in mask is) (omega arith))
    go false below = let e : 0 + unfrozen_in mask is ≡ unfrozen_in mask is = omega arith in rw e below

-- one filling where every index is frozen
pub one_filling : (mask : ℕ) (is : List ℕ) → has_unfrozen mask is ≡ false → length (fillings mask is) ≡ 1
one_filling mask is t =
    let none : unfrozen_in mask is ≡ 0 = omega (arith, ltb-false 0 (unfrozen_in mask is) (sym (any_unfrozen mask is) ∙ t)) in
    fillings_number mask is ∙ ap (λ (k : ℕ). 2 ^ k) none

-- and more than one where an index is unfrozen
pub more_fillings : (mask : ℕ) (is : List ℕ) → has_unfrozen mask is ≡ true → 2 ≤ length (fillings mask is)
more_fillings mask is t =
    rw (fillings_number mask is) (pow_mono {i = 1} {j = unfrozen_in mask is} (ltb-true 0 (unfrozen_in mask is) (sym (any_unfrozen mask is) ∙ t)))

insert-length : (c : Candidate) (cs : List Candidate) → length (insert c cs) ≡ suc (length cs)
unfolding insert
insert-length c [] = refl
insert-length c (a ∷ cs) = go (goes_first c a) (insert-length c cs)
  where
    go : (t : Bool) → length (insert c cs) ≡ suc (length cs) → length (cond t (c ∷ a ∷ cs) (a ∷ insert c cs)) ≡ suc (suc (length cs))
    go true below = refl
    go false below = ap suc below

in_order-length : (cs : List Candidate) → length (in_order cs) ≡ length cs
unfolding in_order
in_order-length [] = refl
in_order-length (c ∷ cs) = insert-length c (in_order cs) ∙ ap suc (in_order-length cs)

-- a candidate for each filling
pub candidates-length : (n mask : ℕ) (cost : ℕ → ℕ → ℕ) (folding k d : ℕ)
    → length (candidates n mask cost folding k d) ≡ length (fillings mask (group n folding k))
unfolding candidates
candidates-length n mask cost folding k d = in_order-length _ ∙ length-map (fillings mask (group n folding k)) _
