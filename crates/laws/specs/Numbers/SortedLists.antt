-- Rising lists over any order: a list in strictly rising order is given by its members.
use Prim.Native.Nat.{ℕ, zero, suc, ◌<◌}
use Rattle.std.specs.Prelude.{◌≡◌, Bool, true, false, cond, length, get_or}
use Rattle.std.proofs.Math.Path.{refl, sym, ap₂}
use Rattle.std.proofs.Common.{◌∙◌, ap, not-suc-le-zero, le_of_suc-le-suc}
use mathlib.Core.List.Memᴰ
use mathlib.Core.List.{List, [], ◌∷◌, ◌++◌, map, Memᴰ}
use Rattle.std.proofs.Math.Logic.{⊎_elim}
use Rattle.rules.specs.Below.{list_below}
use Rattle.laws.specs.Numbers.Sums.{mem_at}

-- each element stands in the relation to every later one
unfoldable pub Rising : {A : Type 0} → (A → A → Type 0) → List A → Type 0
Rising R [] = Unit {0}
Rising {A} R (a ∷ xs) = ((b : A) → Memᴰ b xs → R a b) × Rising R xs

-- a member of a mapped list comes from a member
pub mem_map_at : {A B : Type 0} (f : A → B) (xs : List A) (b : B) → Memᴰ b (map f xs) → (a : A) × Memᴰ a xs × (b ≡ f a)
mem_map_at f [] b m = absurd (Memᴰ.not-nil m)
mem_map_at {A} {B} f (x ∷ xs) b m = ⊎_elim (λ (e : b ≡ f x). (x, Memᴰ.head refl, e))
    (λ i. let r = mem_map_at f xs b i in (r.0, Memᴰ.tail r.1, r.2)) (Memᴰ.cases_cons m)

-- a member's image is a member of the mapped list
pub mem_map_of : {A B : Type 0} (f : A → B) (xs : List A) (a : A) → Memᴰ a xs → Memᴰ (f a) (map f xs)
mem_map_of {A} {B} f xs a m = go a xs m
  where
    go : (a : A) (xs : List A) → Memᴰ a xs → Memᴰ (f a) (map f xs)
    go a xs (Memᴰ.head e) = Memᴰ.head (ap f e)
    go a xs (Memᴰ.tail {xs = ys} m) = Memᴰ.tail (go a ys m)

-- a mapped list rises where the map carries the order of its members over
pub rising-map : {A B : Type 0} (R : A → A → Type 0) (S : B → B → Type 0) (f : A → B) (xs : List A)
    → ((a b : A) → Memᴰ a xs → Memᴰ b xs → R a b → S (f a) (f b)) → Rising R xs → Rising S (map f xs)
unfolding Rising
rising-map R S f [] h r = tt
rising-map {A} {B} R S f (x ∷ xs) h r = (
  λ b m. let i = mem_map_at f xs b m in rw i.2 (h x i.0 (Memᴰ.head refl) (Memᴰ.tail i.1) (r.0 i.0 i.1)),
  rising-map R S f xs (λ a b i j. h a b (Memᴰ.tail i) (Memᴰ.tail j)) r.1,
)

-- what stands at an index of a list is a member
pub mem_get_d : {A : Type 0} (xs : List A) (i : ℕ) (d : A) → i < length xs → Memᴰ (get_or xs i d) xs
mem_get_d [] i d l = absurd (not-suc-le-zero l)
mem_get_d (x ∷ xs) zero d l = Memᴰ.head refl
mem_get_d (x ∷ xs) (suc i) d l = Memᴰ.tail (mem_get_d xs i d (le_of_suc-le-suc l))

module _ {A : Type 0} (R : A → A → Type 0) where
  -- elements of a rising list, by their indices
  pub rising_at : (xs : List A) (d : A) → Rising R xs → (i j : ℕ) → i < j → j < length xs → R (get_or xs i d) (get_or xs j d)
  unfolding Rising
  rising_at [] d r i j l h = absurd (not-suc-le-zero h)
  rising_at (x ∷ xs) d r zero zero l h = absurd (not-suc-le-zero l)
  rising_at (x ∷ xs) d r zero (suc j) l h = r.0 (get_or xs j d) (mem_get_d xs j d (le_of_suc-le-suc h))
  rising_at (x ∷ xs) d r (suc i) zero l h = absurd (not-suc-le-zero l)
  rising_at (x ∷ xs) d r (suc i) (suc j) l h = rising_at xs d r.1 i j (le_of_suc-le-suc l) (le_of_suc-le-suc h)

  -- two rising lists, each element of the first before every one of the second
  pub rising-append : (xs ys : List A) → Rising R xs → Rising R ys → ((a b : A) → Memᴰ a xs → Memᴰ b ys → R a b) → Rising R (xs ++ ys)
  unfolding Rising
  rising-append [] ys r t h = t
  rising-append (a ∷ xs) ys r t h = (
    λ b m. ⊎_elim (λ i. r.0 b i) (λ i. h a b (Memᴰ.head refl) i) (Memᴰ.append_cases xs m),
    rising-append xs ys r.1 t (λ x y i j. h x y (Memᴰ.tail i) j),
  )

  -- a rising list is given by its members
  pub rising_unique : ((a b : A) → R a b → R b a → ⊥) → (xs ys : List A) → Rising R xs → Rising R ys
      → ((x : A) → Memᴰ x xs → Memᴰ x ys) → ((x : A) → Memᴰ x ys → Memᴰ x xs) → xs ≡ ys
  unfolding Rising
  rising_unique asym [] [] r t f g = refl
  rising_unique asym [] (b ∷ ys) r t f g = absurd (Memᴰ.not-nil (g b (Memᴰ.head refl)))
  rising_unique asym (a ∷ xs) [] r t f g = absurd (Memᴰ.not-nil (f a (Memᴰ.head refl)))
  rising_unique asym (a ∷ xs) (b ∷ ys) r t f g = ap₂ ◌∷◌ same (rising_unique asym xs ys r.1 t.1 down up)
    where
      same : a ≡ b
      same = ⊎_elim (λ (e : a ≡ b). e)
          (λ m. ⊎_elim (λ (e : b ≡ a). sym e) (λ i. absurd (asym a b (r.0 b i) (t.0 a m))) (Memᴰ.cases_cons (g b (Memᴰ.head refl))))
          (Memᴰ.cases_cons (f a (Memᴰ.head refl)))

      down : (x : A) → Memᴰ x xs → Memᴰ x ys
      down x m = ⊎_elim (λ (e : x ≡ b). let i : R a a = rw (e ∙ sym same) at (r.0 x m) in absurd (asym a a i i)) (λ i. i)
          (Memᴰ.cases_cons (f x (Memᴰ.tail m)))

      up : (x : A) → Memᴰ x ys → Memᴰ x xs
      up x m = ⊎_elim (λ (e : x ≡ a). let i : R b b = rw (e ∙ same) at (t.0 x m) in absurd (asym b b i i)) (λ i. i)
          (Memᴰ.cases_cons (g x (Memᴰ.tail m)))

-- the list of the numbers below m that pass a test rises
pub list_rising : (m : ℕ) (test : ℕ → Bool) → Rising ◌<◌ (list_below m test)
unfolding Rising list_below
list_rising zero test = tt
list_rising (suc m) test = rising-append ◌<◌ (list_below m test) (cond (test m) (m ∷ []) []) (list_rising m test) (last (test m)) (before (test m))
  where
    last : (t : Bool) → Rising ◌<◌ (cond t (m ∷ []) [])
    last true = (λ b i. absurd (Memᴰ.not-nil i), tt)
    last false = tt

    before : (t : Bool) (a b : ℕ) → Memᴰ a (list_below m test) → Memᴰ b (cond t (m ∷ []) []) → a < b
    before true a b i j = rw (Memᴰ.eq_of_singleton j) (mem_at m test a i).0
    before false a b i j = absurd (Memᴰ.not-nil j)
