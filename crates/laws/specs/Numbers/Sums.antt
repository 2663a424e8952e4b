-- Laws of sums, counts, tests and lists over the numbers below a bound. `-at` reads what a result says of an index, `-of` is the way back.
use Rattle.std.specs.Prelude.{ℕ, zero, suc, ◌+◌, ◌*◌, ◌%◌, ◌≤◌, ◌<◌, ◌≡◌, refl, ◌≢◌, ◌⊎◌, Bool, true, false, ◌&&◌, cond, length}
use Rattle.std.proofs.Common.{zero-le, sym, ap, ap₂, ◌∙◌, inl, inr, add-zero, add-suc, zero-mul, suc-mul, mul-add, add-le-add, not-suc-le-zero, add-one, arith, length-append}
use Rattle.std.proofs.Math.Option.{Option, none, some}
use mathlib.Core.List.Memᴰ
use mathlib.Core.List.{[], ◌∷◌, ◌++◌, Memᴰ}
use Rattle.std.proofs.Math.Decide.{ℕ_discrete, dec_lt}
use Rattle.rules.specs.Below.{sum_below, count_below, all_below, first_below, list_below, or_else}

-- sums of functions that agree below m
pub sum_cong : (m : ℕ) {f g : ℕ → ℕ} → ((i : ℕ) → i < m → f i ≡ g i) → sum_below m f ≡ sum_below m g
unfolding sum_below
sum_cong zero h = refl
sum_cong (suc m) h = ap₂ (λ (x y : ℕ). x + y) (sum_cong m (λ i l. h i (omega arith))) (h m (omega arith))

-- a sum of zeros
pub sum-zero : (m : ℕ) {f : ℕ → ℕ} → ((i : ℕ) → i < m → f i ≡ 0) → sum_below m f ≡ 0
unfolding sum_below
sum-zero zero h = refl
sum-zero (suc m) h = ap₂ (λ (x y : ℕ). x + y) (sum-zero m (λ i l. h i (omega arith))) (h m (omega arith))

-- m times one number
pub sum-const : (m c : ℕ) → sum_below m (λ i. c) ≡ m * c
unfolding sum_below
sum-const zero c = omega (arith, zero-mul c)
sum-const (suc m) c = omega (arith, sum-const m c, suc-mul m c)

-- the sum of two functions is the sum of their sums
pub sum-add : (m : ℕ) (f g : ℕ → ℕ) → sum_below m (λ i. f i + g i) ≡ sum_below m f + sum_below m g
unfolding sum_below
sum-add zero f g = refl
sum-add (suc m) f g = omega (arith, sum-add m f g)

-- a greater function has a greater sum
pub sum-le : (m : ℕ) {f g : ℕ → ℕ} → ((i : ℕ) → i < m → f i ≤ g i) → sum_below m f ≤ sum_below m g
unfolding sum_below
sum-le zero h = zero-le
sum-le (suc m) h = add-le-add (sum-le m (λ i l. h i (omega arith))) (h m (omega arith))

-- the first a numbers, and the b after them
pub sum_split : (a b : ℕ) (f : ℕ → ℕ) → sum_below (a + b) f ≡ sum_below a f + sum_below b (λ i. f (a + i))
unfolding sum_below
sum_split a zero f = rw (add-zero a) (omega arith)
sum_split a (suc b) f = rw add-suc (omega (arith, sum_split a b f))

-- a factor goes out of a sum
pub sum-mul : (m c : ℕ) (f : ℕ → ℕ) → sum_below m (λ i. c * f i) ≡ c * sum_below m f
unfolding sum_below
sum-mul zero c f = omega arith
sum-mul (suc m) c f = rw (sum-mul m c f, mul-add c (sum_below m f) (f m))

-- where at most f k is not zero, the sum is f k
pub sum-single : (m k : ℕ) {f : ℕ → ℕ} → k < m → ((i : ℕ) → i < m → i ≢ k → f i ≡ 0) → sum_below m f ≡ f k
unfolding sum_below
sum-single zero k l h = absurd (not-suc-le-zero l)
sum-single (suc m) k {f} l h = go (ℕ_discrete k m) (λ k<m. sum-single m k k<m (λ i i<m. h i (omega arith)))
  where
    go : Dec (k ≡ m) → (k < m → sum_below m f ≡ f k) → sum_below m f + f m ≡ f k
    go (yes e) below = rw (e, sum-zero m (λ i i<m. h i (omega arith) (omega arith))) (omega arith)
    go (no n) below = omega (arith, below (omega arith), h m (omega arith) (omega arith))

-- a sum that is not zero has a term that is not
pub sum_some : (m : ℕ) (f : ℕ → ℕ) → 0 < sum_below m f → (i : ℕ) × (i < m) × (0 < f i)
unfolding sum_below
sum_some zero f h = absurd (omega arith)
sum_some (suc m) f h = go (dec_lt 0 (f m)) (sum_some m f)
  where
    go : Dec (0 < f m) → (0 < sum_below m f → (i : ℕ) × (i < m) × (0 < f i)) → (i : ℕ) × (i < suc m) × (0 < f i)
    go (yes l) below = (m, omega arith, l)
    go (no g) below = let r = below (omega arith) in (r.0, omega (arith, r.1), r.2)

-- the parity of a sum is that of the sum of parities
pub sum_parity : (m : ℕ) (f : ℕ → ℕ) → sum_below m (λ i. f i % 2) % 2 ≡ sum_below m f % 2
unfolding sum_below
sum_parity zero f = refl
sum_parity (suc m) f = omega (arith, sum_parity m f)

-- two sums change places
pub sum_swap : (a b : ℕ) (f : ℕ → ℕ → ℕ) → sum_below a (λ i. sum_below b (f i)) ≡ sum_below b (λ j. sum_below a (λ i. f i j))
unfolding sum_below
sum_swap zero b f = sym (sum-zero b (λ i l. refl))
sum_swap (suc a) b f = rw (sum_swap a b f) (sym (sum-add b (λ j. sum_below a (λ i. f i j)) (f a)))

-- where every number passes, each does
pub all-at : (m : ℕ) (test : ℕ → Bool) → all_below m test ≡ true → (i : ℕ) → i < m → test i ≡ true
unfolding all_below
all-at zero test e i l = absurd (not-suc-le-zero l)
all-at (suc m) test e i l = go (all_below m test) (test m) refl refl e (ℕ_discrete i m) (λ t. all-at m test t i)
  where
    go : (a b : Bool) → all_below m test ≡ a → test m ≡ b → (a && b) ≡ true → Dec (i ≡ m)
        → (all_below m test ≡ true → i < m → test i ≡ true) → test i ≡ true
    go true b p q t (yes i≡m) below = rw i≡m (q ∙ t)
    go true b p q t (no n) below = below p (omega arith)
    go false b p q t d below = cc

-- where each number passes, every one does
pub all_of : (m : ℕ) (test : ℕ → Bool) → ((i : ℕ) → i < m → test i ≡ true) → all_below m test ≡ true
unfolding all_below
all_of zero test h = refl
all_of (suc m) test h = ap₂ ◌&&◌ (all_of m test (λ i l. h i (omega arith))) (h m (omega arith))

-- where a number fails, not every one passes
pub all_fails : (m : ℕ) (test : ℕ → Bool) (i : ℕ) → i < m → test i ≡ false → all_below m test ≡ false
all_fails m test i l fails = go (all_below m test) refl
  where
    go : (a : Bool) → all_below m test ≡ a → all_below m test ≡ false
    go true e = e ∙ sym (all-at m test e i l) ∙ fails
    go false e = e

-- no first number: each fails
pub none_at : (m : ℕ) (test : ℕ → Bool) → first_below m test ≡ none → (i : ℕ) → i < m → test i ≡ false
unfolding first_below
none_at zero test e i l = absurd (not-suc-le-zero l)
none_at (suc m) test e i l = go (first_below m test) (test m) refl refl e (ℕ_discrete i m) (λ t. none_at m test t i)
  where
    go : (a : Option ℕ) (b : Bool) → first_below m test ≡ a → test m ≡ b → or_else a b m ≡ none → Dec (i ≡ m)
        → (first_below m test ≡ none → i < m → test i ≡ false) → test i ≡ false
    go (some k) b p q t d below = cc
    go none true p q t d below = cc
    go none false p q t (yes i≡m) below = rw i≡m q
    go none false p q t (no n) below = below p (omega arith)

-- each fails: no first number
pub none_of : (m : ℕ) (test : ℕ → Bool) → ((i : ℕ) → i < m → test i ≡ false) → first_below m test ≡ none
unfolding first_below
none_of zero test h = refl
none_of (suc m) test h = rw (none_of m test (λ i l. h i (omega arith)), h m (omega arith))

-- a number below the bound that passes, where each before it fails, is the first
pub some_of : (m : ℕ) (test : ℕ → Bool) (k : ℕ) → k < m → test k ≡ true → ((i : ℕ) → i < k → test i ≡ false)
    → first_below m test ≡ some k
unfolding first_below
some_of zero test k l e h = absurd (not-suc-le-zero l)
some_of (suc m) test k l e h = go (ℕ_discrete k m) (λ k<m. some_of m test k k<m e h)
  where
    go : Dec (k ≡ m) → (k < m → first_below m test ≡ some k) → or_else (first_below m test) (test m) m ≡ some k
    go (yes k≡m) below = rw (← k≡m, none_of k test h, e)
    go (no n) below = rw (below (omega arith))

-- a member of the list is below the bound and passes
pub mem_at : (m : ℕ) (test : ℕ → Bool) (i : ℕ) → Memᴰ i (list_below m test) → (i < m) × (test i ≡ true)
unfolding list_below
mem_at zero test i h = absurd (Memᴰ.not-nil h)
mem_at (suc m) test i h = go (test m) refl (Memᴰ.append_cases (list_below m test) h) (mem_at m test i)
  where
    go : (b : Bool) → test m ≡ b → Memᴰ i (list_below m test) ⊎ Memᴰ i (cond (test m) (m ∷ []) [])
        → (Memᴰ i (list_below m test) → (i < m) × (test i ≡ true)) → (i < suc m) × (test i ≡ true)
    go b q (inl x) below = let r = below x in (omega arith, r.1)
    go true q (inr x) below = let e : i ≡ m = Memᴰ.eq_of_singleton (rw q at x) in (omega arith, rw e q)
    go false q (inr x) below = absurd (Memᴰ.not-nil (rw q at x))

-- a number below the bound that passes is in the list
pub mem_of : (m : ℕ) (test : ℕ → Bool) (i : ℕ) → i < m → test i ≡ true → Memᴰ i (list_below m test)
unfolding list_below
mem_of zero test i l e = absurd (not-suc-le-zero l)
mem_of (suc m) test i l e = go (ℕ_discrete i m) (λ i<m. mem_of m test i i<m e)
  where
    go : Dec (i ≡ m) → (i < m → Memᴰ i (list_below m test)) → Memᴰ i (list_below m test ++ cond (test m) (m ∷ []) [])
    go (yes i≡m) below = Memᴰ.append_right (list_below m test) (rw (← i≡m, e) (Memᴰ.head refl))
    go (no n) below = Memᴰ.append_left (cond (test m) (m ∷ []) []) (below (omega arith))

-- tests that agree below m count the same
pub count_cong : (m : ℕ) (a b : ℕ → Bool) → ((i : ℕ) → i < m → a i ≡ b i) → count_below m a ≡ count_below m b
unfolding count_below
count_cong m a b h = sum_cong m (λ i l. ap (λ (t : Bool). cond t 1 0) (h i l))

-- the list of the numbers that pass is as long as their count
pub length_list : (m : ℕ) (test : ℕ → Bool) → length (list_below m test) ≡ count_below m test
unfolding count_below sum_below list_below
length_list zero test = refl
length_list (suc m) test = length-append (list_below m test) (cond (test m) (m ∷ []) []) ∙ rw (length_list m test) (go (test m))
  where
    go : (t : Bool) → count_below m test + length (cond t (m ∷ []) []) ≡ count_below m test + cond t 1 0
    go true = refl
    go false = refl

-- a sum over the even and odd numbers below 2 m, pair by pair
pub sum_pairs : (m : ℕ) (f : ℕ → ℕ) → sum_below (m * 2) f ≡ sum_below m (λ i. f (i * 2) + f (i * 2 + 1))
unfolding sum_below
sum_pairs zero f = refl
sum_pairs (suc m) f =
    let e : suc m * 2 ≡ suc (suc (m * 2)) = omega arith in rw (e, ← sum_pairs m f, add-one (m * 2)) (omega arith)
