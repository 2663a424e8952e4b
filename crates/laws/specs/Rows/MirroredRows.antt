-- A sorted row is its own mirror image: an entry and the one as far from the other end add up to one sum, since their patterns
-- are each other's opposite.
use Prim.Native.Nat.{ℕ, zero, suc, ◌+◌, ◌*◌, ◌-◌, ◌^◌, ◌≤◌, ◌<◌}
use Rattle.std.specs.Prelude.{◌≡◌, refl, true, length, get_or}
use Rattle.std.proofs.Common.{sym, ◌∙◌, ⊎_elim}
use Rattle.std.proofs.Math.Path.{ap}
use mathlib.Core.List.Memᴰ
use mathlib.Core.List.{List, [], ◌∷◌, map, Memᴰ}
use Rattle.std.proofs.Math.Nat.{two-pow-succ}
use Rattle.std.proofs.Math.Decide.{dec_lt}
use native.Mathlib.Omega.{arith}
use Rattle.rules.specs.Below.{list_below}
use Rattle.laws.specs.Numbers.Each.{each_at}
use Rattle.laws.specs.Numbers.Sums.{mem_at, mem_of}
use Rattle.laws.specs.Numbers.SortedLists.{Rising, rising_at, rising-map, rising_unique, list_rising, mem_get_d, mem_map_at, mem_map_of}
use Rattle.laws.specs.Rows.SortedRows.{row_of, entry_of, row-length, row-at, row_of_lem, row-rising, entry-none, entry_zero, entry_one}

-- a member of a list stands at an index
pub mem_index : {A : Type 0} (xs : List A) (d x : A) → Memᴰ x xs → (i : ℕ) × (i < length xs) × (get_or xs i d ≡ x)
mem_index [] d x m = absurd (Memᴰ.not-nil m)
mem_index {A} (y ∷ xs) d x m =
    ⊎_elim (λ (e : x ≡ y). (0, omega arith, sym e)) (λ t. let r = mem_index xs d x t in (suc r.0, omega (arith, r.1), r.2)) (Memᴰ.cases_cons m)

module _ (cost : ℕ → ℕ → ℕ) where
  -- the sum of the entries of a pattern and its opposite
  unfoldable pub both_of : ℕ → ℕ
  both_of zero = 0
  both_of (suc t) = both_of t + (cost t 0 * 256 + (cost t 1 * 256 + 2 ^ t))

  -- whatever the pattern is
  opposite : (t u : ℕ) → u < 2 ^ t → entry_of cost t u + entry_of cost t (2 ^ t - 1 - u) ≡ both_of t
  unfolding both_of
  opposite zero u l = let e : 2 ^ 0 - 1 - u < 2 ^ 0 = omega arith in omega (arith, entry-none cost u l, entry-none cost (2 ^ 0 - 1 - u) e)
  opposite (suc t) u l = go (dec_lt u (2 ^ t)) (opposite t)
    where
      go : Dec (u < 2 ^ t) → ((v : ℕ) → v < 2 ^ t → entry_of cost t v + entry_of cost t (2 ^ t - 1 - v) ≡ both_of t)
          → entry_of cost (suc t) u + entry_of cost (suc t) (2 ^ suc t - 1 - u) ≡ both_of t + (cost t 0 * 256 + (cost t 1 * 256 + 2 ^ t))
      go (yes k) h =
          let e : 2 ^ suc t - 1 - u ≡ 2 ^ t - 1 - u + 2 ^ t = omega (arith, two-pow-succ t) in
          rw e (omega (arith, entry_zero cost t u k, entry_one cost t (2 ^ t - 1 - u) (omega arith), h u k))
      go (no k) h =
          let below : u - 2 ^ t < 2 ^ t = omega (arith, two-pow-succ t) in
          let e : u ≡ u - 2 ^ t + 2 ^ t = omega arith in
          let f : 2 ^ suc t - 1 - u ≡ 2 ^ t - 1 - (u - 2 ^ t) = omega (arith, two-pow-succ t) in
          let first = ap (entry_of cost (suc t)) e ∙ entry_one cost t (u - 2 ^ t) below in
          rw f (omega (arith, first, entry_zero cost t (2 ^ t - 1 - (u - 2 ^ t)) (omega arith), h (u - 2 ^ t) below))

  module _ (t : ℕ) (s : t ≤ 8) where
    -- an entry of the row is that of a pattern
    entry_at : (i : ℕ) → i < 2 ^ t → (u : ℕ) × (u < 2 ^ t) × (get_or (row_of cost t) i 0 ≡ entry_of cost t u)
    entry_at i l = row-at cost t _ (mem_get_d (row_of cost t) i 0 (rw (row-length cost t) l))

    -- it is not above the sum
    not_above : (i : ℕ) → i < 2 ^ t → get_or (row_of cost t) i 0 ≤ both_of t
    not_above i l = let u = entry_at i l in omega (arith, u.2, opposite t u.0 u.1)

    -- what is left to the sum of the entry that stands as far from the end
    abbrev left : ℕ → ℕ
    left i = both_of t - get_or (row_of cost t) (2 ^ t - 1 - i) 0

    -- the row from its end, each entry taken from the sum
    abbrev turned : List ℕ
    turned = map left (list_below (2 ^ t) (λ i. true))

    -- it rises
    turned-rising : Rising ◌<◌ turned
    turned-rising =
        rising-map ◌<◌ ◌<◌ left (list_below (2 ^ t) (λ i. true)) (λ a b i j l. falls a b (mem_at (2 ^ t) _ b j).0 l) (list_rising (2 ^ t) (λ i. true))
      where
        falls : (a b : ℕ) → b < 2 ^ t → a < b → left a < left b
        falls a b h l =
            omega (arith, rising_at ◌<◌ (row_of cost t) 0 (row-rising cost t s) (2 ^ t - 1 - b) (2 ^ t - 1 - a) (omega arith) (omega (arith, row-length cost t)), not_above (2 ^ t - 1 - a) (omega arith))

    -- it has entries of the row alone
    turned_in : (x : ℕ) → Memᴰ x turned → Memᴰ x (row_of cost t)
    turned_in x m =
        let r = mem_map_at left (list_below (2 ^ t) (λ i. true)) x m in
        let u = entry_at (2 ^ t - 1 - r.0) (omega (arith, (mem_at (2 ^ t) _ r.0 r.1).0)) in
        let e : x ≡ entry_of cost t (2 ^ t - 1 - u.0) = omega (arith, r.2, u.2, opposite t u.0 u.1) in
        rw e (row_of_lem cost t (2 ^ t - 1 - u.0) (omega (arith, u.1)))

    -- and all of them
    turned_all : (x : ℕ) → Memᴰ x (row_of cost t) → Memᴰ x turned
    turned_all x m =
        let u = row-at cost t x m in
        let r = mem_index (row_of cost t) 0 _ (row_of_lem cost t (2 ^ t - 1 - u.0) (omega (arith, u.1))) in
        let l : r.0 < 2 ^ t = omega (arith, r.1, row-length cost t) in
        let back : 2 ^ t - 1 - (2 ^ t - 1 - r.0) ≡ r.0 = omega arith in
        let e : x ≡ left (2 ^ t - 1 - r.0) = rw back (omega (arith, r.2, u.2, opposite t u.0 u.1)) in
        rw e (mem_map_of left (list_below (2 ^ t) (λ i. true)) (2 ^ t - 1 - r.0) (mem_of (2 ^ t) (λ i. true) (2 ^ t - 1 - r.0) (omega arith) refl))

    -- each entry and the one as far from the other end
    pub row_mirrored : (i : ℕ) → i < 2 ^ t → get_or (row_of cost t) i 0 + get_or (row_of cost t) (2 ^ t - 1 - i) 0 ≡ both_of t
    row_mirrored i l =
        let same = rising_unique ◌<◌ (λ a b h g. omega arith) (row_of cost t) turned (row-rising cost t s) turned-rising turned_all turned_in in
        let e : get_or (row_of cost t) i 0 ≡ left i = ap (λ (r : List ℕ). get_or r i 0) same ∙ each_at left 0 (2 ^ t) i l in
        omega (arith, e, not_above (2 ^ t - 1 - i) (omega arith))
