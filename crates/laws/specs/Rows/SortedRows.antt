-- Sorted rows: the patterns of a group with what its slots add up to, by merging, one slot more at a time. An entry is the sum
-- times 256 plus the pattern, so that the order of numbers is that of sums, and of patterns among equal sums.
use Prim.Native.Nat.{ℕ, zero, suc, ◌+◌, ◌*◌, ◌-◌, ◌/◌, ◌%◌, ◌^◌, ◌≤◌, ◌<◌}
use Rattle.std.specs.Prelude.{◌≡◌, ◌⊎◌, ◌≢◌, Bool, cond, length, get_or, drop}
use Rattle.std.proofs.Math.Path.{refl, sym, ap}
use Rattle.std.proofs.Common.{◌∙◌, inl, inr, le_refl, add-zero, drop-cons, lt-ltb, le-ltb, ltb-true, ltb-false}
use Rattle.std.proofs.Math.Logic.{⊎_elim}
use Rattle.std.proofs.Math.Bool.{true, false}
use mathlib.Core.List.Memᴰ
use mathlib.Core.List.{List, [], ◌∷◌, map, Memᴰ}
use Rattle.std.proofs.Math.Nat.{one-mul, two-pow-succ}
use Rattle.std.proofs.Math.Decide.{dec_lt}
use native.Mathlib.Omega.{arith}
use Rattle.std.proofs.Math.Dec.{ltb}
use Rattle.std.proofs.Math.ListN.{length-map}
use Rattle.std.proofs.Math.Pow.{pow_pos, pow_mono}
use Rattle.rules.specs.Below.{sum_below}
use Rattle.rules.specs.Word.{bit}
use Rattle.laws.specs.Numbers.Sums.{sum_cong, sum-le, sum-const}
use Rattle.laws.specs.Numbers.Bits.{bit_beyond, bit_low, bit_high}
use Rattle.laws.specs.Numbers.SortedLists.{Rising, mem_map_at, mem_map_of, rising-map}

-- x and the list after it merged with ys, where `rest` merges the list after x
unfoldable pub merge_from : ℕ → (List ℕ → List ℕ) → List ℕ → List ℕ
merge_from x rest [] = x ∷ rest []
merge_from x rest (y ∷ ys) = cond (ltb x y) (x ∷ rest (y ∷ ys)) (y ∷ merge_from x rest ys)

-- two rising lists as one
unfoldable pub merge : List ℕ → List ℕ → List ℕ
unfolding merge_from
merge [] ys = ys
merge (x ∷ xs) ys = merge_from x (merge xs) ys

-- the first list's head goes
merge_first : (x y : ℕ) (xs ys : List ℕ) → x < y → merge (x ∷ xs) (y ∷ ys) ≡ x ∷ merge xs (y ∷ ys)
unfolding merge
merge_first x y xs ys h = rw (lt-ltb x y h)

-- the second list's head goes
merge_second : (x y : ℕ) (xs ys : List ℕ) → y ≤ x → merge (x ∷ xs) (y ∷ ys) ≡ y ∷ merge (x ∷ xs) ys
unfolding merge
merge_second x y xs ys h = rw (le-ltb x y h)

-- what holds of every merging, step by step
module _ (P : List ℕ → List ℕ → List ℕ → Type 0)
    (none : (ys : List ℕ) → P [] ys ys)
    (last : (x : ℕ) (xs : List ℕ) → P xs [] (merge xs []) → P (x ∷ xs) [] (x ∷ merge xs []))
    (first : (x y : ℕ) (xs ys : List ℕ) → x < y → P xs (y ∷ ys) (merge xs (y ∷ ys)) → P (x ∷ xs) (y ∷ ys) (x ∷ merge xs (y ∷ ys)))
    (second : (x y : ℕ) (xs ys : List ℕ) → y ≤ x → P (x ∷ xs) ys (merge (x ∷ xs) ys) → P (x ∷ xs) (y ∷ ys) (y ∷ merge (x ∷ xs) ys)) where
  from_ind : (x : ℕ) (xs : List ℕ) → ((ys : List ℕ) → P xs ys (merge xs ys)) → (ys : List ℕ) → P (x ∷ xs) ys (merge (x ∷ xs) ys)
  unfolding merge
  from_ind x xs rest [] = last x xs (rest [])
  from_ind x xs rest (y ∷ ys) = go (ltb x y) refl (from_ind x xs rest ys)
    where
      go : (t : Bool) → ltb x y ≡ t → P (x ∷ xs) ys (merge (x ∷ xs) ys)
          → P (x ∷ xs) (y ∷ ys) (cond t (x ∷ merge xs (y ∷ ys)) (y ∷ merge (x ∷ xs) ys))
      go true e h = first x y xs ys (ltb-true x y e) (rest (y ∷ ys))
      go false e h = second x y xs ys (ltb-false x y e) h

  merge_ind : (xs ys : List ℕ) → P xs ys (merge xs ys)
  unfolding merge
  merge_ind [] ys = none ys
  merge_ind (x ∷ xs) ys = from_ind x xs (merge_ind xs) ys

-- a merged list is as long as both
pub merge-length : (xs ys : List ℕ) → length (merge xs ys) ≡ length xs + length ys
merge-length =
    merge_ind (λ xs ys r. length r ≡ length xs + length ys) (λ ys. omega arith) (λ x xs h. omega arith) (λ x y xs ys l h. omega arith)
    (λ x y xs ys l h. omega arith)

-- a member of a merged list is a member of one of both
merge_at : (z : ℕ) (xs ys : List ℕ) → Memᴰ z (merge xs ys) → Memᴰ z xs ⊎ Memᴰ z ys
merge_at z =
    merge_ind (λ xs ys r. Memᴰ z r → Memᴰ z xs ⊎ Memᴰ z ys) (λ ys m. inr m) (λ x xs. by_first x xs [] _)
    (λ x y xs ys l. by_first x xs (y ∷ ys) _)
    (λ x y xs ys l. by_second y (x ∷ xs) ys _)
  where
    by_first : (x : ℕ) (xs ys r : List ℕ) → (Memᴰ z r → Memᴰ z xs ⊎ Memᴰ z ys)
        → Memᴰ z (x ∷ r) → Memᴰ z (x ∷ xs) ⊎ Memᴰ z ys
    by_first x xs ys r h m =
        ⊎_elim (λ e. inl (Memᴰ.head e)) (λ i. ⊎_elim (λ j. inl (Memᴰ.tail j)) inr (h i)) (Memᴰ.cases_cons m)

    by_second : (y : ℕ) (xs ys r : List ℕ) → (Memᴰ z r → Memᴰ z xs ⊎ Memᴰ z ys)
        → Memᴰ z (y ∷ r) → Memᴰ z xs ⊎ Memᴰ z (y ∷ ys)
    by_second y xs ys r h m =
        ⊎_elim (λ e. inr (Memᴰ.head e)) (λ i. ⊎_elim inl (λ j. inr (Memᴰ.tail j)) (h i)) (Memᴰ.cases_cons m)

keeps : {z x : ℕ} {xs r : List ℕ} → (Memᴰ z xs → Memᴰ z r) → Memᴰ z (x ∷ xs) → Memᴰ z (x ∷ r)
keeps h m = ⊎_elim (λ e. Memᴰ.head e) (λ i. Memᴰ.tail (h i)) (Memᴰ.cases_cons m)

-- a member of the first list is a member of the merged one
merge_of_first : (z : ℕ) (xs ys : List ℕ) → Memᴰ z xs → Memᴰ z (merge xs ys)
merge_of_first z =
    merge_ind (λ xs ys r. Memᴰ z xs → Memᴰ z r) (λ ys m. absurd (Memᴰ.not-nil m)) (λ x xs h. keeps h)
    (λ x y xs ys l h. keeps h)
    (λ x y xs ys l h m. Memᴰ.tail (h m))

-- and so is a member of the second
merge_of_second : (z : ℕ) (xs ys : List ℕ) → Memᴰ z ys → Memᴰ z (merge xs ys)
merge_of_second z =
    merge_ind (λ xs ys r. Memᴰ z ys → Memᴰ z r) (λ ys m. m) (λ x xs h m. Memᴰ.tail (h m))
    (λ x y xs ys l h m. Memᴰ.tail (h m))
    (λ x y xs ys l h. keeps h)

-- rising lists with no member in common make a rising list
merge-rising : (xs ys : List ℕ) → Rising ◌<◌ xs → Rising ◌<◌ ys → ((x y : ℕ) → Memᴰ x xs → Memᴰ y ys → x ≢ y)
    → Rising ◌<◌ (merge xs ys)
unfolding Rising
merge-rising =
    merge_ind (λ xs ys r. Rising ◌<◌ xs → Rising ◌<◌ ys → ((x y : ℕ) → Memᴰ x xs → Memᴰ y ys → x ≢ y) → Rising ◌<◌ r)
    (λ ys p q n. q)
    (λ x xs h p q n. (
      λ b m. ⊎_elim (λ i. p.0 b i) (λ i. absurd (Memᴰ.not-nil i)) (merge_at b xs [] m),
      h p.1 tt (λ a b i j. n a b (Memᴰ.tail i) j),
    ))
    (λ x y xs ys l h p q n. (
      λ b m. ⊎_elim (λ i. p.0 b i) (λ i. ⊎_elim (λ (e : b ≡ y). omega arith) (λ j. omega (arith, q.0 b j)) (Memᴰ.cases_cons i))
          (merge_at b xs (y ∷ ys) m),
      h p.1 q (λ a b i j. n a b (Memᴰ.tail i) j),
    ))
    (λ x y xs ys l h p q n. let apart = n x y (Memᴰ.head refl) (Memᴰ.head refl) in (
      λ b m. ⊎_elim (λ i. ⊎_elim (λ (e : b ≡ x). omega arith) (λ j. omega (arith, p.0 b j)) (Memᴰ.cases_cons i)) (λ i. q.0 b i)
          (merge_at b (x ∷ xs) ys m),
      h p q.1 (λ a b i j. n a b i (Memᴰ.tail j)),
    ))

module _ (xs ys : List ℕ) (a b : ℕ) where
  -- of what is left of both lists, the first one's head goes
  pub merge_front_first : a < length xs → b < length ys → get_or xs a 0 < get_or ys b 0
      → merge (drop a xs) (drop b ys) ≡ get_or xs a 0 ∷ merge (drop (suc a) xs) (drop b ys)
  merge_front_first la lb h = rw (drop-cons xs a 0 la, drop-cons ys b 0 lb) (merge_first _ _ _ _ h)

  -- or the second one's
  pub merge_front_second : a < length xs → b < length ys → get_or ys b 0 ≤ get_or xs a 0
      → merge (drop a xs) (drop b ys) ≡ get_or ys b 0 ∷ merge (drop a xs) (drop (suc b) ys)
  merge_front_second la lb h = rw (drop-cons xs a 0 la, drop-cons ys b 0 lb) (merge_second _ _ _ _ h)

-- a row with one slot more: a is what bit 0 adds to an entry, b what bit 1 adds
abbrev pub doubled : ℕ → ℕ → List ℕ → List ℕ
doubled a b row = merge (map (λ e. e + a) row) (map (λ e. e + b) row)

-- the row of t slots, under the cost of a slot and a bit
unfoldable pub row_of : (ℕ → ℕ → ℕ) → ℕ → List ℕ
row_of cost zero = 0 ∷ []
row_of cost (suc t) = doubled (cost t 0 * 256) (cost t 1 * 256 + 2 ^ t) (row_of cost t)

-- the entry of the pattern u
unfoldable pub entry_of : (ℕ → ℕ → ℕ) → ℕ → ℕ → ℕ
entry_of cost t u = sum_below t (λ i. cost i (bit u i)) * 256 + u

module _ (cost : ℕ → ℕ → ℕ) where
  -- a row has an entry for each pattern
  pub row-length : (t : ℕ) → length (row_of cost t) ≡ 2 ^ t
  unfolding row_of
  row-length zero = refl
  row-length (suc t) =
      merge-length (map (λ e. e + cost t 0 * 256) (row_of cost t)) (map (λ e. e + (cost t 1 * 256 + 2 ^ t)) (row_of cost t))
      ∙ rw (length-map, length-map, row-length t) (omega (arith, two-pow-succ t))

  -- the one pattern of no slot
  pub entry-none : (u : ℕ) → u < 2 ^ 0 → entry_of cost 0 u ≡ 0
  unfolding entry_of sum_below
  entry-none u l = omega arith

  -- a pattern with bit 0 in slot t
  pub entry_zero : (t u : ℕ) → u < 2 ^ t → entry_of cost (suc t) u ≡ entry_of cost t u + cost t 0 * 256
  unfolding entry_of sum_below
  entry_zero t u l = rw (bit_beyond {w = u} {k = t} {i = t} l (omega arith)) (omega arith)

  -- a pattern with bit 1 in slot t
  pub entry_one : (t u : ℕ) → u < 2 ^ t → entry_of cost (suc t) (u + 2 ^ t) ≡ entry_of cost t u + (cost t 1 * 256 + 2 ^ t)
  unfolding entry_of sum_below
  entry_one t u l =
      let parts : u + 2 ^ t ≡ 1 * 2 ^ t + u = omega (arith, one-mul (2 ^ t)) in
      let top : bit (u + 2 ^ t) t ≡ 1 = rw parts (ap (λ (i : ℕ). bit (1 * 2 ^ t + u) i) (sym (add-zero t)) ∙ bit_high 1 t l 0) in
      rw (top, sum_cong t {f = λ i. cost i (bit (u + 2 ^ t) i)} {g = λ i. cost i (bit u i)} (λ i k. ap (cost i) (rw parts (bit_low 1 t l i k)))) (omega arith)

  module _ (t : ℕ) (known : (e : ℕ) → Memᴰ e (row_of cost t) → (u : ℕ) × (u < 2 ^ t) × (e ≡ entry_of cost t u)) where
    -- where each entry of t slots is a pattern's, so is one with bit 0 more
    zero_at : (e : ℕ) → Memᴰ e (map (λ x. x + cost t 0 * 256) (row_of cost t)) → (u : ℕ) × (u < 2 ^ t) × (e ≡ entry_of cost (suc t) u)
    zero_at e m =
        let r = mem_map_at (λ x. x + cost t 0 * 256) (row_of cost t) e m in
        let q = known r.0 r.1 in (q.0, q.1, omega (arith, r.2, q.2, entry_zero t q.0 q.1))

    -- and one with bit 1 more
    one_at : (e : ℕ) → Memᴰ e (map (λ x. x + (cost t 1 * 256 + 2 ^ t)) (row_of cost t))
        → (u : ℕ) × (u < 2 ^ t) × (e ≡ entry_of cost (suc t) (u + 2 ^ t))
    one_at e m =
        let r = mem_map_at (λ x. x + (cost t 1 * 256 + 2 ^ t)) (row_of cost t) e m in
        let q = known r.0 r.1 in (q.0, q.1, omega (arith, r.2, q.2, entry_one t q.0 q.1))

  -- an entry of a row is that of a pattern
  pub row-at : (t e : ℕ) → Memᴰ e (row_of cost t) → (u : ℕ) × (u < 2 ^ t) × (e ≡ entry_of cost t u)
  unfolding row_of
  row-at zero e m = (0, pow_pos 0, Memᴰ.eq_of_singleton m ∙ sym (entry-none 0 (pow_pos 0)))
  row-at (suc t) e m =
      ⊎_elim (λ i. let q = zero_at t (row-at t) e i in (q.0, omega (arith, two-pow-succ t, q.1), q.2))
      (λ i. let q = one_at t (row-at t) e i in (q.0 + 2 ^ t, omega (arith, two-pow-succ t, q.1), q.2))
      (merge_at e _ _ m)

  -- each pattern has its entry
  pub row_of_lem : (t u : ℕ) → u < 2 ^ t → Memᴰ (entry_of cost t u) (row_of cost t)
  unfolding row_of
  row_of_lem zero u l = Memᴰ.head (entry-none u l)
  row_of_lem (suc t) u l = go (dec_lt u (2 ^ t)) (row_of_lem t)
    where
      go : Dec (u < 2 ^ t) → ((v : ℕ) → v < 2 ^ t → Memᴰ (entry_of cost t v) (row_of cost t))
          → Memᴰ (entry_of cost (suc t) u) (row_of cost (suc t))
      go (yes k) h = rw (entry_zero t u k) (merge_of_first _ _ _ (mem_map_of (λ x. x + cost t 0 * 256) (row_of cost t) _ (h u k)))
      go (no k) h =
          let v : u - 2 ^ t < 2 ^ t = omega (arith, two-pow-succ t) in
          let e : u ≡ u - 2 ^ t + 2 ^ t = omega arith in
          rw (ap (entry_of cost (suc t)) e ∙ entry_one t (u - 2 ^ t) v)
          (merge_of_second _ _ _ (mem_map_of (λ x. x + (cost t 1 * 256 + 2 ^ t)) (row_of cost t) _ (h (u - 2 ^ t) v)))

  -- an entry's distance and its pattern
  pub entry_parts : (t u : ℕ) → t ≤ 8 → u < 2 ^ t
      → (entry_of cost t u / 256 ≡ sum_below t (λ i. cost i (bit u i))) × (entry_of cost t u % 256 ≡ u)
  unfolding entry_of
  entry_parts t u s l = let small : 2 ^ t ≤ 2 ^ 8 = pow_mono s in (omega arith, omega arith)

  -- no entry has bit 0 and bit 1 in slot t
  apart : (t : ℕ) → suc t ≤ 8 → (a b : ℕ) → Memᴰ a (map (λ x. x + cost t 0 * 256) (row_of cost t))
      → Memᴰ b (map (λ x. x + (cost t 1 * 256 + 2 ^ t)) (row_of cost t)) → a ≢ b
  apart t s a b i j e =
      let p = zero_at t (row-at t) a i in
      let q = one_at t (row-at t) b j in
      let double = two-pow-succ t in
      omega (arith, p.1, p.2, q.2, (entry_parts (suc t) p.0 s (omega (arith, p.1))).1, (entry_parts (suc t) (q.0 + 2 ^ t) s (omega (arith, q.1))).1)

  -- a row rises
  pub row-rising : (t : ℕ) → t ≤ 8 → Rising ◌<◌ (row_of cost t)
  unfolding row_of Rising
  row-rising zero s = (λ b m. absurd (Memᴰ.not-nil m), tt)
  row-rising (suc t) s =
      let rising = row-rising t (omega arith) in
      merge-rising (map (λ x. x + cost t 0 * 256) (row_of cost t)) (map (λ x. x + (cost t 1 * 256 + 2 ^ t)) (row_of cost t))
      (rising-map ◌<◌ ◌<◌ (λ x. x + cost t 0 * 256) (row_of cost t) (λ a b i j l. omega arith) rising)
      (rising-map ◌<◌ ◌<◌ (λ x. x + (cost t 1 * 256 + 2 ^ t)) (row_of cost t) (λ a b i j l. omega arith) rising)
      (apart t s)

  -- the greatest entry, where no slot costs more than c
  pub row_bound : (t c : ℕ) → t ≤ 8 → ((i b : ℕ) → i < t → cost i b ≤ c) → (e : ℕ) → Memᴰ e (row_of cost t) → e < (t * c + 1) * 256
  unfolding entry_of
  row_bound t c s h e m =
      let r = row-at t e m in
      let small : 2 ^ t ≤ 2 ^ 8 = pow_mono s in
      omega (arith, r.1, r.2, sum-le t {f = λ i. cost i (bit r.0 i)} {g = λ i. c} (λ i l. h i (bit r.0 i) l), sum-const t c)

-- a row depends on the costs of its own slots alone
pub row_cong : (a b : ℕ → ℕ → ℕ) (t : ℕ) → ((i v : ℕ) → i < t → a i v ≡ b i v) → row_of a t ≡ row_of b t
unfolding row_of
row_cong a b zero h = refl
row_cong a b (suc t) h = rw (h t 0 (le_refl _), h t 1 (le_refl _), row_cong a b t (λ i v l. h i v (omega arith)))
