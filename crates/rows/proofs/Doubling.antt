-- One slot more: the merged row from the front, turn by turn.
use Prim.Native.Nat.{ℕ, zero, suc, ◌+◌, ◌-◌, ◌≤◌, ◌<◌, min}
use mathlib.Core.Path.{◌≡◌, refl, sym, ap, ◌∙◌}
use mathlib.Core.Bool.{Bool, true, false, cond}
use mathlib.Core.List.{List, [], ◌∷◌, map}
use native.Mathlib.Nat.{add-zero, le_of_suc-le-suc, not-suc-le-zero}
use native.Mathlib.Numerals.{add-one}
use native.Mathlib.Omega.{arith}
use lib.Dec.{ltb}
use lib.ListN.{length, get_or, drop, length-map}
use lib.Seq.{get_or-drop, drop-drop}
use borrow.Author.Tests.{ltb-true, ltb-false}
use Rattle.laws.specs.Rows.SortedRows.{merge, merge_front_first, merge_front_second, doubled}

-- each entry with x added
abbrev plus : ℕ → List ℕ → List ℕ
plus x row = map (λ e. e + x) row

plus_at : (x : ℕ) (row : List ℕ) (i : ℕ) → i < length row → get_or (plus x row) i 0 ≡ get_or row i 0 + x
plus_at x [] i l = absurd (not-suc-le-zero l)
plus_at x (e ∷ row) zero l = refl
plus_at x (e ∷ row) (suc i) l = plus_at x row i (le_of_suc-le-suc l)

-- the head of what is left of a list from i on
head_at : (r : List ℕ) (i v : ℕ) (rest : List ℕ) → drop i r ≡ v ∷ rest → (get_or r i 0 ≡ v) × (drop (suc i) r ≡ rest)
head_at r i v rest e = (
  ap (λ (j : ℕ). get_or r j 0) (sym (add-zero i)) ∙ sym (get_or-drop i r 0 0) ∙ ap (λ (l : List ℕ). get_or l 0 0) e,
  ap (λ (j : ℕ). drop j r) (sym (add-one i)) ∙ sym (drop-drop 1 i r) ∙ ap (λ (l : List ℕ). drop 1 l) e,
)

-- a test counts 1 or nothing
pub one_or_none : (t : Bool) → cond t 1 0 ≤ 1
one_or_none true = omega arith
one_or_none false = omega arith

module _ (row : List ℕ) (x y : ℕ) where
  -- what is left to merge is left of both halves: of the first a entries went, of the second b
  abbrev pub Front : ℕ → ℕ → Type 0
  Front a b = drop (a + b) (doubled x y row) ≡ merge (drop a (plus x row)) (drop b (plus y row))

  -- a turn: t says that the first half's head goes
  pub front_turn : (a b : ℕ) → a < length row → b < length row → Front a b → (t : Bool) → ltb (get_or row a 0 + x) (get_or row b 0 + y) ≡ t
      → Front (a + cond t 1 0) (b + (1 - cond t 1 0)) × (get_or (doubled x y row) (a + b) 0 ≡ min (get_or row a 0 + x) (get_or row b 0 + y))
  front_turn a b la lb f t e = go t e
    where
      in_first : a < length (plus x row)
      in_first = rw (length-map row (λ e. e + x)) la

      in_second : b < length (plus y row)
      in_second = rw (length-map row (λ e. e + y)) lb

      go : (t : Bool) → ltb (get_or row a 0 + x) (get_or row b 0 + y) ≡ t
          → Front (a + cond t 1 0) (b + (1 - cond t 1 0)) × (get_or (doubled x y row) (a + b) 0 ≡ min (get_or row a 0 + x) (get_or row b 0 + y))
      go true e =
          let less = ltb-true _ _ e in
          let goes : get_or (plus x row) a 0 < get_or (plus y row) b 0 = rw (plus_at x row a la, plus_at y row b lb) less in
          let h = head_at (doubled x y row) (a + b) _ _ (f ∙ merge_front_first (plus x row) (plus y row) a b in_first in_second goes) in
          let sum : a + 1 + (b + 0) ≡ suc (a + b) = omega arith in
          (rw (sum, add-one a, add-zero b) h.1, omega (arith, h.0, plus_at x row a la))
      go false e =
          let more = ltb-false _ _ e in
          let goes : get_or (plus y row) b 0 ≤ get_or (plus x row) a 0 = rw (plus_at x row a la, plus_at y row b lb) more in
          let h = head_at (doubled x y row) (a + b) _ _ (f ∙ merge_front_second (plus x row) (plus y row) a b in_first in_second goes) in
          let sum : a + 0 + (b + 1) ≡ suc (a + b) = omega arith in
          (rw (sum, add-zero a, add-one b) h.1, omega (arith, h.0, plus_at y row b lb))
