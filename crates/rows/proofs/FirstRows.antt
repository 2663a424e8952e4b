-- The rows of one slot and of two: what merging makes of entries that are in order.
use Prim.Native.Nat.{ℕ, ◌+◌, ◌*◌, ◌≤◌, ◌<◌, min, max}
use mathlib.Core.Path.{◌≡◌, sym, ap, ap₂, ◌∙◌}
use mathlib.Core.List.{[], ◌∷◌}
use native.Mathlib.Decide.{dec_lt}
use native.Mathlib.Omega.{arith}
use borrow.Author.Tests.{lt-ltb, le-ltb}
use Rattle.laws.specs.Rows.SortedRows.{merge, doubled, row_of}
use Rattle.rows.specs.Cells.{InOrder}

-- two single entries
pair_merged : (x y : ℕ) → merge (x ∷ []) (y ∷ []) ≡ min x y ∷ max x y ∷ []
unfolding merge
pair_merged x y = go (dec_lt x y)
  where
    go : Dec (x < y) → merge (x ∷ []) (y ∷ []) ≡ min x y ∷ max x y ∷ []
    go (yes h) = rw (lt-ltb x y h) (ap₂ (λ (a b : ℕ). a ∷ b ∷ []) (omega arith) (omega arith))
    go (no h) = rw (le-ltb x y (omega arith)) (ap₂ (λ (a b : ℕ). a ∷ b ∷ []) (omega arith) (omega arith))

-- four entries that are the same
four_alike : {a b c d e f g h : ℕ} → a ≡ e → b ≡ f → c ≡ g → d ≡ h → (a ∷ b ∷ c ∷ d ∷ []) ≡ (e ∷ f ∷ g ∷ h ∷ [])
four_alike u v w x = rw (u, v, w, x)

-- two entries in order, with z and with o added
four_merged : (p q z o : ℕ) → p ≤ q
    → merge ((p + z) ∷ (q + z) ∷ []) ((p + o) ∷ (q + o) ∷ [])
    ≡ (p + min z o) ∷ min (q + min z o) (p + max z o) ∷ max (q + min z o) (p + max z o) ∷ (q + max z o) ∷ []
unfolding merge
four_merged p q z o l = go (dec_lt z o) (dec_lt (q + z) (p + o)) (dec_lt (p + z) (q + o))
  where
    go : Dec (z < o) → Dec (q + z < p + o) → Dec (p + z < q + o)
        → merge ((p + z) ∷ (q + z) ∷ []) ((p + o) ∷ (q + o) ∷ [])
        ≡ (p + min z o) ∷ min (q + min z o) (p + max z o) ∷ max (q + min z o) (p + max z o) ∷ (q + max z o) ∷ []
    go (yes a) (yes b) c = rw (lt-ltb (p + z) (p + o) (omega arith), lt-ltb (q + z) (p + o) b) (four_alike (omega arith) (omega arith) (omega arith) (omega arith))
    go (yes a) (no b) c =
        rw (lt-ltb (p + z) (p + o) (omega arith), le-ltb (q + z) (p + o) (omega arith), lt-ltb (q + z) (q + o) (omega arith))
        (four_alike (omega arith) (omega arith) (omega arith) (omega arith))
    go (no a) b (yes c) =
        rw (le-ltb (p + z) (p + o) (omega arith), lt-ltb (p + z) (q + o) c, le-ltb (q + z) (q + o) (omega arith))
        (four_alike (omega arith) (omega arith) (omega arith) (omega arith))
    go (no a) b (no c) =
        rw (le-ltb (p + z) (p + o) (omega arith), le-ltb (p + z) (q + o) (omega arith)) (four_alike (omega arith) (omega arith) (omega arith) (omega arith))

module _ (adding : ℕ → ℕ → ℕ) {low high : ℕ} (own : InOrder adding 0 low high) where
  -- the row of one slot
  pub one_row : low ∷ high ∷ [] ≡ row_of adding 1
  unfolding row_of
  one_row =
      ap₂ (λ (a b : ℕ). a ∷ b ∷ []) (omega (arith, own.lower)) (omega (arith, own.higher))
      ∙ sym (pair_merged (0 + adding 0 0 * 256) (0 + (adding 0 1 * 256 + 1)))

  -- the row of two slots
  pub two_row : {next last : ℕ} → InOrder adding 1 next last
      → ((low + next) ∷ min (high + next) (low + last) ∷ max (high + next) (low + last) ∷ (high + last) ∷ []) ≡ row_of adding 2
  unfolding row_of
  two_row second =
      rw (second.lower, second.higher)
      (sym (ap (doubled (adding 1 0 * 256) (adding 1 1 * 256 + 2)) (sym one_row) ∙ four_merged low high (adding 1 0 * 256) (adding 1 1 * 256 + 2) (omega (arith, own.lower, own.higher))))
