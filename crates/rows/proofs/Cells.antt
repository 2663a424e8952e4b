-- The cells of the table after a store, and after a row of stores.
use Prim.Native.Nat.{ℕ, suc, ◌+◌, ◌/◌, ◌%◌, ◌≤◌, ◌<◌}
use mathlib.Core.Path.{◌≡◌, sym, ◌∙◌}
use mathlib.Core.Logic.{inl, inr, ⊎_elim, ◌≢◌}
use mathlib.Core.List.{List, [], ◌∷◌, ◌++◌}
use native.Mathlib.Decide.{ℕ_discrete}
use native.Mathlib.Omega.{arith}
use lib.ListN.{length, get_or, set, length-set, length-append, get_or-append}
use lib.Seq.{get_or-set_same, get_or-set_other, get_or_at}
use Rattle.rows.specs.Table.{rows_in_all, capacity}
use Rattle.rows.specs.Cells.{cell, put, Shaped, Placed, Kept}

module _ (table : List (List ℕ)) (start i : ℕ) (l : start % 256 + i < 256) where
  -- the row and the place in it
  row_of_lem : (start + i) / 256 ≡ start / 256
  row_of_lem = omega arith

  at_of : (start + i) % 256 ≡ start % 256 + i
  at_of = omega arith

  -- a cell as the code reads it
  pub cell_at : cell table (start + i) ≡ get_or (get_or table (start / 256) []) (start % 256 + i) 0
  unfolding cell
  cell_at = rw (row_of_lem, at_of)

  -- a store as the code makes it
  pub put_at : (v : ℕ) → put table (start + i) v ≡ set table (start / 256) (set (get_or table (start / 256) []) (start % 256 + i) v)
  unfolding put
  put_at v = rw (row_of_lem, at_of)

module _ {table : List (List ℕ)} (s : Shaped table) (p v : ℕ) where
  -- the row that the place lies in
  here : p < capacity → get_or (put table p v) (p / 256) [] ≡ set (get_or table (p / 256) []) (p % 256) v
  unfolding put
  here l = get_or-set_same table (p / 256) _ [] (omega (arith, s.rows))

  -- any other row
  elsewhere : (o : ℕ) → o ≢ p / 256 → get_or (put table p v) o [] ≡ get_or table o []
  unfolding put
  elsewhere o n = get_or-set_other table (p / 256) o _ [] n

  -- the cell has what was stored
  pub put_same : p < capacity → cell (put table p v) p ≡ v
  unfolding cell
  put_same l = rw (here l) (get_or-set_same (get_or table (p / 256) []) (p % 256) v 0 (omega (arith, s.entries (p / 256) (omega arith))))

  -- every other one is as it was
  pub put_other : p < capacity → (q : ℕ) → q ≢ p → cell (put table p v) q ≡ cell table q
  unfolding cell
  put_other l q n = go (ℕ_discrete (q / 256) (p / 256))
    where
      go : Dec (q / 256 ≡ p / 256) → get_or (get_or (put table p v) (q / 256) []) (q % 256) 0 ≡ get_or (get_or table (q / 256) []) (q % 256) 0
      go (yes e) = rw (e, here l) (get_or-set_other (get_or table (p / 256) []) (p % 256) (q % 256) v 0 (λ f. n (omega arith)))
      go (no e) = rw (elsewhere (q / 256) e)

  -- and the table has its shape
  pub put-shaped : p < capacity → Shaped (put table p v)
  unfolding put
  put-shaped l = record { rows = length-set table (p / 256) _ ∙ s.rows; entries = λ o h. go o h (ℕ_discrete o (p / 256)) }
    where
      go : (o : ℕ) → o < rows_in_all → Dec (o ≡ p / 256) → length (get_or (put table p v) o []) ≡ 256
      go o h (yes e) = rw (e, here l) (length-set (get_or table (p / 256) []) (p % 256) v ∙ s.entries (p / 256) (omega arith))
      go o h (no e) = rw (elsewhere o e) (s.entries o h)

-- a store behind a place keeps all before it
pub kept_more : (old : List (List ℕ)) {to : List (List ℕ)} {start : ℕ} → Shaped to → Kept old start to → (p v : ℕ) → start ≤ p → p < capacity
    → {new : List (List ℕ)} → new ≡ put to p v → Kept old start new
kept_more old s k p v l inside e q h = rw e (put_other s p v inside q (omega arith) ∙ k q h)

-- one entry more
pub placed_more : {old : List (List ℕ)} {start : ℕ} {row : List ℕ} {new : List (List ℕ)} → Placed old start row new
    → {n : ℕ} → length row ≡ n → start + n < capacity → (v : ℕ) → Placed old start (row ++ v ∷ []) (put new (start + n) v)
placed_more {old} {start} {row} {new} r {n} long inside v = record {
  shaped = put-shaped r.shaped (start + n) v inside;
  stored = λ i l. stored i l (ℕ_discrete i n);
  same = λ p h. put_other r.shaped (start + n) v inside p (⊎_elim (λ a. omega arith) (λ a. omega (arith, more)) h)
      ∙ r.same p (⊎_elim (λ a. inl a) (λ a. inr (omega (arith, more))) h);
}
  where
    more : length (row ++ v ∷ []) ≡ suc n
    more = omega (arith, length-append row (v ∷ []))

    stored : (i : ℕ) → i < length (row ++ v ∷ []) → Dec (i ≡ n) → cell (put new (start + n) v) (start + i) ≡ get_or (row ++ v ∷ []) i 0
    stored i l (yes e) = rw e (put_same r.shaped (start + n) v inside ∙ sym (get_or_at row v [] 0 n long))
    stored i l (no e) =
        let before : i < length row = omega (arith, more) in
        put_other r.shaped (start + n) v inside (start + i) (omega arith) ∙ r.stored i before ∙ sym (get_or-append row (v ∷ []) 0 i before)
