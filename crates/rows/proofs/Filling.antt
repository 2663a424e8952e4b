-- The groups' rows in the table, group by group: each is stored behind those before it.
use Prim.Native.Nat.{ℕ, ◌+◌, ◌*◌, ◌^◌, ◌≤◌, ◌<◌}
use mathlib.Core.Path.{◌≡◌, sym, ◌∙◌}
use mathlib.Core.Logic.{inl}
use mathlib.Core.List.{List}
use native.Mathlib.Nat.{suc-mul, mul-le-mul_right}
use native.Mathlib.Decide.{ℕ_discrete, dec_lt}
use native.Mathlib.Omega.{arith}
use lib.ListN.{get_or}
use lib.Pow.{pow_mono, pow_pos}
use Rattle.laws.specs.Rows.SortedRows.{row_of, row-length}
use Rattle.rows.specs.Adding.{Sized, adds, RowsRight}
use Rattle.rows.specs.declared.seat.Added.{Added}
use Rattle.rows.specs.Cells.{cell, Room, Placed, Kept, Built, Filled}
use Rattle.rows.proofs.Cells.{cell_at}
use Rattle.rows.proofs.Places.{place}

-- one of n places before another
pub place-before : {i k : ℕ} (n : ℕ) → i < k → i * n + n ≤ k * n
place-before {i} n l = rw (← suc-mul i n) (mul-le-mul_right n l)

-- the row of a group's first t slots has room at its place
pub place_room : {groups size k t : ℕ} → Sized groups size → k < groups → t ≤ size → Room (k * 2 ^ size) (2 ^ t)
place_room {size = size} g l few =
    let p = place g l in
    let some = pow_pos size in
    record { inside = omega (arith, p.start); edge = omega (arith, p.edge, pow_mono few) }

module _ {seats : List Added} {size t first last : ℕ} {old table : List (List ℕ)} where
  -- one row more
  pub filled_more : Filled seats size t first last old table → first ≤ last → t ≤ size → {new : List (List ℕ)}
      → Placed table (last * 2 ^ size) (row_of (adds seats (last * size)) t) new → Filled seats size t first (last + 1) old new
  filled_more f above few {new} r = record {
    shaped = r.shaped;
    kept = λ p l. r.same p (inl (omega (arith, mul-le-mul_right (2 ^ size) above))) ∙ f.kept p l;
    built = λ k j low high l. built k j low high l (ℕ_discrete k last);
  }
    where
      built : (k j : ℕ) → first ≤ k → k < last + 1 → j < 2 ^ t → Dec (k ≡ last)
          → cell new (k * 2 ^ size + j) ≡ get_or (row_of (adds seats (k * size)) t) j 0
      built k j low high l (yes e) = rw e (r.stored j (rw (row-length (adds seats (last * size)) t) l))
      built k j low high l (no n) =
          let before : k < last = omega arith in
          r.same (k * 2 ^ size + j) (inl (omega (arith, place-before (2 ^ size) before, pow_mono few))) ∙ f.built k j low before l

  -- rows stored into a table that was kept so far
  pub filled_kept : Kept old (first * 2 ^ size) table → {new : List (List ℕ)} → Filled seats size t first last table new
      → Filled seats size t first last old new
  filled_kept h f = record { shaped = f.shaped; kept = λ p l. f.kept p l ∙ h p l; built = f.built }

-- rows behind those that stand
pub built_more : {seats : List Added} {size k last : ℕ} {table new : List (List ℕ)} → Filled seats size size k last table new
    → Built seats size size 0 k table → Built seats size size 0 last new
built_more {seats} {size} {k} {new = new} f b i j low high l = go (dec_lt i k)
  where
    go : Dec (i < k) → cell new (i * 2 ^ size + j) ≡ get_or (row_of (adds seats (i * size)) size) j 0
    go (yes h) = f.kept (i * 2 ^ size + j) (omega (arith, place-before (2 ^ size) h)) ∙ b i j low h l
    go (no h) = f.built i j (omega arith) high l

-- all rows
pub rows_right : (seats : List Added) {groups size last : ℕ} (table : List (List ℕ)) → Sized groups size → groups ≤ last
    → Built seats size size 0 last table → RowsRight seats groups size table
unfolding RowsRight
rows_right seats {size = size} table g all b k j h l =
    sym (cell_at table (k * 2 ^ size) j (omega (arith, (place g h).edge))) ∙ b k j (omega arith) (omega arith) l
