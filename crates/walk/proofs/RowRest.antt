-- The candidates that a row holds from an entry on, entry by entry.
use Prim.Native.Nat.{ℕ, suc, ◌+◌, ◌^◌, ◌≤◌, ◌<◌}
use mathlib.Core.Path.{◌≡◌, ap, ◌∙◌}
use mathlib.Core.Bool.{true, false}
use mathlib.Core.List.{List, [], ◌∷◌}
use native.Mathlib.Numerals.{add-one}
use lib.ListN.{drop, drop_of_length-le}
use lib.Seq.{drop-cons}
use Rattle.rules.specs.Walk.{Candidate}
use Rattle.laws.specs.Numbers.Each.{each-length, each_at}
use Rattle.laws.specs.Seats.SeatedRow.{is_open, entry_candidate, entry_candidates}
use Rattle.rows.specs.Table.{entry_at, row_at}

module _ (table : List (List ℕ)) (n F size k near forced shut : ℕ) where
  -- the candidates from entry j on
  abbrev pub rest : ℕ → List Candidate
  rest j = entry_candidates n F size k near forced shut (drop j (row_at table size k))

  from : (j : ℕ) → j < 2 ^ size → drop j (row_at table size k) ≡ entry_at table size k j ∷ drop (j + 1) (row_at table size k)
  from j h =
      rw (add-one j)
      (drop-cons (row_at table size k) j 0 (rw (each-length (entry_at table size k) (2 ^ size)) h)
      ∙ ap (λ (e : ℕ). e ∷ drop (suc j) (row_at table size k)) (each_at (entry_at table size k) 0 (2 ^ size) j h))

  pub rest_open : (j : ℕ) → j < 2 ^ size → is_open shut forced (entry_at table size k j) ≡ true
      → rest j ≡ entry_candidate n F size k near forced (entry_at table size k j) ∷ rest (j + 1)
  unfolding entry_candidates
  rest_open j h free = rw (from j h, free)

  pub rest_shut : (j : ℕ) → j < 2 ^ size → is_open shut forced (entry_at table size k j) ≡ false → rest j ≡ rest (j + 1)
  unfolding entry_candidates
  rest_shut j h closed = rw (from j h, closed)

  pub rest_end : (j : ℕ) → 2 ^ size ≤ j → rest j ≡ []
  unfolding entry_candidates
  rest_end j h = rw (drop_of_length-le (row_at table size k) {i = j} (rw (each-length (entry_at table size k) (2 ^ size)) h))
