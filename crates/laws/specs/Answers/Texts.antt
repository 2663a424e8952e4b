-- What is written for bytes: for none, for the first record apart, from a place on, past the last record number, and cut after
-- whole records: what is written for the first part, then for the second from the next number on. The records may have any size,
-- and anything may be written for one.
-- What rests on the statements here stands in proofs/Answers/Texts.antt.
use Prim.Native.Nat.{ℕ, zero, suc, ◌+◌, ◌-◌, ◌*◌, ◌≤◌, ◌<◌, min}
use Rattle.std.specs.Prelude.{◌≡◌, drop}
use Rattle.std.proofs.Math.Path.{refl, ap}
use Rattle.std.proofs.Common.{sym, ◌∙◌, add-zero}
use mathlib.Core.List.{List, [], ◌∷◌, ◌++◌, append_assoc}
use Rattle.std.proofs.Math.Nat.{sub-zero, zero-sub, zero-mul, suc-mul}
use Rattle.std.proofs.Math.Decide.{dec_le}
use native.Mathlib.Omega.{arith}
use Rattle.std.proofs.Math.ListN.{length, take, length-drop}
use Rattle.std.proofs.Math.Seq.{take-append-le, drop-append-le}
use Rattle.rules.specs.Text.{records_up_to, each_from, most_records, written_from}

-- ---- the records of bytes

module _ (size : ℕ) where
  -- no bytes hold no record
  records_none : (most : ℕ) → records_up_to size most [] ≡ []
  unfolding records_up_to
  records_none zero = refl
  records_none (suc most) = refl

  module _ (some : 0 < size) where
    -- the records of whole records that are followed by other bytes
    records_append : (whole most : ℕ) (a b : List ℕ) → length a ≡ whole * size
        → records_up_to size most (a ++ b) ≡ records_up_to size most a ++ records_up_to size (most - whole) b
    unfolding records_up_to
    records_append zero most [] b e = rw (records_none most, sub-zero)
    records_append zero most (x ∷ a) b e = absurd (omega (arith, zero-mul size))
    records_append (suc whole) zero a b e = rw zero-sub
    records_append (suc whole) (suc most) [] b e = absurd (omega (arith, suc-mul whole size))
    records_append (suc whole) (suc most) (x ∷ a) b e =
        let r = x ∷ a in
        let left : suc most - suc whole ≡ most - whole = omega arith in
        let more : length r ≡ whole * size + size = e ∙ suc-mul whole size in
        rw (left, take-append-le size r b (omega (arith, more)), drop-append-le size r b (omega (arith, more)))
        (ap (λ (rs : List (List ℕ)). take size r ∷ rs) (records_append whole most (drop size r) b (rw length-drop (omega (arith, more)))))

    -- how many there are
    records_count : (whole most : ℕ) (a : List ℕ) → length a ≡ whole * size → length (records_up_to size most a) ≡ min most whole
    unfolding records_up_to
    records_count zero most [] e = rw (records_none most) (omega arith)
    records_count zero most (x ∷ a) e = absurd (omega (arith, zero-mul size))
    records_count (suc whole) zero a e = omega arith
    records_count (suc whole) (suc most) [] e = absurd (omega (arith, suc-mul whole size))
    records_count (suc whole) (suc most) (x ∷ a) e =
        let more : length (x ∷ a) ≡ whole * size + size = e ∙ suc-mul whole size in
        omega (arith, records_count whole most (drop size (x ∷ a)) (rw length-drop (omega (arith, more))))

-- where it ends: after its bytes, or where the bytes end
abbrev pub record_end : ℕ → List ℕ → ℕ → ℕ
record_end size bytes start = min (start + size) (length bytes)

-- what is written for records that are followed by others
each_append : (written : ℕ → List ℕ → List ℕ) (number : ℕ) (rs ss : List (List ℕ))
    → each_from written number (rs ++ ss) ≡ each_from written number rs ++ each_from written (number + length rs) ss
unfolding each_from
each_append written number [] ss = rw add-zero
each_append written number (r ∷ rs) ss =
    let e : number + suc (length rs) ≡ suc number + length rs = omega arith in
    rw (e, append_assoc) (ap (λ (t : List ℕ). written number r ++ t) (each_append written (suc number) rs ss))

module _ (size : ℕ) (written : ℕ → List ℕ → List ℕ) where
  -- past the last record nothing is written
  pub written_stops : (number : ℕ) (bytes : List ℕ) → most_records ≤ number → written_from size written number bytes ≡ []
  unfolding written_from records_up_to each_from
  written_stops number bytes l =
      let e : most_records - number ≡ 0 = omega arith in
      rw e

  -- for no bytes nothing is: "empty input prints nothing"
  pub written_none : (number : ℕ) → written_from size written number [] ≡ []
  unfolding written_from each_from
  written_none number = rw (records_none size (most_records - number))

  -- any cutting of bytes after whole records gives the same
  pub written_append : 0 < size → (number whole : ℕ) (a b : List ℕ) → length a ≡ whole * size
      → written_from size written number (a ++ b) ≡ written_from size written number a ++ written_from size written (number + whole) b
  unfolding written_from records_up_to each_from
  written_append some number whole a b e =
      rw (records_append size some whole most a b e)
      (each_append written number (records_up_to size most a) (records_up_to size (most - whole) b)
      ∙ ap (λ (t : List ℕ). each_from written number (records_up_to size most a) ++ t) (go (dec_le whole most)))
    where
      most : ℕ
      most = most_records - number

      go : Dec (whole ≤ most)
          → each_from written (number + length (records_up_to size most a)) (records_up_to size (most - whole) b)
          ≡ written_from size written (number + whole) b
      go (yes all) =
          let next : number + length (records_up_to size most a) ≡ number + whole = omega (arith, records_count size some whole most a e) in
          let left : most - whole ≡ most_records - (number + whole) = omega arith in
          rw (next, left)
      go (no more) =
          let none : most - whole ≡ 0 = omega arith in
          rw none (sym (written_stops (number + whole) b (omega arith)))
