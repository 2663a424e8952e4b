-- The turns of a program over a reader and a writer whose bytes are known: what has been read and written after so many records,
-- and what that comes to where the program ends. The records may have any size, and anything may be written for one.
use Prim.Native.Nat.{ℕ, ◌+◌, ◌-◌, ◌*◌, ◌/◌, ◌≤◌, ◌<◌, min}
use Rattle.std.specs.Prelude.{◌≡◌, true, Option, None, Some, IfSome, List, [], ◌++◌, length, take, drop}
use Rattle.std.proofs.Common.{ap, sym, ◌∙◌, subst, append-nil, length-append, add-mul, arith}
use Rattle.std.proofs.Math.Nat.{mul-add-div_right}
use Rattle.std.proofs.Math.Decide.{dec_lt}
use Rattle.std.specs.Io.KnownBytes.{Consumes, Appends, IsAtEnd}
use Rattle.std.proofs.KnownBytes.{Consumes-nil, Appends-nil, Consumes-trans, Appends-trans}
use lib.Seq.{take-add, take_at, drop_at}
use Rattle.rules.specs.Text.{most_records, written_from}
use Rattle.laws.specs.Answers.Texts.{written_stops, written_none, written_append}
use Rattle.laws.specs.Answers.Pieces.{piece_records, piece_bytes, taken_of}

-- the front of two lists that ends in the second
take-past : (front rest : List ℕ) (n k : ℕ) → length front ≡ n → take (n + k) (front ++ rest) ≡ front ++ take k rest
take-past front rest n k long =
    take-add n k (front ++ rest)
    ∙ ap (λ l. l ++ take k (drop n (front ++ rest))) (take_at front rest n long)
    ∙ ap (λ l. front ++ take k l) (drop_at front rest n long)

module _ (size : ℕ) (some : 0 < size) (written : ℕ → List ℕ → List ℕ) (input output : Option (List ℕ)) where
  -- so many whole records were read, and what is written for them was written
  abbrev pub Turned : ℕ → Option (List ℕ) → Option (List ℕ) → Type 0
  Turned number left after =
      (bytes : List ℕ) × (length bytes ≡ number * size) × Consumes input left bytes × Appends output after (written_from size written 0 bytes)

  -- before the first
  pub turned_none : Turned 0 input output
  turned_none = ([], omega arith, Consumes-nil input, rw (written_none size written 0) (Appends-nil output))

  module _ (number : ℕ) (mid between left after : Option (List ℕ)) (turned : Turned number mid between) (bytes : List ℕ)
      (read : Consumes mid left bytes) where
    abbrev before : List ℕ
    before = turned.0

    abbrev all : List ℕ
    all = before ++ bytes

    all_read : Consumes input left all
    all_read = Consumes-trans input mid left before bytes turned.2 read

    -- what was written for the records before, and then for others, was written for all of them
    all_written : (counted : List ℕ) → Appends between after (written_from size written number counted)
        → Appends output after (written_from size written 0 (before ++ counted))
    all_written counted put =
        let from : 0 + number ≡ number = omega arith in
        let parts : written_from size written 0 (before ++ counted)
        ≡ written_from size written 0 before ++ written_from size written number counted =
        written_append size written some 0 number before counted turned.1
        ∙ ap (λ n. written_from size written 0 before ++ written_from size written n counted) from
        in
        subst (Appends output after) (sym parts)
        (Appends-trans output between after _ _ turned.3 put)

    -- a full piece
    pub turned_more : length bytes ≡ piece_bytes size number → number + piece_records < most_records
        → Appends between after (written_from size written number bytes) → Turned (number + piece_records) left after
    turned_more full more put =
        let few : min piece_records (most_records - number) ≡ piece_records = omega arith in
        let long : length bytes ≡ piece_records * size = full ∙ ap (λ n. n * size) few in
        (all, length-append before bytes ∙ omega (arith, turned.1, long, add-mul number piece_records size), all_read, all_written bytes put)

    -- a last piece: the input has ended, or the record numbers have
    pub turned_all : length bytes ≤ piece_bytes size number → (length bytes < piece_bytes size number → IsAtEnd left)
        → (piece_bytes size number ≤ length bytes → most_records ≤ number + piece_records) → number ≤ most_records
        → Appends between after (written_from size written number bytes)
        → IfSome input (λ whole. Appends output after (written_from size written 0 whole))
    turned_all few ends last counted put = go input left all_read ends
      where
        shown : Appends output after (written_from size written 0 all)
        shown = all_written bytes put

        same : (rest : List ℕ) → (length bytes < piece_bytes size number → rest ≡ [])
            → written_from size written 0 all ≡ written_from size written 0 (all ++ rest)
        same rest end = by (dec_lt (length bytes) (piece_bytes size number))
          where
            by : Dec (length bytes < piece_bytes size number) → written_from size written 0 all ≡ written_from size written 0 (all ++ rest)
            by (yes short) = ap (written_from size written 0) (sym (append-nil all) ∙ ap (λ l. all ++ l) (sym (end short)))
            by (no full) =
                let records : number + min piece_records (most_records - number) ≡ most_records = omega (arith, last (omega arith)) in
                let piece : length bytes ≡ min piece_records (most_records - number) * size = omega arith in
                let long : length all ≡ most_records * size =
                length-append before bytes
                ∙ omega (arith, turned.1, piece, add-mul number (min piece_records (most_records - number)) size, ap (λ n. n * size) records)
                in
                sym
                (written_append size written some 0 most_records all rest long
                ∙ ap (λ l. written_from size written 0 all ++ l) (written_stops size written (0 + most_records) rest (omega arith))
                ∙ append-nil (written_from size written 0 all))

        go : (whole : Option (List ℕ)) (rest : Option (List ℕ)) → Consumes whole rest all
            → (length bytes < piece_bytes size number → IsAtEnd rest) → IfSome whole (λ l. Appends output after (written_from size written 0 l))
        go None rest consumed end = tt
        go (Some whole) None consumed end = absurd consumed
        go (Some whole) (Some rest) consumed end =
            subst (λ l. Appends output after (written_from size written 0 l)) (sym consumed) (subst (Appends output after) (same rest end) shown)

    -- a piece that a failed read has cut: the whole records that were read
    pub turned_cut : Appends between after (written_from size written number (take (taken_of size true (length bytes)) bytes))
        → Consumes input left all × Appends output after (written_from size written 0 (take (taken_of size true (length all)) all))
    turned_cut put =
        let taken = taken_of size true (length bytes) in
        let long : length all ≡ number * size + length bytes = length-append before bytes ∙ ap (λ n. n + length bytes) turned.1 in
        let whole : taken_of size true (length all) ≡ number * size + taken =
        ap (taken_of size true) long
        ∙ rw (mul-add-div_right some number (length bytes)) (add-mul number (length bytes / size) size)
        in
        let part : take (taken_of size true (length all)) all ≡ before ++ take taken bytes =
        ap (λ n. take n all) whole ∙ take-past before bytes (number * size) taken turned.1
        in
        (all_read, subst (λ l. Appends output after (written_from size written 0 l)) (sym part) (all_written (take taken bytes) put))
