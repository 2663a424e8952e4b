-- Input in pieces: how many bytes a piece may have, which of them count, and whether one comes after it. Law of the pieces: what is
-- written for one after another is what is written for the whole input, or, where a read fails, for the whole records before that.
-- The records may have any size, and anything may be written for one.
use Prim.Native.Nat.{ℕ, zero, suc, ◌+◌, ◌-◌, ◌*◌, ◌/◌, ◌≤◌, ◌<◌, min}
use Rattle.std.specs.Prelude.{◌≡◌, refl, Bool, true, false, cond, List, [], ◌++◌, length, take, drop}
use Rattle.std.proofs.Math.Path.{sym}
use Rattle.std.proofs.Common.{ap, ◌∙◌, append-nil, le_refl, add-mul, arith, length-drop, length-take-le, take-add}
use Rattle.std.proofs.Math.Nat.{mul-add-div_right}
use Rattle.std.proofs.Math.Decide.{dec_lt}
use borrow.Author.Tests.{lt-ltb, le-ltb}
use Rattle.std.proofs.Math.Seq.{take_all, take-take}
use Rattle.rules.specs.Text.{most_records, written_from}
use Rattle.laws.specs.Answers.Pieces.{has_next, next_last, next_more, next_short, piece_bytes, piece_records, pieces_written, taken_of}
use Rattle.laws.specs.Answers.Texts.{written_append, written_stops}

-- what counts of more bytes than a number of whole records
taken-add : (size : ℕ) → 0 < size → (failed : Bool) (records rest : ℕ)
    → taken_of size failed (records * size + rest) ≡ records * size + taken_of size failed rest
taken-add size some false records rest = refl
taken-add size some true records rest = rw (mul-add-div_right some records rest) (add-mul records (rest / size) size)

module _ (size : ℕ) (written : ℕ → List ℕ → List ℕ) where
  -- ---- one turn

  module _ (turns number : ℕ) (failed : Bool) (input : List ℕ) where
    -- what is left does not fill the piece: it is the last one
    turn_short : length input < piece_bytes size number
        → pieces_written size written (suc turns) number failed input
        ≡ written_from size written number (take (taken_of size failed (length input)) input)
    unfolding pieces_written
    turn_short l =
        rw (
          take_all (piece_bytes size number) input (omega arith),
          lt-ltb (length input) (piece_bytes size number) l,
          next_short size number (length input) l,
        )
        (append-nil _)

    -- it fills the piece
    turn_full : piece_bytes size number ≤ length input
        → pieces_written size written (suc turns) number failed input
        ≡ written_from size written number (take (piece_bytes size number) input)
        ++ cond (has_next size number (piece_bytes size number))
        (pieces_written size written turns (number + piece_records) failed (drop (piece_bytes size number) input)) []
    unfolding pieces_written
    turn_full l =
        let most = piece_bytes size number in
        rw (length-take-le most input l, le-ltb most most (le_refl most), take-take most most input (le_refl most))

  -- ---- all turns

  module _ (some : 0 < size) where
    -- cut after whole records that the input has, what is written for it is that for both parts
    written_cut : (failed : Bool) (number records : ℕ) (input : List ℕ) → records * size ≤ length input
        → written_from size written number (take (taken_of size failed (length input)) input)
        ≡ written_from size written number (take (records * size) input)
        ++ written_from size written (number + records)
        (take (taken_of size failed (length (drop (records * size) input))) (drop (records * size) input))
    written_cut failed number records input l =
        let cut = records * size in
        let rest = taken_of size failed (length (drop cut input)) in
        let e : taken_of size failed (length input) ≡ cut + rest =
        ap (taken_of size failed) (omega (arith, length-drop cut input)) ∙ taken-add size some failed records (length (drop cut input))
        in
        rw (e, take-add cut rest input)
        (written_append size written some number records (take cut input) (take rest (drop cut input)) (length-take-le cut input l))

    -- so many turns as may be needed write what is written for the input, as far as it can be read
    pub whole_written : (turns number : ℕ) (failed : Bool) (input : List ℕ) → most_records ≤ number + turns * piece_records
        → pieces_written size written turns number failed input
        ≡ written_from size written number (take (taken_of size failed (length input)) input)
    unfolding pieces_written
    whole_written zero number failed input enough = sym (written_stops size written number _ (omega arith))
    whole_written (suc turns) number failed input enough =
        go (dec_lt (length input) most) (dec_lt (number + piece_records) most_records)
        (whole_written turns (number + piece_records) failed after (omega arith))
      where
        records : ℕ
        records = min piece_records (most_records - number)

        most : ℕ
        most = piece_bytes size number

        after : List ℕ
        after = drop most input

        whole : List ℕ
        whole = written_from size written number (take (taken_of size failed (length input)) input)

        left : List ℕ
        left = take (taken_of size failed (length after)) after

        go : Dec (length input < most) → Dec (number + piece_records < most_records)
            → pieces_written size written turns (number + piece_records) failed after ≡ written_from size written (number + piece_records) left
            → pieces_written size written (suc turns) number failed input ≡ whole
        go (yes short) more rest = turn_short turns number failed input short
        go (no full) (yes more) rest =
            let e : number + piece_records ≡ number + records = omega arith in
            turn_full turns number failed input (omega arith)
            ∙ rw (next_more size number most (le_refl most) more, rest, e) (sym (written_cut failed number records input (omega arith)))
        go (no full) (no last) rest =
            turn_full turns number failed input (omega arith)
            ∙ rw (next_last size number most (le_refl most) (omega arith))
            (sym
            (written_cut failed number records input (omega arith)
            ∙ rw (written_stops size written (number + records) left (omega arith)) refl))
