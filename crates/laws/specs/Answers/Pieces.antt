-- Input in pieces: how many bytes a piece may have, which of them count, and whether one comes after it. Law of the pieces: what is
-- written for one after another is what is written for the whole input, or, where a read fails, for the whole records before that.
-- The records may have any size, and anything may be written for one.
-- What rests on the statements here stands in proofs/Answers/Pieces.antt.
use Prim.Native.Nat.{ℕ, zero, suc, ◌+◌, ◌-◌, ◌*◌, ◌/◌, ◌≤◌, ◌<◌, min}
use Rattle.std.specs.Prelude.{◌≡◌, Bool, true, false, ◌&&◌, cond, List, [], ◌++◌, leb, ltb, length, take, drop}
use Rattle.std.proofs.Common.{le_refl, div-mul-le_self}
use borrow.Author.Tests.{lt-ltb, le-ltb, le-leb, lt-leb}
use Rattle.rules.specs.Text.{most_records, written_from}

-- how many records a piece has at the most
abbrev pub piece_records : ℕ
piece_records = 200

-- how many bytes the piece may have that begins with this record number: "it stops there"
abbrev pub piece_bytes : ℕ → ℕ → ℕ
piece_bytes size number = min piece_records (most_records - number) * size

-- how many of the bytes that were got count: a record that a failed read has cut is none
abbrev pub taken_of : ℕ → Bool → ℕ → ℕ
taken_of size failed got = cond failed (got / size * size) got

-- whether a piece comes after so many bytes of one
abbrev pub has_next : ℕ → ℕ → ℕ → Bool
has_next size number got = leb (piece_bytes size number) got && ltb (number + piece_records) most_records

-- what the turns of a program write for the input that is left: `failed` says that reading past its end fails
unfoldable pub pieces_written : ℕ → (ℕ → List ℕ → List ℕ) → ℕ → ℕ → Bool → List ℕ → List ℕ
pieces_written size written zero number failed input = []
pieces_written size written (suc turns) number failed input =
    let piece = take (piece_bytes size number) input in
    let got = length piece in
    let cut = ltb got (piece_bytes size number) && failed in
    written_from size written number (take (taken_of size cut got) piece)
    ++ cond (has_next size number got) (pieces_written size written turns (number + piece_records) failed (drop (piece_bytes size number) input)) []

-- ---- the piece after it

module _ (size number got : ℕ) where
  -- after a piece that is not full there is none
  pub next_short : got < piece_bytes size number → has_next size number got ≡ false
  next_short l = rw (lt-leb (piece_bytes size number) got l)

  -- nor after the last record number
  pub next_last : piece_bytes size number ≤ got → most_records ≤ number + piece_records → has_next size number got ≡ false
  next_last l m = rw (le-leb (piece_bytes size number) got l, le-ltb (number + piece_records) most_records m)

  -- else there is one
  pub next_more : piece_bytes size number ≤ got → number + piece_records < most_records → has_next size number got ≡ true
  next_more l m = rw (le-leb (piece_bytes size number) got l, lt-ltb (number + piece_records) most_records m)

-- no more count than were got
pub taken-le : (size : ℕ) (failed : Bool) (got : ℕ) → taken_of size failed got ≤ got
taken-le size false got = le_refl got
taken-le size true got = div-mul-le_self got size
