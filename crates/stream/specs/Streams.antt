-- What a program does to a reader and a writer whose bytes are known: what it has read, and what it has written for that.
use Rattle.std.specs.Prelude.{ℕ, ◌+◌, ◌≤◌, ◌<◌, ◌≡◌, true, Option, None, Some, IfSome, Result, Ok, Err, List, length, take}
use Rattle.std.specs.Io.KnownBytes.{Consumes, Appends, IsAtEnd}
use Rattle.rules.specs.Text.{most_records}
use Rattle.laws.specs.Answers.Pieces.{piece_records, piece_bytes, taken_of}
use Rattle.pieces.specs.Programs.{size_of, shown_from}
use Rattle.pieces.specs.declared.Program.{Program}
use Rattle.stream.specs.declared.calls.Failure.{Failure}
use Rattle.stream.specs.declared.calls.Failure.TheVariants.{NotRead, NotWritten}

module _ (program : Program) (number : ℕ) (input left output after : Option (List ℕ)) where
  -- bytes were read, and what the program writes for those of them that count
  abbrev pub Moves : (bytes counted : List ℕ) → Type 0
  Moves bytes counted = Consumes input left bytes × Appends output after (shown_from program number counted)

  -- of bytes that a failed read has cut, those of whole records count
  abbrev pub MovesCut : Type 0
  MovesCut = (bytes : List ℕ) × Moves bytes (take (taken_of (size_of program) true (length bytes)) bytes)

  -- a full piece, and records that may still be read
  abbrev pub MovesFull : ℕ → Type 0
  MovesFull next =
      (bytes : List ℕ) × Moves bytes bytes × (length bytes ≡ piece_bytes (size_of program) number)
      × (next ≡ number + piece_records) × (next < most_records)

  -- a piece after which the input has ended, or the record numbers have
  abbrev pub MovesLast : Type 0
  MovesLast =
      (bytes : List ℕ) × Moves bytes bytes × (length bytes ≤ piece_bytes (size_of program) number)
      × (length bytes < piece_bytes (size_of program) number → IsAtEnd left)
      × (piece_bytes (size_of program) number ≤ length bytes → most_records ≤ number + piece_records)

  -- the piece that begins with this number, by what comes after it
  abbrev pub Passes : Result (Option ℕ) Failure → Type 0
  Passes (Ok (Some next)) = MovesFull next
  Passes (Ok None) = MovesLast
  Passes (Err (NotRead failure)) = MovesCut
  Passes (Err (NotWritten failure)) = Unit {0}

-- all pieces, by how the program ended: at the end it has written what the rules say of the whole input
abbrev pub Runs : Program → (input left output after : Option (List ℕ)) → Result (Unit {0}) Failure → Type 0
Runs program input left output after (Ok _) = IfSome input (λ bytes. Appends output after (shown_from program 0 bytes))
Runs program input left output after (Err (NotRead failure)) = MovesCut program 0 input left output after
Runs program input left output after (Err (NotWritten failure)) = Unit {0}
