-- The input in pieces: the number of the piece after one.
use Rattle.std.specs.Prelude.{ℕ, ◌+◌, cond, Option, None, Some}
use Rattle.laws.specs.Answers.Pieces.{piece_records, has_next}
use Rattle.pieces.specs.Programs.{size_of}
use Rattle.pieces.specs.declared.Program.{Program}

-- the number of the next piece after so many bytes of one
abbrev pub next_piece : Program → ℕ → ℕ → Option ℕ
next_piece program number got = cond (has_next (size_of program) number got) (Some (number + piece_records)) None
