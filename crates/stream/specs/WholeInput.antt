-- Law of the pieces, for each program: read and written one after another, they give what the rules say is written for the whole input,
-- or, where a read fails, for the whole records before that. `blocks` says nothing of a record on standard error.
use Rattle.std.specs.Prelude.{ℕ, suc, ◌*◌, ◌≤◌, ◌≡◌, refl, Bool, List, [], ◌∷◌, length, take}
use Rattle.std.proofs.Common.{◌∙◌, arith}
use Rattle.rules.specs.Record.{record_bytes}
use Rattle.rules.specs.Text.{each_from, most_records, written_from, text_from}
use Rattle.rules.specs.Request.{request_bytes, made_from, refusals_from}
use Rattle.laws.specs.Answers.Pieces.{piece_records, taken_of, pieces_written}
use Rattle.laws.proofs.Answers.Pieces.{whole_written}
use Rattle.pieces.specs.Programs.{size_of, size-some, shown_of, said_of}
use Rattle.pieces.specs.declared.Program.{Program}
use Rattle.pieces.specs.declared.Program.TheVariants.{Blocks, Make}

-- where nothing is written for a record, nothing is for many
nothing_written : (number : ℕ) (records : List (List ℕ)) → each_from (λ _ bytes. []) number records ≡ []
unfolding each_from
nothing_written number [] = refl
nothing_written number (r ∷ rs) = nothing_written (suc number) rs

module _ (turns : ℕ) (failed : Bool) (input : List ℕ) (enough : most_records ≤ turns * piece_records) where
  -- as much of the input as can be read
  abbrev readable : Program → List ℕ
  readable program = take (taken_of (size_of program) failed (length input)) input

  -- what the turns of a program write for a record by `written`, over the whole input
  whole : (program : Program) (written : ℕ → List ℕ → List ℕ)
      → pieces_written (size_of program) written turns 0 failed input ≡ written_from (size_of program) written 0 (readable program)
  whole program written = whole_written (size_of program) written (size-some program) turns 0 failed input (omega arith)

  -- `blocks`: the text of the input on standard output
  pub blocks_shows : pieces_written record_bytes (shown_of Blocks) turns 0 failed input ≡ text_from 0 (readable Blocks)
  blocks_shows = whole Blocks (shown_of Blocks)

  -- and nothing on standard error
  pub blocks_says : pieces_written record_bytes (said_of Blocks) turns 0 failed input ≡ []
  unfolding written_from
  blocks_says = whole Blocks (said_of Blocks) ∙ nothing_written 0 _

  -- `make`: the records on standard output
  pub make_shows : pieces_written request_bytes (shown_of Make) turns 0 failed input ≡ made_from 0 (readable Make)
  make_shows = whole Make (shown_of Make)

  -- and the refusals on standard error
  pub make_says : pieces_written request_bytes (said_of Make) turns 0 failed input ≡ refusals_from 0 (readable Make)
  make_says = whole Make (said_of Make)
