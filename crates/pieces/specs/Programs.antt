-- The programs over records in the words of the rules: how long a record of each is, what it writes for a record to standard output
-- and to standard error, and how much that is at the most.
use Rattle.std.specs.Prelude.{ℕ, ◌+◌, ◌*◌, ◌/◌, ◌<◌, Bool, ◌&&◌, List, [], leb}
use Rattle.std.proofs.Common.{arith}
use Rattle.rules.specs.Record.{record_bytes}
use Rattle.rules.specs.Text.{record_line, written_from}
use Rattle.rules.specs.Request.{request_bytes, request_answer, record_made, refusal_said}
use Rattle.lines.specs.Lines.{longest}
use Rattle.pieces.specs.declared.Program.{Program}
use Rattle.pieces.specs.declared.Program.TheVariants.{Blocks, Make}

-- the bytes of a record
abbrev pub size_of : Program → ℕ
size_of Blocks = record_bytes
size_of Make = request_bytes

-- there are some
pub size-some : (program : Program) → 0 < size_of program
size-some Blocks = omega arith
size-some Make = omega arith

-- what is written to standard output for the record with this number
abbrev pub shown_of : Program → ℕ → List ℕ → List ℕ
shown_of Blocks number bytes = record_line number bytes
shown_of Make number bytes = record_made (request_answer bytes)

-- what is written to standard error
abbrev pub said_of : Program → ℕ → List ℕ → List ℕ
said_of Blocks number bytes = []
said_of Make number bytes = refusal_said (request_answer bytes)

-- the bytes of the longest line of a refusal, whose number has two digits
abbrev pub longest_refusal : ℕ
longest_refusal = 3

-- the bytes of each at the most
abbrev pub longest_shown : Program → ℕ
longest_shown Blocks = longest
longest_shown Make = record_bytes

abbrev pub longest_said : Program → ℕ
longest_said Blocks = 0
longest_said Make = longest_refusal

-- so many records as bytes may hold, a short last one among them
abbrev pub records_in : Program → ℕ → ℕ
records_in program len = len / size_of program + 1

-- whether buffers have room for what may be written for so many bytes
abbrev pub has_room : Program → ℕ → ℕ → ℕ → Bool
has_room program len out said =
    leb (records_in program len * longest_shown program) out && leb (records_in program len * longest_said program) said

-- what is written for bytes whose first record is numbered `number`, to standard output and to standard error
abbrev pub shown_from : Program → ℕ → List ℕ → List ℕ
shown_from program = written_from (size_of program) (shown_of program)

abbrev pub said_from : Program → ℕ → List ℕ → List ℕ
said_from program = written_from (size_of program) (said_of program)
