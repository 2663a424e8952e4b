-- `matrix::byte` meets its contract: the entry of the table of all bytes.
use Rattle.std.specs.Prelude.{ℕ, List, get_or}
use Rattle.std.proofs.Common.{ap, ◌∙◌}
use Rattle.rules.specs.Word.{codeword}
use Rattle.laws.specs.Numbers.Each.{each_at}
use Rattle.matrix.proofs.byte.Goals as goal

pub returns : goal.returns
returns c = ap (λ (l : List ℕ). get_or l c.args.b 0) c.bytes.ensures ∙ each_at (codeword 3) 0 256 c.args.b c.requires
