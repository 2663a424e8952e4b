-- `matrix::bytes` meets its contract: the table's rule is computed once, over all 256 bytes.
use mathlib.Core.Path.{refl}
use Rattle.rules.specs.Below.{sum_below, list_below}
use Rattle.rules.specs.Word.{code_bit, codeword}
use Rattle.matrix.proofs.bytes.Goals as goal

pub returns : goal.returns
unfolding sum_below list_below code_bit codeword
returns c = refl
