-- `code::Code::reed_muller` meets its contract.
use Rattle.code.proofs.Code.reed_muller.Goals as goal

pub returns : goal.returns
returns c = λ i. record { n = 6; mask = c.from.ensures i }
