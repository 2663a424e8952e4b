-- `pieces::each::make` meets its contract.
use mathlib.Core.Path.{◌≡◌, refl, sym, ◌∙◌, ap}
use native.Mathlib.Omega.{arith}
use Rattle.std.specs.Prelude.{Ok}
use Rattle.laws.proofs.Answers.Requests.{request_right}
use Rattle.request.specs.Reading.{asked_of}
use Rattle.pieces.proofs.Made.{wrote_ok, record_put}
use Rattle.pieces.proofs.each.make.Goals as goal

pub unwrap-requires : goal.unwrap-requires
unwrap-requires c =
    let asked = sym c.read.ensures ∙ ap asked_of c.in-Ok.is in
    let written : c.write.result ≡ Ok tt = wrote_ok _ (request_right _ _ asked).written (omega arith) c.write.ensures in
    rw written refl

pub returns-in-Ok-clause-shown : goal.returns-in-Ok-clause-shown
returns-in-Ok-clause-shown c =
    let asked = sym c.read.ensures ∙ ap asked_of c.in-Ok.is in
    rw asked (record_put _ (request_right _ _ asked).written _ _ (omega arith) c.write.ensures)
