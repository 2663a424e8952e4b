-- What taking a reading hands back, from what the step without the assembler answers.
use mathlib.Core.Path.{◌≡◌, refl, sym}
use Rattle.std.specs.Prelude.{Result, Ok, Err}
use Rattle.rules.specs.Assembling.{Reading, take_reading}
use Rattle.rules.specs.Orders.{take_order}
use Rattle.rules.specs.Answers.{take_answer, take_left}
use Rattle.laws.specs.Answers.Orders.{passed_done}
use Rattle.refusal.specs.Results.{answer_by, result_passed, result_refused}
use Rattle.refusal.specs.declared.Refusal.{Refusal}
use Rattle.light.specs.Values.{assembler_of, Hands}
use Rattle.light.specs.Steps.{taken_answer}
use Rattle.light.specs.declared.Assembler as code
use Rattle.light.specs.declared.Refused.{Refused}

module _ (a : code.Assembler) (reading : Reading) (r : Result code.Assembler Refused) where
  -- a success is handed back as it is, and a refusal with the assembler that came in
  pub handed : (t : Result code.Assembler Refusal) → answer_by assembler_of t ≡ taken_answer (assembler_of a) reading
      → ((b : code.Assembler) → t ≡ Ok b → r ≡ Ok b) → ((why : Refusal) → t ≡ Err why → r ≡ Err (record { why = why; assembler = a }))
      → Hands (take_answer (assembler_of a) reading) (take_left (assembler_of a) reading) r
  unfolding take_answer take_left
  handed (Ok b) given success refusal =
      let p = result_passed assembler_of (take_order (assembler_of a) reading) (take_reading (assembler_of a) reading) given refl in
      let e = passed_done (take_order (assembler_of a) reading) (tt {0}) p.0 in
      rw (success b refl) (record { verdict = sym e; left = rw e (sym p.1) })
  handed (Err why) given success refusal =
      let e = result_refused assembler_of (take_order (assembler_of a) reading) (take_reading (assembler_of a) reading) given (tt {0}) refl in
      rw (refusal why refl) (record { verdict = e; left = rw (← e) refl })
