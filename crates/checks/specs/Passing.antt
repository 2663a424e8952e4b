-- What a verdict says of its own order and of every order that begins with it: that it refuses so, or that this part is passed.
use Rattle.std.specs.Prelude.{ℕ, ◌≡◌, List, ◌++◌, Result, Ok, Err}
use Rattle.std.proofs.Math.Option.{Option}
use Rattle.rules.specs.Refusals as rules
use Rattle.rules.specs.Orders.{code_order, folded_order}
use Rattle.laws.specs.Answers.Orders.{Passed}
use Rattle.refusal.specs.Number.{refusal_of}
use Rattle.refusal.specs.Results.{result_passed, result_refused_first, result_refused}
use Rattle.refusal.specs.declared.Refusal.{Refusal}
use Rattle.checks.specs.Verdicts.{verdict_of, code_verdict, folded_verdict}

module _ {v : Result (Unit {0}) Refusal} where
  -- 1, 3
  module _ (n mask : ℕ) (given : verdict_of v ≡ code_verdict n mask) where
    -- right: these tests are passed
    pub code_passed : v ≡ Ok tt → Passed (code_order n mask)
    unfolding code_verdict
    code_passed e = (result_passed _ (code_order n mask) tt given e).0

    -- refused: an order that begins with these tests refuses so
    pub code_refused_first : {A : Type 0} {refusal : Refusal} (more : List (Option rules.Refusal)) (a : A) → v ≡ Err refusal
        → rules.refused (refusal_of refusal) ≡ rules.answer (code_order n mask ++ more) a
    unfolding code_verdict
    code_refused_first = result_refused_first _ (code_order n mask) tt given

    -- and so does the order of these tests alone
    pub code_refused : {A : Type 0} {refusal : Refusal} (a : A) → v ≡ Err refusal
        → rules.refused (refusal_of refusal) ≡ rules.answer (code_order n mask) a
    unfolding code_verdict
    code_refused = result_refused _ (code_order n mask) tt given

  -- 1, 3, 4, 5
  module _ (n mask folding : ℕ) (given : verdict_of v ≡ folded_verdict n mask folding) where
    -- right: these tests are passed
    pub folded_passed : v ≡ Ok tt → Passed (folded_order n mask folding)
    unfolding folded_verdict
    folded_passed e = (result_passed _ (folded_order n mask folding) tt given e).0

    -- refused: an order that begins with these tests refuses so
    pub folded_refused_first : {A : Type 0} {refusal : Refusal} (more : List (Option rules.Refusal)) (a : A) → v ≡ Err refusal
        → rules.refused (refusal_of refusal) ≡ rules.answer (folded_order n mask folding ++ more) a
    unfolding folded_verdict
    folded_refused_first = result_refused_first _ (folded_order n mask folding) tt given

    -- and so does the order of these tests alone
    pub folded_refused : {A : Type 0} {refusal : Refusal} (a : A) → v ≡ Err refusal
        → rules.refused (refusal_of refusal) ≡ rules.answer (folded_order n mask folding) a
    unfolding folded_verdict
    folded_refused = result_refused _ (folded_order n mask folding) tt given
