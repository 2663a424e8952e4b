-- A verdict as an answer of the rules, and what each check answers: the first refusal of its order, or nothing more.
use Rattle.std.specs.Prelude.{ℕ, Result}
use Rattle.rules.specs.Refusals.{Answer, answer}
use Rattle.rules.specs.Orders.{code_order, folded_order}
use Rattle.refusal.specs.declared.Refusal.{Refusal}
use Rattle.refusal.specs.Results.{answer_by}

-- a verdict as an answer of the rules, whose success says nothing
abbrev pub verdict_of : Result (Unit {0}) Refusal → Answer (Unit {0})
verdict_of = answer_by (λ success. success)

-- of an n and a mask: 1, 3
unfoldable pub code_verdict : ℕ → ℕ → Answer (Unit {0})
code_verdict n mask = answer (code_order n mask) tt

-- of an n, a mask and a folding: 1, 3, 4, 5
unfoldable pub folded_verdict : ℕ → ℕ → ℕ → Answer (Unit {0})
folded_verdict n mask folding = answer (folded_order n mask folding) tt
