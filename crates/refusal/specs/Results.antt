-- A `Result` whose error is a refusal, as an answer of the rules: the success as it is read, or the refusal. And what such a result
-- says of an order of refusals, and of every order that begins with it: that it refuses so, or that this part is passed.
use Rattle.std.specs.Prelude.{◌≡◌, List, ◌++◌, Result, Ok, Err}
use Rattle.std.proofs.Common.{sym, ap, ◌∙◌}
use Rattle.std.proofs.Math.Option.{Option}
use Rattle.rules.specs.Refusals as rules
use Rattle.rules.specs.Refusals.{Answer, refused, done, answer}
use Rattle.laws.specs.Answers.Orders.{Passed, passed, answer_refused, refused_so}
use Rattle.refusal.specs.Number.{refusal_of}
use Rattle.refusal.specs.Unique.{refusal_injective}
use Rattle.refusal.specs.declared.Refusal.{Refusal}

-- the answer of a result, whose success is read by a function
abbrev pub answer_by : {A B : Type 0} → (A → B) → Result A Refusal → Answer B
answer_by f (Ok a) = done (f a)
answer_by f (Err r) = refused (refusal_of r)

-- two results with one answer are equal, where the reading of a success determines it
pub answer_by_injective : {A B : Type 0} (f : A → B) → ((a b : A) → f a ≡ f b → a ≡ b) → (r s : Result A Refusal)
    → answer_by f r ≡ answer_by f s → r ≡ s
answer_by_injective f one (Ok a) (Ok b) same = ap Ok (one a b (cc))
answer_by_injective f one (Ok a) (Err q) same = cc
answer_by_injective f one (Err p) (Ok b) same = cc
answer_by_injective f one (Err p) (Err q) same = ap Err (refusal_injective p q (cc))

module _ {A B : Type 0} (f : A → B) {v : Result A Refusal} (order : List (Option rules.Refusal)) (b : B) (given : answer_by f v ≡ answer order b) where
  -- a success: the order is passed, and the success is the one that it leads to
  pub result_passed : {a : A} → v ≡ Ok a → Passed order × (b ≡ f a)
  result_passed e = passed order b _ (sym given ∙ ap (answer_by f) e)

  -- a refusal: an order that begins with this one refuses so
  pub result_refused_first : {C : Type 0} {refusal : Refusal} (more : List (Option rules.Refusal)) (c : C) → v ≡ Err refusal
      → refused (refusal_of refusal) ≡ answer (order ++ more) c
  result_refused_first more c e = sym (answer_refused order more b c _ (sym given ∙ ap (answer_by f) e))

  -- and so does this order, whatever its success
  pub result_refused : {C : Type 0} {refusal : Refusal} (c : C) → v ≡ Err refusal → refused (refusal_of refusal) ≡ answer order c
  result_refused c e = sym (refused_so order b c _ (sym given ∙ ap (answer_by f) e))
