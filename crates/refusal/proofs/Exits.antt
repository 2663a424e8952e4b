-- The exit of a `?` in a function whose error is a refusal.
use Rattle.std.specs.Prelude.{◌≡◌, Result, IsErrAnd}
use Rattle.std.proofs.lemmas.Result.{err_from_is_err_and}
use Rattle.rules.specs.Refusals.{Answer, refused}
use Rattle.refusal.specs.Number.{refusal_of}
use Rattle.refusal.specs.Results.{answer_by}
use Rattle.refusal.specs.declared.Refusal.{Refusal}

-- the result hands on the refusal, so its answer is whatever equals that refusal
pub handed_on : {A B : Type 0} (f : A → B) (r : Result A Refusal) (refusal : Refusal) {given : Answer B} → IsErrAnd r (λ e. e ≡ refusal)
    → refused (refusal_of refusal) ≡ given → answer_by f r ≡ given
handed_on f r refusal is same = let err = err_from_is_err_and r is in rw (err.1, err.2) same
