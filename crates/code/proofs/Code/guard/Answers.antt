-- `code::Code::guard` meets its contract: past the tests of the code, the figure of its mask.
use Rattle.std.specs.Prelude.{ℕ, ◌*◌, ◌%◌, ◌^◌, ◌≡◌, refl, Option, Some, None, MatchOption, IsSomeAnd}
use Rattle.std.proofs.Common.{sym, ◌∙◌, ap, arith, rules}
use Rattle.std.proofs.Math.Option.{some}
use Rattle.rules.specs.Guard.{fewest_ones, guard_of, guard_for}
use Rattle.rules.specs.Refusals.{done}
use Rattle.rules.specs.Orders.{code_order}
use Rattle.rules.specs.Answers.{guard_answer}
use Rattle.laws.specs.Answers.Orders.{Passed, code_right, passed_done}
use Rattle.word.specs.Words.{size_of}
use Rattle.word.specs.Options.{option_of}
use Rattle.refusal.proofs.Exits.{handed_on}
use Rattle.checks.specs.Passing.{code_passed, code_refused}
use Rattle.code.proofs.Tests.{own_size, fewest_small, guard_fits}
use Rattle.code.proofs.Code.guard.Goals as goal

-- where the code is right, a guard found at the size of its n is the answer
answered : (n mask : ℕ) → Passed (code_order n mask) → (found given : Option ℕ) → option_of found ≡ fewest_ones (size_of n) mask
    → option_of given ≡ guard_for (option_of found) → done (option_of given) ≡ guard_answer n mask
unfolding guard_answer guard_of
answered n mask right found given fewest figure =
    let own = own_size n ((code_right n mask).0 right).small in
    ap done (figure ∙ ap guard_for (rw own at fewest)) ∙ sym (passed_done (code_order n mask) (guard_of n mask) right)

-- an option mapped to figures
figures : (found given : Option ℕ) {P : ℕ → ℕ → Type 0} → MatchOption found (given ≡ None) (λ w. IsSomeAnd given (P w))
    → ((w figure : ℕ) → found ≡ Some w → P w figure → figure ≡ 256 * 2 ^ w) → option_of given ≡ guard_for (option_of found)
figures None given mapped each = ap option_of mapped
figures (Some w) (Some figure) mapped each = ap some (each w figure refl mapped)
figures (Some w) None mapped each = absurd mapped

pub returns-in_err-code : goal.returns-in_err-code
unfolding guard_answer
returns-in_err-code c = handed_on _ _ _ c.from_residual.ensures.1 (code_refused _ _ c.code.ensures _ c.in_err-code.was)

pub map-requires : goal.map-requires
map-requires c x found _ _ = omega (arith, fewest_small _ _ x (sym c.fewest_ones-fewest.ensures ∙ ap option_of found))

pub returns : goal.returns
returns c =
    answered _ _ (code_passed _ _ c.code.ensures c.in_ok-code.was) _ _ c.fewest_ones-fewest.ensures
    (figures _ _ c.map.ensures.cases (λ w figure found mapped.
    let shifted : figure ≡ 256 * 2 ^ w % 2 ^ 32 = search rules in
    shifted ∙ guard_fits w (fewest_small _ _ w (sym c.fewest_ones-fewest.ensures ∙ ap option_of found))))
