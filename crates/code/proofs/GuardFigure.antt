-- The guard that `code::Code::guard` answers is the guard that the theorems on decoding speak of; that there is none means K = 0.
-- The contract is that of src/, as the check reads it; the argument is the code.
use Rattle.std.specs.Prelude.{ℕ, ◌≡◌, Ok, Some, None}
use Rattle.std.proofs.Common.{sym, ap, ◌∙◌}
use Rattle.std.proofs.Math.Option.{Option, none, some}
use Rattle.rules.specs.Word.{message_bits}
use Rattle.rules.specs.Guard.{guard_of}
use Rattle.rules.specs.Refusals.{done}
use Rattle.rules.specs.Orders.{code_order}
use Rattle.rules.specs.Answers.{guard_answer}
use Rattle.laws.specs.Answers.OneAnswer.{Shown}
use Rattle.laws.specs.Answers.Orders.{passed}
use Rattle.laws.specs.Guard.LeastBelow.{no_guard}
use Rattle.word.specs.Words.{word_of}
use Rattle.code.specs.Reading.{guarded_of}
use Rattle.code.proofs.Code.guard.Reads as guard

-- an answer that is a success is the guard
guard_answered : (n mask : ℕ) (given : Option ℕ) → done given ≡ guard_answer n mask → guard_of n mask ≡ given
unfolding guard_answer
guard_answered n mask given e = (passed (code_order n mask) (guard_of n mask) given (sym e)).1

-- a figure is the guard of the mask
pub guard_figure : Shown guard.Learnt (λ κs a r. (figure : ℕ) → r ≡ Ok (Some figure)
    → guard_of a.0.n (word_of a.0.frozen) ≡ some figure)
guard_figure κs a r v learnt figure e = guard_answered _ _ (some figure) (sym (ap guarded_of e) ∙ learnt)

-- no guard: there is no message bit
pub guard_absent : Shown guard.Learnt (λ κs a r. r ≡ Ok None → message_bits a.0.n (word_of a.0.frozen) ≡ 0)
guard_absent κs a r v learnt e = (no_guard _ _).0 (guard_answered _ _ none (sym (ap guarded_of e) ∙ learnt))
