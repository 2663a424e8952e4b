-- `code::Code::new` meets its contract.
use Rattle.std.proofs.Common.{sym}
use Rattle.rules.specs.Orders.{code_order}
use Rattle.laws.specs.Answers.Orders.{passed_done}
use Rattle.word.specs.Words.{word_of}
use Rattle.refusal.proofs.Exits.{handed_on}
use Rattle.checks.specs.Passing.{code_passed, code_refused}
use Rattle.code.specs.Made.{made_answer}
use Rattle.code.proofs.Code.new.Goals as goal

pub returns-in_err-code : goal.returns-in_err-code
unfolding made_answer
returns-in_err-code c = handed_on _ _ _ c.from_residual.ensures.1 (code_refused _ _ c.code.ensures _ c.in_err-code.was)

pub returns : goal.returns
unfolding made_answer
returns c = sym (passed_done (code_order c.args.n (word_of c.args.frozen)) _ (code_passed _ _ c.code.ensures c.in_ok-code.was))
