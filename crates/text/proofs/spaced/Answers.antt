-- `text::spaced` meets its contract.
use borrow.Author.Rules.{rules}
use Rattle.text.specs.Puts.{put_then}
use Rattle.text.proofs.spaced.Goals as goal

pub returns : goal.returns
returns c = search (rules, put_then)
