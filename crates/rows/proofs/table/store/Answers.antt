-- `rows::table::store` meets its contract.
use mathlib.Core.Path.{sym}
use Rattle.rows.proofs.Cells.{put_at}
use Rattle.rows.proofs.table.store.Goals as goal

pub returns : goal.returns
returns c = sym (put_at c.args.table.now c.args.start c.args.i c.requires.1 c.args.value)
