-- `rows::table::entry` meets its contract.
use mathlib.Core.Path.{sym}
use Rattle.rows.proofs.Cells.{cell_at}
use Rattle.rows.proofs.table.entry.Goals as goal

pub returns : goal.returns
returns c = sym (cell_at c.args.table.now c.args.start c.args.i c.requires.1)
