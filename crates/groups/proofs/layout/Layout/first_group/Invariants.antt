-- `Layout::first_group` meets its contract. Invariant: the word has a one at the index of each seat below t.
use Prim.Native.Nat.{◌-◌, ◌^◌}
use mathlib.Core.Path.{◌≡◌}
use Rattle.laws.specs.Seats.SeatWords.{unseat_below}
use Rattle.word.specs.Words.{word_of}
use Rattle.groups.proofs.layout.Layout.first_group.Given as goal

abbrev pub invariant-loop-t : goal.invariant-loop-t
invariant-loop-t l = word_of l.own ≡ unseat_below l.self.tree.n l.self.tree.folding (2 ^ l.self.tree.size - 1) l.t
