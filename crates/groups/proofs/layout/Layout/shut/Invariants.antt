-- `Layout::shut` meets its contract. Invariant: the groups below k are done.
use Prim.Native.Nat.{ℕ, ◌^◌, ◌<◌}
use mathlib.Core.Path.{◌≡◌}
use lib.ListN.{length}
use Rattle.rules.specs.Refusals.{largest}
use Rattle.laws.specs.Seats.Decided.{shut_of}
use Rattle.word.specs.Words.{word_of, word_at}
use Rattle.groups.proofs.layout.Layout.shut.Given as goal

abbrev pub invariant-loop-k : goal.invariant-loop-k
invariant-loop-k l =
    (length l.shut ≡ 2 ^ largest)
    × ((j : ℕ) → j < l.k → word_at l.shut j ≡ shut_of l.self.tree.n l.self.tree.folding (word_of l.frozen) j)
