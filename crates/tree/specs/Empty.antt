-- Refusal 7's test: the first level of the tree that has no candidate, found from each group's frozen indices.
use Rattle.std.specs.Prelude.{ℕ, suc, ◌-◌, ◌≤◌, ◌<◌, Bool, List}
use Rattle.std.proofs.Math.Option.{Option}
use Rattle.std.specs.Int.Count.{ones}
use Rattle.rules.specs.Below.{first_below}
use Rattle.rules.specs.Folding as rules
use Rattle.rules.specs.Walk.{fillings}
use Rattle.rules.specs.Refusals.{is_empty}
use Rattle.word.specs.declared.Word.{Word}
use Rattle.word.specs.Words.{word_at}
use Rattle.groups.specs.declared.Tree.{Tree}

-- no group has more frozen indices than indices
abbrev pub FewShut : List Word → Tree → Type 0
FewShut l g = (k : ℕ) → k < g.groups → ones (word_at l k) ≤ g.size

-- whether the group that level t decides has no filling
abbrev pub is_empty_level : ℕ → ℕ → ℕ → ℕ → Bool
is_empty_level n mask folding t = is_empty (fillings mask (rules.group n folding (rules.groups n folding - suc t)))

-- the first such level, as `no_candidate` names it
abbrev pub first_empty : ℕ → ℕ → ℕ → Option ℕ
first_empty n mask folding = first_below (rules.groups n folding) (is_empty_level n mask folding)
