-- The tree of a folding as the code holds it, and what its tables hold for each group or pattern.
use Rattle.std.specs.Prelude.{ℕ, ◌^◌, ◌≤◌, ◌<◌, ◌≡◌, List}
use Rattle.std.specs.Int.Count.{ones}
use Rattle.rules.specs.Folding as rules
use Rattle.rules.specs.Refusals.{largest}
use Rattle.laws.specs.Seats.Decided.{change_of, shut_of}
use Rattle.laws.specs.Seats.Copied.{covered_of}
use Rattle.word.specs.declared.Word.{Word}
use Rattle.word.specs.Words.{word_at}
use Rattle.groups.specs.declared.Tree.{Tree}

-- n up to the largest, a folding of at most three ones, the size of its groups and their number, and an allowance of 32 bits
pub record Grouped (g : Tree) : Type 0 where
  pub small : g.n ≤ largest
  pub fits : g.folding < 2 ^ g.n
  pub few : ones g.folding ≤ 3
  pub sized : g.size ≡ 2 ^ ones g.folding
  pub bounded : g.allowance < 2 ^ 32
  pub all : g.groups ≡ rules.groups g.n g.folding

-- for each group, the codeword of its smallest index alone
abbrev pub Covered : List Word → Tree → Type 0
Covered l g = (k : ℕ) → k < g.groups → word_at l k ≡ covered_of g.n g.folding k

-- for each group, its indices that are frozen in a mask
abbrev pub Shut : List Word → Tree → ℕ → Type 0
Shut l g mask = (k : ℕ) → k < g.groups → word_at l k ≡ shut_of g.n g.folding mask k

-- for each pattern, the word whose codeword has it in group 0 and zeros elsewhere
abbrev pub Changes : List Word → Tree → Type 0
Changes l g = (u : ℕ) → u < 2 ^ g.size → word_at l u ≡ change_of g.n g.folding 0 u
