-- What a node of the code's walk is given, and the candidates that the table of rows holds for it.
use Rattle.std.specs.Prelude.{ℕ, ◌+◌, ◌*◌, ◌%◌, ◌^◌, ◌≤◌, ◌<◌, List, get_or}
use Rattle.rules.specs.Word.{codeword}
use Rattle.rules.specs.Level.{limit}
use Rattle.rules.specs.Walk.{Candidate}
use Rattle.laws.specs.Seats.Decided.{Blank}
use Rattle.laws.specs.Seats.SeatWords.{seat}
use Rattle.laws.specs.Seats.SeatedRow.{block_of, branch_of, entry_candidates}
use Rattle.word.specs.declared.Word.{Word}
use Rattle.word.specs.Words.{word_at}
use Rattle.groups.specs.Grouping.{Grouped, Covered, Shut, Changes}
use Rattle.rows.specs.Table.{capacity, entry_at, row_at}
use Rattle.groups.specs.declared.Tree.{Tree}
use Rattle.walk.specs.declared.Walk.{Walk}
use Rattle.walk.specs.declared.state.Walked.{Walked}

-- the greatest cost of a slot
abbrev pub most : ℕ
most = (limit + 256) * (limit + 256)

-- a group whose row is in the table of rows
pub record Inside (size k : ℕ) : Type 0 where
  pub narrow : size ≤ 8
  pub group : k * 2 ^ size < capacity

-- the candidates of group k after the word d, from the table's row and the group's frozen indices
unfoldable pub row_candidates : List (List ℕ) → Walk → ℕ → ℕ → List Candidate
row_candidates rows walk k d =
    let g = walk.tree in
    entry_candidates g.n g.folding g.size k (get_or walk.near k 0)
    (block_of g.size k (codeword g.n (seat g.n g.folding d)))
    (block_of g.size k (seat g.n g.folding (word_at walk.shut k)))
    (row_at rows g.size k)

-- what the tables of a walk hold
pub record Tabled (rows : List (List ℕ)) (change : List Word) (walk : Walk) : Type 0 where
  pub grouped : Grouped walk.tree
  pub bounded : (k j : ℕ) → k < walk.tree.groups → j < 2 ^ walk.tree.size
      → branch_of (get_or walk.near k 0) (entry_at rows walk.tree.size k j) ≤ walk.tree.size * most
  pub narrow : (k j : ℕ) → k < walk.tree.groups → j < 2 ^ walk.tree.size → entry_at rows walk.tree.size k j % 256 < 2 ^ walk.tree.size
  pub changes : Changes change walk.tree
  pub copied : Covered walk.covered walk.tree
  pub frozen : (mask : ℕ) × Shut walk.shut walk.tree mask

-- a word whose codeword is zero in the groups that are left, and room for the distances that these can add
pub record Begun (g : Tree) (left partial w : ℕ) : Type 0 where
  pub within : left ≤ g.groups
  pub small : w < 2 ^ (2 ^ g.n)
  pub blank : Blank g.n g.folding left w
  pub room : partial + left * (g.size * most) < 2 ^ 32

-- all that a node is given
pub record Given (rows : List (List ℕ)) (change : List Word) (walk : Walk) (left partial w : ℕ) (s : Walked) : Type 0 where
  pub tabled : Tabled rows change walk
  pub begun : Begun walk.tree left partial w
  pub running : s.visits ≤ walk.tree.allowance
