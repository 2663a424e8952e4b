-- `tree::search` meets its contract: the steps make what the walk asks, and the walk's end decides the answer.
use Prim.Native.Nat.{ℕ}
use mathlib.Core.Path.{◌≡◌, refl, sym, ◌∙◌}
use mathlib.Core.Option.{none, some}
use mathlib.Core.List.{List}
use native.Mathlib.Omega.{arith}
use lib.IntN.{ℤ}
use Rattle.word.specs.Words.{word_of}
use Rattle.std.specs.Prelude.{Some}
use Rattle.groups.specs.Seating.{Seated}
use Rattle.groups.specs.Grouping.{Grouped}
use Rattle.tree.specs.Empty.{first_empty}
use Rattle.tree.specs.Search.{Searchable}
use Rattle.groups.specs.declared.Tree.{Tree}
use Rattle.tree.proofs.deciding.Emptiness.{few_shut}
use Rattle.tree.proofs.deciding.Searching.{levelled, tables_right, walked}
use Rattle.tree.proofs.deciding.Found.{Ends, used_up, enough, distance_fits, visits_fit, found_right, answer_seven, answer-eight, answer-found}
use Rattle.tree.proofs.search.Goals as goal
use Rattle.tree.proofs.search.Goals.{After-walk}

-- what holds of two numbers holds of the same
onto : (P : ℕ → ℕ → Type 0) {a b c d : ℕ} → a ≡ b → c ≡ d → P a c → P b d
onto P e f x = rw (← e, ← f) x

-- the tree is that of n, the folding and the allowance: what is given of these
module _ {g : Tree} {n folding allowance : ℕ} (made : (g.n ≡ n) × (g.folding ≡ folding) × (g.allowance ≡ allowance) × Grouped g) where
  given : {levels : List ℤ} → Searchable n levels folding → Searchable g.n levels g.folding
  given {levels} searchable = onto (λ n folding. Searchable n levels folding) (sym made.0) (sym made.1) searchable

  seated : {index : List ℕ} → Seated index n folding → Seated index g.n g.folding
  seated {index} seats = onto (Seated index) (sym made.0) (sym made.1) seats

-- after the walk: that every level has a candidate, and what the walk ended with
candidates : (c : After-walk) → first_empty c.args.n (word_of c.args.frozen) c.args.folding ≡ none
candidates c =
    let tree = c.folded.ensures in
    onto (λ n folding. first_empty n (word_of c.args.frozen) folding ≡ none) tree.0 tree.1 (sym (c.in_default.ensures _ c.shut-shut.ensures))

ends : (c : After-walk) → Ends c.args.n (word_of c.args.frozen) c.args.folding c.args.allowance c.args.levels.now c.walk.result
ends c =
    let g = c.folded.result in
    let tree = c.folded.ensures in
    onto (λ n allowance. Ends n (word_of c.args.frozen) c.args.folding allowance c.args.levels.now c.walk.result) tree.0 tree.2
    (onto (λ folding _. Ends g.n (word_of c.args.frozen) folding g.allowance c.args.levels.now c.walk.result) tree.1 tree.0
    (c.walk.ensures
    ∙ walked tree.3 (given tree c.requires) (seated tree c.seats.ensures) _ _ c.rows-rows.ensures _ _ _ c.shut-shut.ensures _))

pub first_empty-requires : goal.first_empty-requires
first_empty-requires c =
    let grouped = c.folded.ensures.3 in
    (grouped, few_shut grouped c.shut-shut.result (word_of c.args.frozen) c.shut-shut.ensures)

pub returns-in-Some : goal.returns-in-Some
returns-in-Some c =
    let tree = c.folded.ensures in
    answer_seven _ _ _ _ _ _
    (onto (λ n folding. first_empty n (word_of c.args.frozen) folding ≡ some c.in-Some.level) tree.0 tree.1
    (sym (c.in-Some.ensures _ c.shut-shut.ensures)))

pub rows-rows-requires : goal.rows-rows-requires
rows-rows-requires c =
    let tree = c.folded.ensures in
    (levelled tree.3 (given tree c.requires) (seated tree c.seats.ensures), refl)

pub walk-requires : goal.walk-requires
walk-requires c =
    let tree = c.folded.ensures in
    tables_right tree.3 (given tree c.requires) (seated tree c.seats.ensures) _ _ c.rows-rows.ensures _ _ _ _ c.changes-change.ensures
    c.covered.ensures c.shut-shut.ensures

pub returns-in_default-walk : goal.returns-in_default-walk
returns-in_default-walk c =
    let args = c.args in
    let walk = (goal.at.returns-in_default-walk c).After-walk in
    answer-eight _ _ _ _ _ (candidates walk)
    (used_up args.n (word_of args.frozen) args.folding args.allowance args.levels.now (rw c.in_default-walk.is at (ends walk)))

pub overflow_cast-distance : goal.overflow_cast-distance
overflow_cast-distance c =
    let args = c.args in
    let walk = (goal.at.overflow_cast-distance c).After-walk in
    let end : Ends args.n (word_of args.frozen) args.folding args.allowance args.levels.now (Some c.in-Some-walk.end) =
    rw c.in-Some-walk.is at (ends walk) in
    omega (arith, distance_fits args.n (word_of args.frozen) args.folding args.allowance args.levels.now c.in-Some-walk.end end)

pub overflow_cast-visits : goal.overflow_cast-visits
overflow_cast-visits c =
    let args = c.args in
    let walk = (goal.at.overflow_cast-visits c).After-walk in
    let end : Ends args.n (word_of args.frozen) args.folding args.allowance args.levels.now (Some c.in-Some-walk.end) =
    rw c.in-Some-walk.is at (ends walk) in
    omega (
      arith,
      visits_fit args.n (word_of args.frozen) args.folding args.allowance args.levels.now c.in-Some-walk.end end c.ranges.allowance.fits,
    )

pub returns : goal.returns
returns c =
    let args = c.args in
    let walk = (goal.at.returns c).After-walk in
    let end : Ends args.n (word_of args.frozen) args.folding args.allowance args.levels.now (Some c.in-Some-walk.end) =
    rw c.in-Some-walk.is at (ends walk) in
    answer-found _ _ _ _ _ (candidates walk)
    (enough args.n (word_of args.frozen) args.folding args.allowance args.levels.now c.in-Some-walk.end end) _
    (found_right args.n (word_of args.frozen) args.folding args.allowance args.levels.now c.in-Some-walk.end end c.requires.small _ _
    c.gather.ensures c.map.ensures)
