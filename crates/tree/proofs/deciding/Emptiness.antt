-- A level has no candidate exactly where the number of its group's fillings, counted from its frozen indices, is 0.
use Prim.Native.Nat.{ℕ, suc, ◌+◌, ◌-◌, ◌^◌, ◌≤◌, ◌<◌, zero-le}
use mathlib.Core.Path.{◌≡◌, refl, sym, ap, ◌∙◌}
use mathlib.Core.Bool.{false}
use mathlib.Core.Option.{none, some}
use mathlib.Core.List.{List, [], ◌∷◌}
use native.Mathlib.Nat.{mod-lt}
use native.Mathlib.Decide.{ℕ_discrete}
use native.Mathlib.Omega.{arith}
use lib.Count.{ones, ones-le}
use lib.Dec.{eqb}
use lib.ListN.{length}
use lib.Pow.{pow_pos}
use borrow.Author.Tests.{eq-eqb, ne_eqb}
use Rattle.rules.specs.Folding as rules
use Rattle.rules.specs.Walk.{fillings}
use Rattle.rules.specs.Refusals.{is_empty}
use Rattle.laws.specs.Numbers.Sums.{none_of, some_of}
use Rattle.laws.proofs.Seats.FillingNumber.{group-fillings}
use Rattle.laws.specs.Seats.SeatedRow.{block_of}
use Rattle.laws.specs.Seats.SeatWords.{seat}
use Rattle.laws.proofs.Seats.Copied.{shut-ones}
use Rattle.word.specs.declared.Word.{Word}
use Rattle.word.specs.Words.{word_at}
use Rattle.groups.specs.declared.Tree.{Tree}
use Rattle.groups.specs.Grouping.{Grouped, Shut}
use Rattle.tree.specs.Empty.{FewShut, first_empty, is_empty_level}

-- a list is empty where its length is 0
empty-length : (l : List ℕ) → is_empty l ≡ eqb (length l) 0
empty-length [] = refl
empty-length (x ∷ xs) = sym (ne_eqb (suc (length xs)) 0 (λ e. omega arith))

-- what the code counts at a level: how many fillings the frozen indices of its group leave
pub record Read (l : List Word) (g : Tree) (level many : ℕ) : Type 0 where
  pub inside : level < g.groups
  pub number : many ≡ 2 ^ (g.size - ones (word_at l (g.groups - 1 - level)))

-- no level before this one is empty
pub record Passed (l : List Word) (g : Tree) (level : ℕ) : Type 0 where
  pub inside : level ≤ g.groups
  pub full : (mask : ℕ) → Shut l g mask → (t : ℕ) → t < level → is_empty_level g.n mask g.folding t ≡ false

module _ {g : Tree} (given : Grouped g) where
  -- a group's frozen indices are as many as in seat order
  seated-ones : (l : List Word) (mask : ℕ) → Shut l g mask → (k : ℕ) → k < g.groups
      → ones (word_at l k) ≡ ones (block_of (2 ^ ones g.folding) k (seat g.n g.folding mask))
  seated-ones l mask shut k h = ap ones (shut k h) ∙ shut-ones g.n g.folding given.fits mask k (rw given.all at h)

  -- so they are no more than its indices
  pub few_shut : (l : List Word) (mask : ℕ) → Shut l g mask → FewShut l g
  few_shut l mask shut k h =
      rw (seated-ones l mask shut k h, given.sized) (ones-le (2 ^ ones g.folding) _ (mod-lt _ (pow_pos (2 ^ ones g.folding))))

module _ {l : List Word} {g : Tree} (given : Grouped g) where
  -- the level is empty exactly where the code's number is 0
  level_empty : {level many : ℕ} → Read l g level many → (mask : ℕ) → Shut l g mask → is_empty_level g.n mask g.folding level ≡ eqb many 0
  level_empty {level} {many} read mask shut =
      empty-length (fillings mask (rules.group g.n g.folding k))
      ∙ ap (λ (m : ℕ). eqb m 0) (group-fillings g.n mask g.folding k given.fits inside ∙ sym counted)
    where
      k : ℕ
      k = rules.groups g.n g.folding - suc level

      inside : k < rules.groups g.n g.folding
      inside = omega (arith, given.all, read.inside)

      own : g.groups - 1 - level ≡ k
      own = omega (arith, given.all)

      counted : many ≡ 2 ^ (2 ^ ones g.folding - ones (block_of (2 ^ ones g.folding) k (seat g.n g.folding mask)))
      counted = rw (read.number, own, given.sized, seated-ones given l mask shut k (rw given.all inside))

  -- before level 0 there is none
  pub passed_none : Passed l g 0
  passed_none = record { inside = zero-le; full = λ mask shut t h. absurd (omega arith) }

  -- a level with a filling is passed
  pub passed_next : {level many : ℕ} → Passed l g level → Read l g level many → (many ≡ 0 → ⊥) → Passed l g (level + 1)
  passed_next {level} {many} passed read filled = record {
    inside = omega (arith, read.inside);
    full = λ mask shut t h. go mask shut t h (ℕ_discrete t level);
  }
    where
      go : (mask : ℕ) → Shut l g mask → (t : ℕ) → t < level + 1 → Dec (t ≡ level) → is_empty_level g.n mask g.folding t ≡ false
      go mask shut t h (yes e) = rw e (level_empty read mask shut ∙ ne_eqb many 0 filled)
      go mask shut t h (no e) = passed.full mask shut t (omega arith)

  -- a level with none is the first
  pub found-empty : {level many : ℕ} → Passed l g level → Read l g level many → many ≡ 0
      → (mask : ℕ) → Shut l g mask → some level ≡ first_empty g.n mask g.folding
  found-empty {level} {many} passed read empty mask shut =
      sym (some_of (rules.groups g.n g.folding) (is_empty_level g.n mask g.folding) level (rw given.all at read.inside)
      (level_empty read mask shut ∙ eq-eqb many 0 empty) (passed.full mask shut))

  -- past the last level there is none
  pub found_none : {level : ℕ} → Passed l g level → g.groups ≤ level → (mask : ℕ) → Shut l g mask → none ≡ first_empty g.n mask g.folding
  found_none passed past mask shut =
      sym (none_of (rules.groups g.n g.folding) (is_empty_level g.n mask g.folding)
      (λ t h. passed.full mask shut t (omega (arith, rw (← given.all) at h))))
