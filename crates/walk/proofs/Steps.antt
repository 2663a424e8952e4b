-- One step of a node: what is known where a group's candidates are tried, and of the node one level down.
use Prim.Native.Nat.{ℕ, suc, ◌+◌, ◌*◌, ◌%◌, ◌^◌, ◌≤◌, ◌<◌}
use mathlib.Core.Path.{◌≡◌, refl, sym, ap, ap₂, ◌∙◌}
use mathlib.Core.List.{List}
use native.Mathlib.Nat.{suc-mul, mul_comm, mul-le-mul_right}
use native.Mathlib.Omega.{arith}
use lib.Bits.{bit_and, bit_xor}
use lib.Count.{ones}
use lib.Dec.{eqb}
use lib.ListN.{get_or}
use lib.Pow.{pow_pos, pow_mono}
use Rattle.rules.specs.Word.{codeword}
use Rattle.rules.specs.Folding as rules
use Rattle.rules.specs.Refusals.{largest}
use Rattle.laws.specs.Code.Disjoint.{Disjoint, disjoint_longer}
use Rattle.laws.specs.Rows.SlotsInGroup.{GroupSize, by_size}
use Rattle.laws.specs.Seats.SeatWords.{seat}
use Rattle.laws.specs.Seats.SeatedRow.{block_of, filling_of, is_open, branch_of, entry_candidate}
use Rattle.laws.specs.Seats.Decided.{decided, change_of, Filled}
use Rattle.laws.proofs.Seats.Decided.{filled}
use Rattle.laws.proofs.Seats.Copied.{change_copied, covered_apart}
use Rattle.rows.specs.Table.{capacity, entry_at}
use Rattle.word.specs.declared.Word.{Word}
use Rattle.word.specs.Words.{word_at}
use Rattle.groups.specs.Grouping.{Grouped}
use Rattle.walk.specs.Nodes.{Inside, Given, row_candidates, most}
use Rattle.walk.specs.declared.Walk.{Walk}
use Rattle.walk.specs.declared.state.Walked.{Walked}
use Rattle.walk.proofs.RowRest.{rest}
use Rattle.groups.proofs.Tabling.{shape, size_small, all_indices, few_groups as at_most, frozen_block}

-- the row of a group among the slots of the largest block is in the table
in_table : {size : ℕ} (k : ℕ) → GroupSize size → suc k * size ≤ 2 ^ largest → k * 2 ^ size < capacity
in_table k = by_size (λ (size : ℕ). suc k * size ≤ 2 ^ largest → k * 2 ^ size < capacity) (λ h. omega arith) (λ h. omega arith) (λ h. omega arith) (λ h. omega arith)

module _ {rows : List (List ℕ)} {change : List Word} {walk : Walk} {k partial w : ℕ} {s : Walked}
    (given : Given rows change walk (suc k) partial w s) where
  grouped : Grouped walk.tree
  grouped = given.tabled.grouped

  sized : walk.tree.size ≡ 2 ^ ones walk.tree.folding
  sized = grouped.sized

  pub narrow : walk.tree.size ≤ 8
  narrow = size_small grouped

  -- the group is one of the folding's
  group-is : k < rules.groups walk.tree.n walk.tree.folding
  group-is = rw (← grouped.all) given.begun.within

  -- and its indices are among those of the largest block
  seats_fit : suc k * walk.tree.size ≤ 2 ^ largest
  seats_fit =
      omega (
        arith,
        mul-le-mul_right {m = suc k} {n = walk.tree.groups} walk.tree.size given.begun.within,
        all_indices grouped,
        pow_mono {j = largest} grouped.small,
      )

  pub few_groups : k < 2 ^ largest
  few_groups = omega (arith, given.begun.within, at_most grouped)

  -- the group's row is in the table
  pub inside : Inside walk.tree.size k
  inside = record { narrow = narrow; group = in_table k (shape grouped) seats_fit }

  -- the pattern that the groups decided force on this one, and its frozen bits in seat order
  abbrev pub forced : ℕ
  forced = block_of walk.tree.size k (codeword walk.tree.n (seat walk.tree.n walk.tree.folding (decided walk.tree.n walk.tree.folding (suc k) w)))

  abbrev pub nearer : ℕ
  nearer = get_or walk.near k 0

  abbrev pub closed : ℕ
  closed = block_of walk.tree.size k (seat walk.tree.n walk.tree.folding (word_at walk.shut k))

  -- the cost of the nearer bits leaves room
  pub near_fits : partial + nearer < 2 ^ 32
  near_fits =
      let some : 0 < 2 ^ walk.tree.size = pow_pos walk.tree.size in
      omega (arith, given.tabled.bounded k 0 given.begun.within some, given.begun.room, suc-mul k (walk.tree.size * most))

  -- the node's candidates are those that the row holds
  pub here : row_candidates rows walk k (decided walk.tree.n walk.tree.folding (suc k) w) ≡ rest rows walk.tree.n walk.tree.folding walk.tree.size k nearer forced closed 0
  unfolding row_candidates
  here = refl

  module _ (j : ℕ) (h : j < 2 ^ walk.tree.size) where
    abbrev e : ℕ
    e = entry_at rows walk.tree.size k j

    pattern_lt : e % 256 < 2 ^ walk.tree.size
    pattern_lt = given.tabled.narrow k j given.begun.within h

    -- what the code adds to the word is what the pattern changes in it
    change-is : word_at walk.covered k * word_at change (e % 256) ≡ change_of walk.tree.n walk.tree.folding k (e % 256)
    change-is =
        ap₂ (λ (a b : ℕ). a * b) (given.tabled.copied k given.begun.within) (given.tabled.changes (e % 256) pattern_lt)
        ∙ mul_comm _ _ ∙ change_copied walk.tree.n walk.tree.folding grouped.fits k (e % 256) group-is (rw (← sized) pattern_lt)

    -- the ones of the two words that it multiplies lie in disjoint index bits
    pub change_apart : Disjoint largest (word_at walk.covered k) (word_at change (e % 256))
    change_apart =
        rw (given.tabled.copied k given.begun.within, given.tabled.changes (e % 256) pattern_lt)
        (disjoint_longer largest grouped.small (covered_apart walk.tree.n walk.tree.folding grouped.fits k (e % 256) group-is (rw (← sized) pattern_lt)))

    -- the next word
    abbrev pub next : ℕ
    next = bit_xor w (word_at walk.covered k * word_at change (e % 256))

    down : Filled walk.tree.n given.tabled.frozen.0 walk.tree.folding k w e next
    down =
        rw change-is
        (filled walk.tree.n given.tabled.frozen.0 walk.tree.folding grouped.fits grouped.few k w e group-is given.begun.small
        given.begun.blank (rw (← sized) pattern_lt))

    -- it has no frozen bit of the group exactly where the entry's filling has none
    pub open_is : eqb (bit_and next (word_at walk.shut k)) 0 ≡ is_open closed forced e
    open_is =
        let own = rw (← sized) at (given.tabled.frozen.1 k given.begun.within) in
        let block = frozen_block grouped walk.shut given.tabled.frozen.0 given.tabled.frozen.1 k given.begun.within in
        ap (λ (x : ℕ). eqb (bit_and next x) 0) own ∙ rw (← sized) at down.free ∙ ap (λ (b : ℕ). eqb (bit_and (filling_of forced e) b) 0) (sym block)

    -- the partial distance with the entry's branch
    abbrev pub reached : ℕ
    reached = partial + branch_of nearer e

    -- it leaves room for the groups below
    pub reached_fits : reached < 2 ^ 32
    reached_fits = omega (arith, given.tabled.bounded k j given.begun.within h, given.begun.room, suc-mul k (walk.tree.size * most))

    -- what the node one level down is given
    pub given_down : (total : ℕ) (after : Walked) → total ≡ reached → after.visits ≤ walk.tree.allowance
        → Given rows change walk k total next after
    given_down total after is_total running =
        record {
          tabled = given.tabled;
          begun =
              record {
                within = omega (arith, given.begun.within);
                small = down.small;
                blank = down.left;
                room = omega (arith, given.tabled.bounded k j given.begun.within h, given.begun.room, suc-mul k (walk.tree.size * most));
              };
          running = running;
        }

    -- it decides this node's word with the candidate's filling
    pub fills : decided walk.tree.n walk.tree.folding k next
        ≡ decided walk.tree.n walk.tree.folding (suc k) w + (entry_candidate walk.tree.n walk.tree.folding walk.tree.size k nearer forced e).filling
    unfolding entry_candidate
    fills = rw (← sized) at down.adds
