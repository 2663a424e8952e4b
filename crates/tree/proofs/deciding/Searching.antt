-- From what the steps of a search make to what its walk asks and finds.
use Prim.Native.Nat.{ℕ, ◌+◌, ◌/◌, ◌*◌, ◌%◌, ◌^◌, ◌≤◌, ◌<◌}
use mathlib.Core.Path.{◌≡◌, sym, ap, ◌∙◌}
use mathlib.Core.Bool.{cond}
use mathlib.Core.Option.{none, some}
use mathlib.Core.List.{List}
use native.Mathlib.Nat.{zero-add, suc-mul, mul-le-mul_right}
use native.Mathlib.Omega.{arith}
use lib.Count.{ones}
use lib.Dec.{ltb}
use lib.IntN.{ℤ}
use lib.ListN.{get_or}
use lib.Pow.{pow_mono}
use lib.Seq.{ext_get_or}
use Rattle.rules.specs.Below.{sum_below}
use Rattle.rules.specs.Word.{bit, codeword}
use Rattle.rules.specs.Level.{level_at, level_cost, best, word_distance, least_word}
use Rattle.rules.specs.Folding.{groups}
use Rattle.rules.specs.Walk.{Candidate, keep_best, walk_visits}
use Rattle.rules.specs.Refusals.{largest}
use Rattle.laws.specs.Numbers.Each.{each-length, each_at}
use Rattle.laws.specs.Numbers.Sums.{sum_cong, sum-add, sum-mul, sum-le, sum-const}
use Rattle.laws.specs.Distance.GreatestDistance.{slot_greatest}
use Rattle.laws.specs.Distance.Excess.{excess, nearest, cost_split}
use Rattle.laws.specs.Seats.Seats.{seat_index, seat_below}
use Rattle.laws.specs.Seats.SeatWords.{seat}
use Rattle.laws.specs.Seats.SeatedRow.{block_of, branch_of, entry_candidates}
use Rattle.laws.specs.Seats.SeatedWalk.{seated_candidates}
use Rattle.laws.proofs.Seats.SeatedWalk.{seated_least_in}
use Rattle.laws.specs.Numbers.SortedLists.{mem_get_d}
use Rattle.laws.specs.Rows.SortedRows.{row_of, row-length, row-at, row_cong, entry_parts}
use Rattle.laws.specs.Walk.Allowance.{walk_in, walk_cong}
use Rattle.word.specs.declared.Word.{Word}
use Rattle.groups.specs.Seating.{Seated}
use Rattle.groups.specs.Grouping.{Grouped, Covered, Shut, Changes}
use Rattle.rows.specs.Table.{entry_at, row_at}
use Rattle.tree.specs.Slots.{Levelled, Ranked, seat_level}
use Rattle.walk.specs.Nodes.{Tabled, row_candidates, most}
use Rattle.walk.specs.declared.Walk.{Walk}
use Rattle.walk.specs.States.{empty}
use Rattle.tree.specs.Search.{Searchable}
use Rattle.groups.specs.declared.Tree.{Tree}
use Rattle.groups.proofs.SeatLoops.{index_at}
use Rattle.groups.proofs.Tabling.{size_small, all_indices, frozen_block}

module _ {levels : List ℤ} {g : Tree} (grouped : Grouped g) (given : Searchable g.n levels g.folding) {index : List ℕ}
    (seated : Seated index g.n g.folding) where
  -- every seat has a level in range
  pub levelled : Levelled levels index 0 (g.groups * g.size)
  levelled =
      record {
        within = omega (arith, all_indices grouped, pow_mono {j = largest} given.small);
        held =
            λ t h. rw (zero-add t, index_at seated t (rw (all_indices grouped) at h), given.long) (seat_below g.n g.folding given.fits t (rw (all_indices grouped) at h));
        ranged =
            λ t h. rw (zero-add t, index_at seated t (rw (all_indices grouped) at h)) (given.ranged _ (seat_below g.n g.folding given.fits t (rw (all_indices grouped) at h)));
      }

  module _ (table : List (List ℕ)) (near : List ℕ) (ranked : Ranked levels index g.groups g.size table near) where
    -- a seat of group k is a seat
    inside : (k t : ℕ) → k < g.groups → t < g.size → k * g.size + t < g.groups * g.size
    inside k t hk ht = omega (arith, mul-le-mul_right g.size hk, suc-mul k g.size)

    -- the level at a seat of group k
    abbrev own : ℕ → ℕ → ℤ
    own k t = level_at levels (seat_index g.n g.folding (k * g.size + t))

    level_is : (k t : ℕ) → k < g.groups → t < g.size → seat_level levels index (k * g.size + t) ≡ own k t
    level_is k t hk ht = ap (level_at levels) (index_at seated (k * g.size + t) (rw (all_indices grouped) at (inside k t hk ht)))

    -- what a bit costs more in slot t of group k
    abbrev more : ℕ → ℕ → ℕ → ℕ
    more k t b = excess (seat_level levels index (k * g.size + t)) b

    more-is : (k t b : ℕ) → k < g.groups → t < g.size → more k t b ≡ excess (own k t) b
    more-is k t b hk ht = ap (λ (z : ℤ). excess z b) (level_is k t hk ht)

    -- what the nearer bits of group k cost
    near_is : (k : ℕ) → k < g.groups → get_or near k 0 ≡ sum_below g.size (λ t. nearest (own k t))
    near_is k hk = ranked.sums k hk ∙ sum_cong g.size (λ t ht. ap nearest (level_is k t hk ht))

    abbrev row : ℕ → List ℕ
    row k = row_of (more k) g.size

    -- an entry is one of its row's, and so that of a pattern
    entry_of : (k j : ℕ) → k < g.groups → j < 2 ^ g.size
        → (u : ℕ) × (u < 2 ^ g.size) × (entry_at table g.size k j / 256 ≡ sum_below g.size (λ t. more k t (bit u t)))
        × (entry_at table g.size k j % 256 ≡ u)
    entry_of k j hk hj =
        let r = row-at (more k) g.size (entry_at table g.size k j)
        (rw (ranked.rows k j hk hj) (mem_get_d (row k) j 0 (rw (row-length (more k) g.size) hj))) in
        let parts = entry_parts (more k) g.size r.0 (size_small grouped) r.1 in
        (r.0, r.1, ap (λ (e : ℕ). e / 256) r.2 ∙ parts.0, ap (λ (e : ℕ). e % 256) r.2 ∙ parts.1)

    -- its branch is what the slots cost at that pattern, so it is bounded
    bounded : (k j : ℕ) → k < g.groups → j < 2 ^ g.size
        → branch_of (get_or near k 0) (entry_at table g.size k j) ≤ g.size * most
    bounded k j hk hj =
        let r = entry_of k j hk hj in
        let cost : ℕ → ℕ = λ t. nearest (own k t) + 1024 * more k t (bit r.0 t) in
        let all : sum_below g.size cost ≡ branch_of (get_or near k 0) (entry_at table g.size k j) =
        sum-add g.size (λ t. nearest (own k t)) (λ t. 1024 * more k t (bit r.0 t))
        ∙ rw (near_is k hk, r.2, sum-mul g.size 1024 (λ t. more k t (bit r.0 t)))
        in
        omega (arith, all, sum-const g.size most, sum-le g.size {f = cost} {g = λ t. most} (cheap k hk r.0))
      where
        cheap : (k : ℕ) → k < g.groups → (u t : ℕ) → t < g.size → nearest (own k t) + 1024 * more k t (bit u t) ≤ most
        cheap k hk u t ht =
            rw (more-is k t (bit u t) hk ht, ← cost_split (own k t) (bit u t))
            (slot_greatest (own k t) (bit u t)
            (given.ranged _ (seat_below g.n g.folding given.fits _ (rw (all_indices grouped) at (inside k t hk ht)))))

    -- what the walk asks of the tables
    pub tables_right : (change covered shut : List Word) (mask : ℕ) → Changes change g → Covered covered g → Shut shut g mask
        → Tabled table change (record { tree = g; covered = covered; shut = shut; near = near })
    tables_right change covered shut mask changes copied frozen =
        record {
          grouped = grouped;
          bounded = bounded;
          narrow = λ k j hk hj. let r = entry_of k j hk hj in rw r.3 r.1;
          changes = changes;
          copied = copied;
          frozen = (mask, frozen);
        }

    -- in terms of the folding's own size
    resized : (P : ℕ → Type 0) → P g.size → P (2 ^ ones g.folding)
    resized P x = rw (← grouped.sized) x

    -- the table's rows are the sorted rows of what the bits cost more
    rows_sorted : (k : ℕ) → k < groups g.n g.folding
        → row_at table g.size k
        ≡ row_of (λ t b. excess (level_at levels (seat_index g.n g.folding (k * 2 ^ ones g.folding + t))) b) (2 ^ ones g.folding)
    rows_sorted k hk =
        resized (λ (z : ℕ). row_at table g.size k ≡ row_of (λ t b. excess (level_at levels (seat_index g.n g.folding (k * z + t))) b) z)
        (ext_get_or 0 (row_at table g.size k) (row k)
        (each-length (entry_at table g.size k) (2 ^ g.size) ∙ sym (row-length (more k) g.size))
        (λ j hj. at j (rw (each-length (entry_at table g.size k) (2 ^ g.size)) at hj))
        ∙ row_cong (more k) (λ t b. excess (own k t) b) g.size (λ t b ht. more-is k t b group ht))
      where
        group : k < g.groups
        group = rw grouped.all hk

        at : (j : ℕ) → j < 2 ^ g.size → get_or (row_at table g.size k) j 0 ≡ get_or (row k) j 0
        at j hj = each_at (entry_at table g.size k) 0 (2 ^ g.size) j hj ∙ ranked.rows k j group hj

    near_sums : (k : ℕ) → k < groups g.n g.folding
        → get_or near k 0
        ≡ sum_below (2 ^ ones g.folding) (λ t. nearest (level_at levels (seat_index g.n g.folding (k * 2 ^ ones g.folding + t))))
    near_sums k hk =
        resized (λ (z : ℕ). get_or near k 0 ≡ sum_below z (λ t. nearest (level_at levels (seat_index g.n g.folding (k * z + t)))))
        (near_is k (rw grouped.all hk))

    module _ (covered shut : List Word) (mask : ℕ) (frozen : Shut shut g mask) where
      -- what the walk reads
      abbrev walk : Walk
      walk = record { tree = g; covered = covered; shut = shut; near = near }

      abbrev seated_rows : ℕ → ℕ → List Candidate
      seated_rows = seated_candidates g.n mask g.folding (λ k. get_or near k 0) (row_at table g.size)

      -- at each group the candidates are those of the mask
      same_candidates : (k d : ℕ) → k < g.groups → row_candidates table walk k d ≡ seated_rows k d
      unfolding row_candidates seated_candidates
      same_candidates k d hk =
          let n = g.n in
          let folding = g.folding in
          let block = frozen_block grouped shut mask frozen k hk in
          ap (λ (b : ℕ). entry_candidates n folding g.size k (get_or near k 0) (block_of g.size k (codeword n (seat n folding d))) b (row_at table g.size k)) block
          ∙ ap
          (λ (z : ℕ).
          entry_candidates n folding z k (get_or near k 0) (block_of z k (codeword n (seat n folding d))) (block_of z k (seat n folding mask)) (row_at table g.size k))
          grouped.sized

      -- what the walk finds: nothing where its total passes the allowance, else the least word, its distance and the total
      pub walked : (allowance : ℕ) → walk_in keep_best allowance (row_candidates table walk) g.groups 0 0 (some empty)
          ≡ cond (ltb allowance (walk_visits g.n mask (level_cost levels) g.folding)) none
          (some (record {
            kept = best (word_distance g.n (level_cost levels) (least_word g.n mask (level_cost levels))) (least_word g.n mask (level_cost levels));
            visits = walk_visits g.n mask (level_cost levels) g.folding;
          }))
      walked allowance =
          walk_cong keep_best allowance _ _ g.groups same_candidates 0 0 (some empty)
          ∙ ap (λ (m : ℕ). walk_in keep_best allowance seated_rows m 0 0 (some empty)) grouped.all
          ∙ seated_least_in g.n mask (level_cost levels) (λ i. nearest (level_at levels i)) (λ i b. excess (level_at levels i) b)
          (λ i b. cost_split (level_at levels i) b) g.folding (λ k. get_or near k 0) (row_at table g.size) given.fits given.few
          near_sums rows_sorted allowance
