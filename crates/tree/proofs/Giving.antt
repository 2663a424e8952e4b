-- What the slots give, slot by slot and group by group.
use Prim.Native.Nat.{ℕ, zero, suc, ◌+◌, ◌-◌, ◌*◌, ◌^◌, ◌≤◌, ◌<◌}
use mathlib.Core.Path.{◌≡◌, refl, sym, ap, ap₂, ◌∙◌}
use mathlib.Core.List.{List}
use mathlib.Core.Logic.{◌≢◌, inl, inr, ⊎_elim}
use native.Mathlib.Nat.{zero-add, one-mul, add-mul, suc-mul, mul-le-mul_right}
use native.Mathlib.Numerals.{add-one}
use native.Mathlib.Decide.{dec_lt, ℕ_discrete}
use native.Mathlib.Omega.{arith}
use lib.IntN.{ℤ}
use lib.ListN.{length, get_or, set, length-set}
use borrow.Author.Count.{below_more}
use lib.Seq.{get_or-set_same, get_or-set_other}
use Rattle.rules.specs.Below.{sum_below}
use Rattle.rules.specs.Refusals.{largest}
use Rattle.laws.specs.Numbers.Sums.{sum-le, sum-const}
use Rattle.laws.specs.Rows.SortedRows.{row_cong}
use Rattle.laws.specs.Distance.Excess.{excess, nearest, excess_one_bit}
use Rattle.laws.proofs.Distance.Excess.{nearest_greatest}
use Rattle.rows.specs.Adding.{nothing, adds, RowsRight}
use Rattle.rows.specs.declared.seat.Added.{Added}
use Rattle.walk.specs.Nodes.{most}
use Rattle.tree.specs.Slots.{Levelled, SeatGives, GroupGives, Gives, Ranked, seat_level, near_sum}

module _ (levels : List ℤ) (index : List ℕ) (first : ℕ) (seats₀ : List Added) where
  -- no slot yet
  pub gives_none : length seats₀ ≡ 2 ^ largest → GroupGives levels index first seats₀ 0 seats₀ 0
  unfolding sum_below
  gives_none long = record { own = λ i h. absurd (omega arith); other = λ seat h. refl; long = long; sum = refl }

  -- one slot more
  module _ {size t : ℕ} {seats : List Added} {near : ℕ} (g : GroupGives levels index first seats₀ t seats near)
      (levelled : Levelled levels index first size) (h : t < size) where
    -- the nearer bits so far and of this slot cost little
    pub near_small : {r : ℕ} → r ≡ nearest (seat_level levels index (first + t)) → size ≤ 2 ^ largest → near + r < 2 ^ 32
    near_small is few =
        omega (
          arith,
          g.sum,
          is,
          sum-le t {f = λ i. nearest (seat_level levels index (first + i))} {g = λ i. most} (λ i l. nearest_greatest _ (levelled.ranged i (omega arith))),
          sum-const t most,
          nearest_greatest (seat_level levels index (first + t)) (levelled.ranged t h),
        )

    pub gives_next : (x : Added)
        → (x.zero ≡ excess (seat_level levels index (first + t)) 0) × (x.one ≡ excess (seat_level levels index (first + t)) 1)
        → {r : ℕ} → r ≡ nearest (seat_level levels index (first + t)) → GroupGives levels index first seats₀ (t + 1) (set seats (first + t) x) (near + r)
    unfolding sum_below
    gives_next x given is =
        record {
          own = λ i hi. own i hi (ℕ_discrete i t);
          other = λ s far. let n : s ≢ first + t = ⊎_elim (λ l e. omega arith) (λ l e. omega arith) far in
              get_or-set_other seats (first + t) s x nothing n ∙ g.other s (⊎_elim inl (λ l. inr (omega arith)) far);
          long = length-set seats (first + t) x ∙ g.long;
          sum = rw (add-one t) (ap₂ ◌+◌ g.sum is);
        }
      where
        here : get_or (set seats (first + t) x) (first + t) nothing ≡ x
        here = get_or-set_same seats (first + t) x nothing (omega (arith, g.long, levelled.within))

        own : (i : ℕ) → i < t + 1 → Dec (i ≡ t) → SeatGives levels index (set seats (first + t) x) (first + i)
        own i hi (yes e) = rw (e, here) given
        own i hi (no n) = rw (get_or-set_other seats (first + t) (first + i) x nothing (λ e. n (omega arith))) (g.own i (omega arith))

-- some of the seats, from one on
pub later_seats : {levels : List ℤ} {index : List ℕ} {count : ℕ} (k size : ℕ) → k + size ≤ count → Levelled levels index 0 count
    → Levelled levels index k size
later_seats {levels} {index} k size l h =
    record {
      within = omega (arith, h.within);
      held = λ t b. rw zero-add at (h.held (k + t) (omega arith));
      ranged = λ t b. rw zero-add at (h.ranged (k + t) (omega arith));
    }

-- one group more
pub all_next : {levels : List ℤ} {index : List ℕ} {k size : ℕ} {seats seats' : List Added} {near : List ℕ} {r : ℕ}
    → Gives levels index k size seats near → GroupGives levels index (k * size) seats size seats' r
    → length near ≡ 2 ^ largest → k < 2 ^ largest → Gives levels index (k + 1) size seats' (set near k r)
all_next {levels} {index} {k} {size} {seats} {seats'} {near} {r} all group long few =
    record {
      own = λ seat h. own seat h (dec_lt seat (k * size));
      long = group.long;
      sums = below_more (λ j. get_or (set near k r) j 0 ≡ near_sum levels index (j * size) size) k
          (λ j h. get_or-set_other near k j r 0 (λ (e : j ≡ k). omega arith) ∙ all.sums j h)
          (get_or-set_same near k r 0 (rw long few) ∙ group.sum);
    }
  where
    own : (seat : ℕ) → seat < (k + 1) * size → Dec (seat < k * size) → SeatGives levels index seats' seat
    own seat h (yes l) = rw (group.other seat (inl l)) (all.own seat l)
    own seat h (no l) =
        let e : k * size + (seat - k * size) ≡ seat = omega arith in
        rw e at (group.own (seat - k * size) (omega (arith, add-mul k 1 size, one-mul size)))

-- the sorted rows of what is in the list are those of what the bits cost more
pub ranked : {levels : List ℤ} {index : List ℕ} (groups size : ℕ) {seats : List Added} {near : List ℕ} {table : List (List ℕ)}
    → Gives levels index groups size seats near → RowsRight seats groups size table → Ranked levels index groups size table near
unfolding RowsRight
ranked {levels} {index} groups size {seats} gives right =
    record {
      rows = λ k j hk hj. right k j hk hj
          ∙ ap (λ (l : List ℕ). get_or l j 0)
          (row_cong (adds seats (k * size)) (λ t b. excess (seat_level levels index (k * size + t)) b) size (λ t b ht. same k t b hk ht));
      sums = gives.sums;
    }
  where
    same : (k t b : ℕ) → k < groups → t < size → adds seats (k * size) t b ≡ excess (seat_level levels index (k * size + t)) b
    same k t zero hk ht = (gives.own (k * size + t) (omega (arith, mul-le-mul_right size hk, suc-mul k size))).0
    same k t (suc b) hk ht =
        (gives.own (k * size + t) (omega (arith, mul-le-mul_right size hk, suc-mul k size))).1 ∙ sym (excess_one_bit _ b)
