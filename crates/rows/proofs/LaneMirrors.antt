-- The upper half of each lane is what is left of its lower half to one sum: store by store, and lane by lane.
use Prim.Native.Nat.{ℕ, ◌+◌, ◌*◌, ◌-◌, ◌≤◌, ◌<◌}
use mathlib.Core.Path.{◌≡◌, ap, ◌∙◌}
use mathlib.Core.Logic.{◌⊎◌, inl, inr, ⊎_elim}
use mathlib.Core.List.{List}
use native.Mathlib.Decide.{ℕ_discrete, dec_lt}
use native.Mathlib.Omega.{arith}
use lib.ListN.{get_or}
use Rattle.rows.specs.Table.{capacity}
use Rattle.rows.specs.Cells.{cell, put}
use Rattle.rows.specs.declared.seat.Entries.{Entries}
use Rattle.rows.specs.Lanes.{Lanes, lane_doubled, lane_sum, Merged, Completed}
use Rattle.rows.proofs.Cells.{put_same, put_other, put-shaped}
use Rattle.rows.proofs.Filling.{place-before}

module _ {old : List (List ℕ)} {start m both : ℕ} {to : List (List ℕ)} {t : ℕ} (s : Completed old start m both to t) (l : t < m) where
  -- the lower half is as it was
  pub lower_same : cell to (start + t) ≡ cell old (start + t)
  lower_same = s.same (start + t) (inl (omega arith))

  -- one more
  pub completed_more : start + (m + m) ≤ capacity
      → Completed old start m both (put to (start + (m + m - 1 - t)) (both - cell to (start + t))) (t + 1)
  completed_more room = record {
    shaped = put-shaped s.shaped (start + (m + m - 1 - t)) _ inside;
    upper = λ i h. upper i h (ℕ_discrete i t);
    same = λ p h. put_other s.shaped (start + (m + m - 1 - t)) _ inside p (⊎_elim (λ a. omega arith) (λ a. omega arith) h)
        ∙ s.same p (⊎_elim (λ a. inl (omega arith)) inr h);
  }
    where
      inside : start + (m + m - 1 - t) < capacity
      inside = omega arith

      upper : (i : ℕ) → i < t + 1 → Dec (i ≡ t) → cell (put to (start + (m + m - 1 - t)) (both - cell to (start + t))) (start + (m + m - 1 - i)) ≡ both - cell old (start + i)
      upper i h (yes e) = rw e (put_same s.shaped (start + (m + m - 1 - t)) _ inside ∙ ap (λ (v : ℕ). both - v) lower_same)
      upper i h (no n) = put_other s.shaped (start + (m + m - 1 - t)) _ inside (start + (m + m - 1 - i)) (omega arith) ∙ s.upper i (omega arith)

-- all lanes have their lower halves, and the first k their upper halves too
pub record Mirroring (from : List (List ℕ)) (first entries m : ℕ) (added : List Entries) (old to : List (List ℕ)) (k : ℕ) : Type 0 where
  pub lower : Merged from first entries m added old to m
  pub whole : (j i : ℕ) → j < k → i < m + m → cell to (first + j * entries + i) ≡ get_or (lane_doubled from first entries m added j) i 0

module _ {from : List (List ℕ)} {first entries m : ℕ} {added : List Entries} {old to : List (List ℕ)} where
  module _ (lanes : Lanes from first entries m added) {k : ℕ} (h : k < 4) (s : Mirroring from first entries m added old to k) where
    -- one lane more
    pub mirroring_more : {new : List (List ℕ)} → Completed to (first + k * entries) m (lane_sum from first entries m added k) new m
        → Mirroring from first entries m added old new (k + 1)
    mirroring_more {new} c = record {
      lower = record {
        shaped = c.shaped;
        kept = λ p l. c.same p (inl (omega arith)) ∙ s.lower.kept p l;
        stored = λ j i l b. c.same (first + j * entries + i) (beside j i b lanes.room (ℕ_discrete j k) (dec_lt k j)) ∙ s.lower.stored j i l b;
      };
      whole = λ j i l b. whole j i l b (ℕ_discrete j k) (dec_lt i m);
    }
      where
        beside : (j i : ℕ) → i < m → m + m ≤ entries → Dec (j ≡ k) → Dec (k < j)
            → (first + j * entries + i < first + k * entries + (m + m - m)) ⊎ (first + k * entries + (m + m) ≤ first + j * entries + i)
        beside j i b r (yes e) d = inl (rw e (omega arith))
        beside j i b r (no n) (yes q) = inr (omega (arith, place-before entries q))
        beside j i b r (no n) (no q) = let less : j < k = omega arith in inl (omega (arith, place-before entries less))

        whole : (j i : ℕ) → j < k + 1 → i < m + m → Dec (j ≡ k) → Dec (i < m)
            → cell new (first + j * entries + i) ≡ get_or (lane_doubled from first entries m added j) i 0
        whole j i l b (no n) d =
            let less : j < k = omega arith in
            c.same (first + j * entries + i) (inl (omega (arith, lanes.room, place-before entries less))) ∙ s.whole j i less b
        whole j i l b (yes q) (yes d) = rw q (c.same (first + k * entries + i) (inl (omega arith)) ∙ s.lower.stored k i h d)
        whole j i l b (yes q) (no d) =
            let back : m + m - 1 - (m + m - 1 - i) ≡ i = omega arith in
            let low : m + m - 1 - i < m = omega arith in
            let stored = rw back at (c.upper (m + m - 1 - i) low) in
            let sum = rw back at (lanes.mirrored k (m + m - 1 - i) h low) in
            rw q (omega (arith, stored, sum, s.lower.stored k (m + m - 1 - i) h low))
