-- The loop that merges four lanes in step: a turn keeps its own lane, and every other one.
use Prim.Native.Nat.{ℕ, ◌+◌, ◌*◌, ◌-◌, ◌≤◌, ◌<◌, min}
use mathlib.Core.Path.{◌≡◌, sym, ap, ap₂, ◌∙◌}
use mathlib.Core.Logic.{◌≢◌}
use mathlib.Core.Bool.{cond}
use mathlib.Core.List.{List}
use native.Mathlib.Decide.{ℕ_discrete, dec_lt}
use native.Mathlib.Omega.{arith}
use lib.Dec.{ltb}
use lib.ListN.{length, get_or, set, length-set}
use lib.Seq.{get_or-set_same, get_or-set_other}
use borrow.Author.Count.{below_more}
use Rattle.laws.specs.Numbers.Each.{each-length, each_at}
use Rattle.laws.specs.Rows.SortedRows.{doubled}
use Rattle.rows.specs.Table.{capacity}
use Rattle.rows.specs.Cells.{cell, put, Shaped, Kept}
use Rattle.rows.specs.declared.seat.Entries.{Entries}
use Rattle.rows.specs.Lanes.{none, lane, Turned, Lanes}
use Rattle.rows.proofs.Cells.{put_same, put_other, put-shaped, kept_more}
use Rattle.rows.proofs.Filling.{place-before}
use Rattle.rows.proofs.Doubling.{Front, front_turn, one_or_none}

-- after t turns a lane has the first t entries of its row with one slot more, of which a came with bit 0
pub record Turning (from : List (List ℕ)) (start m x y : ℕ) (to : List (List ℕ)) (t a : ℕ) : Type 0 where
  pub met : t ≤ m
  pub some : a ≤ t
  pub front : Front (lane from start m) x y a (t - a)
  pub stored : (i : ℕ) → i < t → cell to (start + i) ≡ get_or (doubled x y (lane from start m)) i 0

module _ {from : List (List ℕ)} {start m x y : ℕ} {to : List (List ℕ)} {t a : ℕ} (s : Turning from start m x y to t a) (shaped : Shaped to) where
  -- a turn keeps its lane
  own_turn : t < m → start + t < capacity → {new : List (List ℕ)} {r : ℕ} → Turned from start t a x y to new r
      → Turning from start m x y new (t + 1) r
  own_turn l inside g =
      let less = s.some in
      let long = each-length (λ i. cell from (start + i)) m in
      let small = one_or_none (ltb p q) in
      let first = ap (λ (i : ℕ). i + x) (each_at (λ i. cell from (start + i)) 0 m a (omega arith)) in
      let second = ap (λ (i : ℕ). i + y) (each_at (λ i. cell from (start + i)) 0 m (t - a) (omega arith)) in
      let turn = front_turn (lane from start m) x y a (t - a) (omega arith) (omega arith) s.front (ltb p q) (ap₂ ltb first second) in
      let rest : t - a + (1 - cond (ltb p q) 1 0) ≡ t + 1 - (a + cond (ltb p q) 1 0) = omega arith in
      let all : a + (t - a) ≡ t = omega arith in
      let goes : get_or (doubled x y (lane from start m)) t 0 ≡ min p q = rw all at turn.1 ∙ ap₂ min first second in
      rw (g.0, g.1) (record {
        met = omega arith;
        some = omega arith;
        front = rw rest at turn.0;
        stored = λ i c. stores (sym goes) i c (ℕ_discrete i t);
      })
    where
      p : ℕ
      p = cell from (start + a) + x

      q : ℕ
      q = cell from (start + (t - a)) + y

      stores : min p q ≡ get_or (doubled x y (lane from start m)) t 0 → (i : ℕ) → i < t + 1 → Dec (i ≡ t)
          → cell (put to (start + t) (min p q)) (start + i) ≡ get_or (doubled x y (lane from start m)) i 0
      stores f i c (yes e) = rw e (put_same shaped (start + t) (min p q) inside ∙ f)
      stores f i c (no e) = put_other shaped (start + t) (min p q) inside (start + i) (omega arith) ∙ s.stored i (omega arith)

  -- and a store outside it does too
  past : (p v : ℕ) → p < capacity → ((i : ℕ) → i < m → start + i ≢ p) → {new : List (List ℕ)} → new ≡ put to p v
      → Turning from start m x y new t a
  past p v inside apart e =
      rw e (record {
        met = s.met;
        some = s.some;
        front = s.front;
        stored = λ i c. put_other shaped p v inside (start + i) (apart i (omega (arith, s.met))) ∙ s.stored i c;
      })

-- the lanes below k after t + 1 turns each, the others after t
pub record InStep (from : List (List ℕ)) (first entries m : ℕ) (added : List Entries) (old to : List (List ℕ)) (t k : ℕ) (taken : List ℕ) : Type 0 where
  pub long : length taken ≡ 4
  pub shaped : Shaped to
  pub kept : Kept old first to
  pub before : (j : ℕ) → j < k → Turning from (first + j * entries) m (get_or added j none).zero (get_or added j none).one to (t + 1) (get_or taken j 0)
  pub behind : (j : ℕ) → k ≤ j → j < 4 → Turning from (first + j * entries) m (get_or added j none).zero (get_or added j none).one to t (get_or taken j 0)

module _ {from : List (List ℕ)} {first entries m : ℕ} {added : List Entries} (lanes : Lanes from first entries m added) {old to : List (List ℕ)} {t : ℕ} where
  module _ (l : t < m) {k : ℕ} (h : k < 4) {taken : List ℕ} (s : InStep from first entries m added old to t k taken) where
    -- the place that it stores at
    inside : first + k * entries + t < capacity
    inside = let p = lanes.place k h in omega (arith, p.inside, p.edge, lanes.room)

    -- the place lies in no other lane
    apart : (j : ℕ) → j ≢ k → (i : ℕ) → i < m → first + j * entries + i ≢ first + k * entries + t
    apart j n i c e = go (dec_lt j k) lanes.room
      where
        go : Dec (j < k) → m + m ≤ entries → ⊥
        go (yes b) r = omega (arith, place-before entries b)
        go (no b) r = let less : k < j = omega arith in omega (arith, place-before entries less)

    -- a turn of lane k
    pub step_more : {new : List (List ℕ)} {a : ℕ}
        → Turned from (first + k * entries) t (get_or taken k 0) (get_or added k none).zero (get_or added k none).one to new a
        → InStep from first entries m added old new t (k + 1) (set taken k a)
    step_more {new} {a} g = record {
      long = length-set taken k a ∙ s.long;
      shaped = rw g.0 (put-shaped s.shaped _ _ inside);
      kept = kept_more old s.shaped s.kept _ _ (omega arith) inside g.0;
      before = below_more _ k (λ j b. other j (omega arith) (s.before j b)) (rw (get_or-set_same taken k a 0 (omega (arith, s.long))) own);
      behind = λ j b c. other j (omega arith) (s.behind j (omega arith) c);
    }
      where
        own : Turning from (first + k * entries) m (get_or added k none).zero (get_or added k none).one new (t + 1) a
        own = own_turn (s.behind k (omega arith) h) s.shaped l inside g

        other : (j : ℕ) → j ≢ k → {n : ℕ} → Turning from (first + j * entries) m (get_or added j none).zero (get_or added j none).one to n (get_or taken j 0)
            → Turning from (first + j * entries) m (get_or added j none).zero (get_or added j none).one new n (get_or (set taken k a) j 0)
        other j n before = rw (get_or-set_other taken k j a 0 n) (past before s.shaped _ _ inside (apart j n) g.0)
