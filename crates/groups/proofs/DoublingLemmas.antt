-- The first m items of a list once more behind them, by a step: item by item, and what the longer list begins with.
use Prim.Native.Nat.{ℕ, ◌+◌, ◌≤◌, ◌<◌}
use mathlib.Core.Path.{◌≡◌, refl, ◌∙◌}
use mathlib.Core.List.{List}
use native.Mathlib.Omega.{arith}
use lib.ListN.{length, get_or, set, length-set}
use lib.Seq.{get_or-set_same, get_or-set_other}
use borrow.Author.Count.{below_more}
use Rattle.std.proofs.lemmas.List.{get_or_read_under}
use Rattle.groups.specs.Doubling.{Doubled}

-- while items are doubled: the first m as they were, and u of them once more by the step
pub record Turned {T : Type 0} (before after : List T) (m : ℕ) (step : T → T → Type 0) (u : ℕ) : Type 0 where
  pub same : length after ≡ length before
  pub kept : (v : ℕ) (d : T) → v < m → get_or after v d ≡ get_or before v d
  pub added : (v : ℕ) (d : T) → v < u → step (get_or before v d) (get_or after (m + v) d)

module _ {T : Type 0} {before : List T} {m : ℕ} {step : T → T → Type 0} where
  -- before the first turn
  pub turned_none : Turned before before m step 0
  turned_none = record { same = refl; kept = λ v d h. refl; added = λ v d h. absurd (omega arith) }

  module _ {after : List T} {u : ℕ} (turned : Turned before after m step u) where
    -- one item more
    pub turned_next : m + m ≤ length before → u < m → (w x : T) → w ≡ get_or after u w → step w x
        → Turned before (set after (m + u) x) m step (u + 1)
    turned_next room h w x read made =
        record {
          same = length-set after (m + u) x ∙ turned.same;
          kept = λ v d l. get_or-set_other after (m + u) v x d (λ (e : v ≡ m + u). omega arith) ∙ turned.kept v d l;
          added = λ v d l. below_more (λ v. step (get_or before v d) (get_or (set after (m + u) x) (m + v) d)) u
              (λ v l. rw (get_or-set_other after (m + u) (m + v) x d (λ (e : m + v ≡ m + u). omega arith)) (turned.added v d l))
              (rw (get_or-set_same after (m + u) x d (omega (arith, turned.same)), ← turned.kept u d h, ← get_or_read_under after u (length after) w d read (omega (arith, turned.same)) refl) made) v l;
        }

    -- after the last turn
    pub turned_all : m ≤ u → Doubled before after m step
    turned_all all = record { kept = turned.kept; added = λ v d h. turned.added v d (omega arith) }
