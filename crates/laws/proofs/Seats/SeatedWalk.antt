-- The walk over sorted rows in seat order is document 01's walk.
use Prim.Native.Nat.{ℕ, zero, suc, ◌+◌, ◌*◌, ◌^◌, ◌≤◌, ◌<◌}
use Rattle.std.specs.Prelude.{◌≡◌, cond, ltb}
use Rattle.std.proofs.Math.Path.{refl}
use Rattle.std.proofs.Common.{◌∙◌, div-lt_iff_lt-mul, mul-le-mul_right, le_refl, arith, pow_pos}
use Rattle.std.proofs.Math.Option.{Option, none, some}
use mathlib.Core.List.{List, [], ◌∷◌, Memᴰ}
use Rattle.std.specs.Int.Count.{ones}
use Rattle.rules.specs.Below.{sum_below}
use Rattle.rules.specs.Word.{bit}
use Rattle.rules.specs.Level.{nothing, best, word_distance, least_word}
use Rattle.rules.specs.Folding.{group, groups}
use Rattle.rules.specs.Walk.{Candidate, Keeping, State, count, keep_best, candidate, candidates, walk_visits}
use Rattle.laws.proofs.Seats.SeatGroups.{seat-group}
use Rattle.laws.proofs.Seats.SeatedRow.{seated-candidates}
use Rattle.laws.proofs.Walk.LeastByWalk.{walk_least_in}
use Rattle.laws.specs.Code.Permitted.{permitted-lt}
use Rattle.laws.specs.Rows.SortedRows.{row_of}
use Rattle.laws.specs.Seats.SeatWords.{seat, seat-bit, unseat, unseat-seat}
use Rattle.laws.specs.Seats.SeatedWalk.{seated_candidates}
use Rattle.laws.specs.Seats.Seats.{seat_below, seat_index}
use Rattle.laws.specs.Walk.Allowance.{visit_in, walk_in}
use Rattle.laws.specs.Walk.Candidates.{candidates_at}
use Rattle.laws.specs.Walk.Completions.{Node, node_down, root}
use Rattle.laws.specs.Walk.Fillings.{Fills}
use Rattle.laws.specs.Walk.GroupSizes.{groups_all}

-- the candidates of a node are visited alike where the walks below agree at each
visit_same : (K : Keeping) (a : ℕ) (down below : ℕ → ℕ → Option (State K) → Option (State K)) (p d : ℕ) (cs : List Candidate)
    → ((c : Candidate) → Memᴰ c cs → (q : ℕ) (o : Option (State K)) → down q (d + c.filling) o ≡ below q (d + c.filling) o)
    → (o : Option (State K)) → visit_in K a down p d cs o ≡ visit_in K a below p d cs o
unfolding visit_in
visit_same K a down below p d [] h o = refl
visit_same K a down below p d (c ∷ cs) h none = refl
visit_same K a down below p d (c ∷ cs) h (some s) =
    rw (h c (Memᴰ.head refl) (p + c.branch) (some (count s)), visit_same K a down below p d cs (λ x m. h x (Memᴰ.tail m)))

module _ (n mask : ℕ) (cost : ℕ → ℕ → ℕ) (near : ℕ → ℕ) (more : ℕ → ℕ → ℕ) (split : (i b : ℕ) → cost i b ≡ near i + 1024 * more i b)
    (F : ℕ) (bases : ℕ → ℕ) (rows : ℕ → List ℕ) (fits : F < 2 ^ n) (few : ones F ≤ 3)
    (summed : (k : ℕ) → k < groups n F → bases k ≡ sum_below (2 ^ ones F) (λ t. near (seat_index n F (k * 2 ^ ones F + t))))
    (sorted : (k : ℕ) → k < groups n F → rows k ≡ row_of (λ t b. more (seat_index n F (k * 2 ^ ones F + t)) b) (2 ^ ones F)) where
  node-candidates : (k d : ℕ) → k < groups n F → Node n mask F (suc k) d → seated_candidates n mask F bases rows k d ≡ candidates n mask cost F k d
  unfolding seated_candidates
  node-candidates k d hk node =
      rw (summed k hk, sorted k hk) (rw back at (seated-candidates n mask cost near more split F k (seat n F d) fits few hk clear (rw back node)))
    where
      back : unseat n F (seat n F d) ≡ d
      back = unseat-seat n F fits d (permitted-lt n mask d node.allowed)

      clear : (i : ℕ) → i < suc k * 2 ^ ones F → bit (seat n F d) i ≡ 0
      clear i l =
          let h : i < 2 ^ n = omega (arith, groups_all n F fits, mul-le-mul_right (2 ^ ones F) hk) in
          seat-bit n F d i h ∙ node.undecided _ (seat_below n F fits i h) (rw (seat-group n F fits i h) ((div-lt_iff_lt-mul (pow_pos (ones F))).1 l))

  -- at every node the two walks agree
  pub seated-walk : (a k p d : ℕ) (o : Option (State keep_best)) → k ≤ groups n F → Node n mask F k d
      → walk_in keep_best a (seated_candidates n mask F bases rows) k p d o ≡ walk_in keep_best a (candidates n mask cost F) k p d o
  unfolding walk_in candidate
  seated-walk a zero p d none l node = refl
  seated-walk a zero p d (some s) l node = refl
  seated-walk a (suc k) p d o l node =
      rw (node-candidates k d l node) (visit_same keep_best a _ _ p d (candidates n mask cost F k d) (λ c m q o.
      seated-walk a k q (d + c.filling) o (omega arith) (below c (candidates_at n mask cost F k d c m))) o)
    where
      below : (c : Candidate) → (f : ℕ) × Fills mask (group n F k) f × (c ≡ candidate n cost d (group n F k) f) → Node n mask F k (d + c.filling)
      below c (f, h, e) = rw e (node_down n mask F k d f node h)

  -- within an allowance: nothing where the walk's total passes it, else the least word, its distance and the total
  pub seated_least_in : (allowance : ℕ)
      → walk_in keep_best allowance (seated_candidates n mask F bases rows) (groups n F) 0 0 (some (record { kept = nothing; visits = 0 }))
      ≡ cond (ltb allowance (walk_visits n mask cost F)) none
      (some (record {
        kept = best (word_distance n cost (least_word n mask cost)) (least_word n mask cost);
        visits = walk_visits n mask cost F;
      }))
  seated_least_in allowance = seated-walk allowance (groups n F) 0 0 _ (le_refl _) (root n mask F (groups n F)) ∙ walk_least_in n mask cost F fits allowance
