-- The loop of a node over its row: the candidates tried so far have led from the node's first state to the present one.
use Prim.Native.Nat.{ℕ, suc, ◌+◌, ◌-◌, ◌*◌, ◌/◌, ◌%◌, ◌^◌, ◌≤◌, ◌<◌}
use mathlib.Core.Path.{◌≡◌, refl, sym, ap, ap₂, ◌∙◌}
use mathlib.Core.Bool.{Bool, true, false, cond}
use mathlib.Core.Option.{Option, none, some, none-ne-some, some-injective}
use mathlib.Core.List.{List, ◌∷◌}
use native.Mathlib.Numerals.{add-one}
use native.Mathlib.Omega.{arith}
use lib.Bits.{bit_and, bit_xor}
use lib.Dec.{eqb, leb}
use lib.ListN.{length, get_or}
use borrow.Author.Tests.{leb-true}
use Rattle.rules.specs.Level.{keep}
use Rattle.rules.specs.Walk.{Candidate, State, keep_best, count, walk, is_farther}
use Rattle.laws.specs.Walk.Allowance.{within, within_some, visit_in, walk_in, walk-within, visit_end, visit_stopped, visit_out, visit_cut, visit_down, walk_last, walk-node}
use Rattle.laws.specs.Seats.SeatedRow.{is_open, entry_candidate}
use Rattle.laws.specs.Seats.Decided.{decided, decided_all}
use Rattle.laws.specs.Numbers.Each.{each-length, each_at}
use Rattle.rows.specs.Table.{entry_at, row_at}
use Rattle.word.specs.declared.Word.{Word}
use Rattle.word.specs.Words.{word_at}
use Rattle.walk.specs.States.{kept_of, running_of}
use Rattle.walk.specs.Nodes.{Given, row_candidates}
use Rattle.walk.specs.declared.Walk.{Walk}
use Rattle.walk.specs.declared.state.Walked.{Walked}
use Rattle.walk.proofs.RowRest.{rest, rest_open, rest_shut, rest_end}
use Rattle.walk.proofs.Steps.{nearer, forced, closed, here, reached, next, open_is, fills}

-- a state with one visit more
abbrev pub once : Walked → Walked
once s = record { word = s.word; distance = s.distance; visits = s.visits + 1 }

once_counted : (s : Walked) → ◌≡◌ {A = Option (State keep_best)} (some (running_of (once s))) (some (count (running_of s)))
once_counted s = rw (add-one s.visits)

-- a state that a walk within the allowance ended with is within it
some_within : (a : ℕ) (s t : State keep_best) → some s ≡ within a t → s.visits ≤ a
unfolding within
some_within a s t e = go (leb t.visits a) refl e
  where
    go : (b : Bool) → leb t.visits a ≡ b → some s ≡ cond b (some t) none → s.visits ≤ a
    go true l q = rw (some-injective s t q) (leb-true t.visits a l)
    go false l q = absurd (none-ne-some s (sym q))

-- the word decided so far, with so many levels left
abbrev pub decided_at : Walk → ℕ → ℕ → ℕ
decided_at walk left w = decided walk.tree.n walk.tree.folding left w

-- the rules' walk of the levels that are left
abbrev pub under : List (List ℕ) → Walk → ℕ → ℕ → ℕ → Option (State keep_best) → Option (State keep_best)
under rows walk = walk_in keep_best walk.tree.allowance (row_candidates rows walk)

-- what the rules do with the whole node
abbrev pub wholly : List (List ℕ) → Walk → ℕ → ℕ → ℕ → Walked → Option (State keep_best)
wholly rows walk left partial w s = under rows walk left partial (decided_at walk left w) (some (running_of s))

-- what they do with candidates of group k, at a state
abbrev pub trial : List (List ℕ) → Walk → ℕ → ℕ → ℕ → List Candidate → Option (State keep_best) → Option (State keep_best)
trial rows walk k partial w = visit_in keep_best walk.tree.allowance (under rows walk k) partial (decided_at walk (suc k) w)

-- a node that ends within the allowance
ends_within : (rows : List (List ℕ)) (walk : Walk) (left partial w : ℕ) (s back : Walked) → s.visits ≤ walk.tree.allowance
    → some (running_of back) ≡ wholly rows walk left partial w s → back.visits ≤ walk.tree.allowance
ends_within rows walk left partial w s back running came =
    some_within walk.tree.allowance (running_of back) _
    (came ∙ ap (under rows walk left partial (decided_at walk left w)) (sym (within_some walk.tree.allowance (running_of s) running))
    ∙ walk-within keep_best walk.tree.allowance (row_candidates rows walk) left partial (decided_at walk left w) (running_of s))

-- the loop's invariant
pub record Trying (rows : List (List ℕ)) (change : List Word) (walk : Walk) (left partial w k base : ℕ) (first s : Walked) (j : ℕ) : Type 0 where
  pub given : Given rows change walk (suc k) partial w first
  pub levels : left ≡ suc k
  pub based : base ≡ partial + nearer given
  pub running : s.visits ≤ walk.tree.allowance
  pub same : trial rows walk k partial w (rest rows walk.tree.n walk.tree.folding walk.tree.size k (nearer given) (forced given) (closed given) j) (some (running_of s))
      ≡ wholly rows walk left partial w first

module _ {rows : List (List ℕ)} {change : List Word} {walk : Walk} {left partial w k base : ℕ} {first s : Walked} {j : ℕ}
    (t : Trying rows change walk left partial w k base first s j) where
  -- the node's whole result
  abbrev whole : Option (State keep_best)
  whole = wholly rows walk left partial w first

  -- the candidates of the row from an entry on
  abbrev remaining : ℕ → List Candidate
  remaining = rest rows walk.tree.n walk.tree.folding walk.tree.size k (nearer t.given) (forced t.given) (closed t.given)

  module _ {row : List ℕ} (is : row ≡ row_at rows walk.tree.size k) where
    row-long : length row ≡ 2 ^ walk.tree.size
    row-long = ap length is ∙ each-length (entry_at rows walk.tree.size k) (2 ^ walk.tree.size)

    -- an entry of the row, as the code reads it
    pub inside_row : j < length row → j < 2 ^ walk.tree.size
    inside_row h = rw row-long at h

    pub entry_read : j < length row → get_or row j 0 ≡ entry_at rows walk.tree.size k j
    entry_read h = ap (λ (l : List ℕ). get_or l j 0) is ∙ each_at (entry_at rows walk.tree.size k) 0 (2 ^ walk.tree.size) j (inside_row h)

    past_row : length row ≤ j → 2 ^ walk.tree.size ≤ j
    past_row h = rw row-long at h

  -- the row is at its end
  pub trying_end : {row : List ℕ} → row ≡ row_at rows walk.tree.size k → length row ≤ j → some (running_of s) ≡ whole
  trying_end is past =
      let h = past_row is past in
      sym (visit_end keep_best walk.tree.allowance (under rows walk k) partial (decided_at walk (suc k) w) (some (running_of s)))
      ∙ ap (λ (cs : List Candidate). trial rows walk k partial w cs (some (running_of s))) (sym (rest_end rows _ _ _ k _ _ _ j h))
      ∙ t.same

  module _ (below : j < 2 ^ walk.tree.size) where
    -- the candidate of entry j
    abbrev here_is : Candidate
    here_is = entry_candidate walk.tree.n walk.tree.folding walk.tree.size k (nearer t.given) (forced t.given) (entry_at rows walk.tree.size k j)

    module _ (e : ℕ) (entry-is : e ≡ entry_at rows walk.tree.size k j) where
      pub total-is : base + 1024 * (e / 256) ≡ reached t.given j below
      total-is = rw entry-is (omega (arith, t.based))

      module _ (after : ℕ) (changed : after ≡ bit_xor w (word_at walk.covered k * word_at change (e % 256))) where
        -- the next word as the code made it
        pub next-is : after ≡ next t.given j below
        next-is = changed ∙ ap (λ (a : ℕ). bit_xor w (word_at walk.covered k * word_at change (a % 256))) entry-is

        module _ (r : Bool) (test : r ≡ eqb (bit_and after (word_at walk.shut k)) 0) where
          open_right : is_open (closed t.given) (forced t.given) (entry_at rows walk.tree.size k j) ≡ r
          open_right = sym (test ∙ ap (λ (a : ℕ). eqb (bit_and a (word_at walk.shut k)) 0) next-is ∙ open_is t.given j below)

          -- a word with a frozen bit: on to the next entry
          pub trying_shut : r ≡ false → Trying rows change walk left partial w k base first s (j + 1)
          trying_shut q =
              record {
                given = t.given;
                levels = t.levels;
                based = t.based;
                running = t.running;
                same =
                    ap (λ (cs : List Candidate). trial rows walk k partial w cs (some (running_of s))) (sym (rest_shut rows _ _ _ k _ _ _ j below (open_right ∙ q)))
                    ∙ t.same;
              }

          module _ (q : r ≡ true) where
            -- the candidate and those after it, from the present state
            opened : trial rows walk k partial w (here_is ∷ remaining (j + 1)) (some (running_of s)) ≡ whole
            opened =
                ap (λ (cs : List Candidate). trial rows walk k partial w cs (some (running_of s)))
                (sym (rest_open rows _ _ _ k _ _ _ j below (open_right ∙ q)))
                ∙ t.same

            -- the next visit would pass the allowance
            pub trying_out : walk.tree.allowance ≤ s.visits → none ≡ whole
            trying_out out =
                sym (visit_out keep_best walk.tree.allowance (under rows walk k) partial (decided_at walk (suc k) w) _ _ (running_of s) out)
                ∙ opened

            module _ (allowed : s.visits < walk.tree.allowance) (total : ℕ) (summed : total ≡ base + 1024 * (e / 256)) where
              total_right : total ≡ partial + here_is.branch
              unfolding entry_candidate
              total_right = summed ∙ total-is

              -- the visit is counted, and the node is left
              pub trying_cut : is_farther (kept_of s) total ≡ true → some (running_of (once s)) ≡ whole
              trying_cut far =
                  once_counted s
                  ∙ sym (visit_cut keep_best walk.tree.allowance (under rows walk k) partial (decided_at walk (suc k) w) _ _ (running_of s) allowed (rw (← total_right) far))
                  ∙ opened

              -- the walk went down one level and came back
              module _ (near : is_farther (kept_of s) total ≡ false) (back : Option (State keep_best))
                  (came : back ≡ wholly rows walk k total after (once s)) where
                onwards : trial rows walk k partial w (remaining (j + 1)) back ≡ whole
                onwards =
                    ap (trial rows walk k partial w (remaining (j + 1)))
                    (came ∙ ap₂ (λ (p : ℕ) (o : Option (State keep_best)). under rows walk k p (decided_at walk k after) o) total_right (once_counted s)
                    ∙ ap (λ (d : ℕ). under rows walk k (partial + here_is.branch) d (some (count (running_of s)))) (ap (decided_at walk k) next-is ∙ fills t.given j below))
                    ∙ sym (visit_down keep_best walk.tree.allowance (under rows walk k) partial (decided_at walk (suc k) w) _ _ (running_of s) allowed (rw (← total_right) near))
                    ∙ opened

                -- the allowance was used up below
                pub trying_stopped : back ≡ none → none ≡ whole
                trying_stopped off =
                    sym (visit_stopped keep_best walk.tree.allowance (under rows walk k) partial (decided_at walk (suc k) w) (remaining (j + 1)))
                    ∙ ap (trial rows walk k partial w (remaining (j + 1))) (sym off) ∙ onwards

                -- on to the next entry
                pub trying_back : (now : Walked) → back ≡ some (running_of now) → Trying rows change walk left partial w k base first now (j + 1)
                trying_back now is =
                    record {
                      given = t.given;
                      levels = t.levels;
                      based = t.based;
                      running = ends_within rows walk k total after (once s) now (omega (arith, allowed)) (sym is ∙ came);
                      same = ap (trial rows walk k partial w (remaining (j + 1))) (sym is) ∙ onwards;
                    }

-- a node with no level left keeps the word or not
pub at_leaf : {rows : List (List ℕ)} {change : List Word} {walk : Walk} {left partial w : ℕ} {s : Walked}
    → Given rows change walk left partial w s → left ≡ 0 → (back : Walked)
    → (kept_of back ≡ keep partial w (kept_of s)) × (back.visits ≡ s.visits)
    → some (running_of back) ≡ wholly rows walk left partial w s
at_leaf {rows} {walk = walk} {left} {partial} {w} {s} given none_left back kept =
    let own : decided_at walk 0 w ≡ w = decided_all walk.tree.n walk.tree.folding given.tabled.grouped.fits w given.begun.small in
    (λ i. some (record { kept = (kept.0 ∙ ap (λ (v : ℕ). keep partial v (kept_of s)) (sym own)) i; visits = kept.1 i }))
    ∙ sym (walk_last keep_best walk.tree.allowance (row_candidates rows walk) partial (decided_at walk 0 w) (running_of s))
    ∙ ap (λ (l : ℕ). wholly rows walk l partial w s) (sym none_left)

module _ {rows : List (List ℕ)} {change : List Word} {walk : Walk} {left partial w : ℕ} {s : Walked}
    (given : Given rows change walk left partial w s) (some_left : left ≡ 0 → ⊥) where
  levels_left : left ≡ suc (left - 1)
  levels_left = omega arith

  -- what is given where levels are left, by the group that is decided next
  pub given_next : Given rows change walk (suc (left - 1)) partial w s
  given_next = rw levels_left at given

  -- the loop begins
  pub trying_none : Trying rows change walk left partial w (left - 1) (partial + nearer given_next) s s 0
  trying_none =
      record {
        given = given_next;
        levels = levels_left;
        based = refl;
        running = given.running;
        same =
            ap (λ (cs : List Candidate). trial rows walk (left - 1) partial w cs (some (running_of s))) (sym (here given_next))
            ∙ sym (walk-node keep_best walk.tree.allowance (row_candidates rows walk) (left - 1) partial (decided_at walk (suc (left - 1)) w) (some (running_of s)))
            ∙ ap (λ (l : ℕ). wholly rows walk l partial w s) (sym levels_left);
      }
