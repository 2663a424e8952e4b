-- The walk finds the least word, under every folding and for every cost.
use Prim.Native.Nat.{ℕ, ◌^◌, ◌<◌, zero-le}
use Rattle.std.specs.Prelude.{◌≡◌, Bool, ◌⊎◌}
use Rattle.std.proofs.Math.Path.{refl, ap}
use Rattle.std.proofs.Common.{◌∙◌, inl, inr, ltb-true, ltb-false}
use Rattle.std.proofs.Math.Bool.{true, false, cond}
use Rattle.std.proofs.Math.Option.{none, some}
use Rattle.std.proofs.Math.Dec.{ltb}
use Rattle.rules.specs.Word.{permitted}
use Rattle.rules.specs.Level.{Best, nothing, best, word_distance, least_word, Least}
use Rattle.rules.specs.Folding.{groups}
use Rattle.rules.specs.Walk.{keep_best, candidates, walk_of, walk_visits}
use Rattle.laws.proofs.Walk.Completions.{leaf-permitted, permitted-leaf}
use Rattle.laws.specs.Code.Permitted.{permitted-zero}
use Rattle.laws.specs.Distance.Least.{least_of, least_word_lem}
use Rattle.laws.specs.Walk.Allowance.{walk_allowed, walk_in, within, within_none, within_some}
use Rattle.laws.specs.Walk.BranchAndBound.{AtMost, Leaf, best-good, best_from}
use Rattle.laws.specs.Walk.Candidates.{candidates_ordered}

module _ (n mask : ℕ) (cost : ℕ → ℕ → ℕ) (folding : ℕ) (fits : folding < 2 ^ n) where
  -- what the walk has kept at the end is at most every permitted word
  walk_most : (e : ℕ) → permitted n mask e ≡ true → AtMost (walk_of n mask cost folding).kept (word_distance n cost e) e
  unfolding walk_of
  walk_most e t = (best-good (candidates n mask cost folding) (candidates_ordered n mask cost folding) (groups n folding) 0 0
      (record { kept = nothing; visits = 0 })).below _ e (permitted-leaf n mask cost folding fits e t)

  -- the walk keeps a least word, with its distance
  pub walk_finds : (d : ℕ) × Least n mask cost d × ((walk_of n mask cost folding).kept ≡ best (word_distance n cost d) d)
  unfolding walk_of AtMost
  walk_finds = go (best_from (candidates n mask cost folding) (groups n folding) 0 0 (record { kept = nothing; visits = 0 }))
    where
      go : ((walk_of n mask cost folding).kept ≡ nothing)
          ⊎ ((q : ℕ) × (e : ℕ) × Leaf (candidates n mask cost folding) (groups n folding) 0 0 q e × ((walk_of n mask cost folding).kept ≡ best q e))
          → (d : ℕ) × Least n mask cost d × ((walk_of n mask cost folding).kept ≡ best (word_distance n cost d) d)
      go (inl e) = absurd (rw e at (walk_most 0 (permitted-zero n mask)))
      go (inr (q, d, l, e)) =
          let a = leaf-permitted n mask cost folding fits q d l in
          (d, least_of n mask cost d a.0 (λ x t. rw (e, a.1) at (walk_most x t)), rw (← a.1) e)

  -- what the walk keeps is the least word, with its distance
  pub walk_least : (walk_of n mask cost folding).kept ≡ best (word_distance n cost (least_word n mask cost)) (least_word n mask cost)
  walk_least = rw (← least_word_lem n mask cost walk_finds.0 walk_finds.1) walk_finds.2

  -- within an allowance: nothing where the walk's total passes it, else the least word, its distance and the total
  pub walk_least_in : (allowance : ℕ)
      → walk_in keep_best allowance (candidates n mask cost folding) (groups n folding) 0 0 (some (record { kept = nothing; visits = 0 }))
      ≡ cond (ltb allowance (walk_visits n mask cost folding)) none
      (some (record {
        kept = best (word_distance n cost (least_word n mask cost)) (least_word n mask cost);
        visits = walk_visits n mask cost folding;
      }))
  unfolding walk_of
  walk_least_in allowance =
      walk_allowed keep_best allowance (candidates n mask cost folding) (groups n folding) 0 0 (record { kept = nothing; visits = 0 }) zero-le
      ∙ go (ltb allowance (walk_visits n mask cost folding)) refl
    where
      go : (t : Bool) → ltb allowance (walk_visits n mask cost folding) ≡ t
          → within allowance (walk_of n mask cost folding)
          ≡ cond t none (some (record {
            kept = best (word_distance n cost (least_word n mask cost)) (least_word n mask cost);
            visits = walk_visits n mask cost folding;
          }))
      go true t = within_none allowance (walk_of n mask cost folding) (ltb-true allowance (walk_visits n mask cost folding) t)
      go false t = within_some allowance (walk_of n mask cost folding) (ltb-false allowance (walk_visits n mask cost folding) t)
          ∙ ap (λ (b : Best). some (record { kept = b; visits = walk_visits n mask cost folding })) walk_least
