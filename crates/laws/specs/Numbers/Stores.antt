-- Runs of stores: `sets l i vs` has vs stored in l from index i on.
use Rattle.std.specs.Prelude.{ℕ, suc, ◌+◌, ◌≡◌, List, [], ◌∷◌, ◌++◌, length, set}
use Rattle.std.proofs.Common.{add-zero, arith}
use Rattle.std.proofs.lemmas.List.Edits.{sets}

module _ {A : Type 0} where
  -- a run, and one behind it
  pub sets_append : (l : List A) (i : ℕ) (vs ws : List A) → sets (sets l i vs) (i + length vs) ws ≡ sets l i (vs ++ ws)
  sets_append l i [] ws = rw add-zero
  sets_append l i (v ∷ vs) ws =
      let e : i + suc (length vs) ≡ suc i + length vs = omega arith in
      rw e (sets_append (set l i v) (suc i) vs ws)
