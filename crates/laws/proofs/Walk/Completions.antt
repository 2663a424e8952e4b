-- The leaves of the tree: with k levels left, the leaves below a node are the permitted words that agree with its
-- word in the groups decided; at the root, every permitted word, each at its distance.
use Prim.Native.Nat.{ℕ, zero, suc, ◌+◌, ◌^◌, ◌<◌}
use Rattle.std.specs.Prelude.{◌≡◌, true}
use Rattle.std.proofs.Math.Path.{refl}
use Rattle.std.proofs.Common.{sym, ◌∙◌, zero-add, arith}
use Rattle.rules.specs.Word.{permitted}
use Rattle.rules.specs.Level.{word_distance}
use Rattle.rules.specs.Folding.{group, groups}
use Rattle.rules.specs.Walk.{branch, candidate, candidates}
use Rattle.laws.specs.Walk.BranchAndBound.{Leaf, Under}
use Rattle.laws.specs.Walk.Branches.{branch_cong, cost_left, left_all, left_step, left_zero}
use Rattle.laws.specs.Walk.Candidates.{candidates_at, candidates_of_lem}
use Rattle.laws.specs.Walk.Completions.{Completes, Node, completes_all, completes_none, fill_zero, next_filling, node-add, node_down, root}
use Rattle.laws.specs.Walk.Fillings.{Fills}
use Rattle.laws.specs.Walk.GroupSizes.{group_at}
use Rattle.laws.specs.Walk.Groups.{code_bit_depends}

-- a candidate's branch is that of every completion of its word
pub branch_final : (n mask : ℕ) (cost : ℕ → ℕ → ℕ) (folding k d e : ℕ) → Completes n mask folding k d e
    → branch n cost d (group n folding k) ≡ branch n cost e (group n folding k)
branch_final n mask cost folding k d e h = branch_cong n cost d e (group n folding k) (λ i m.
    code_bit_depends n folding d e i (λ j l g. sym (h.agrees j l (omega (arith, (group_at n folding k i m).1)))))

-- a completion of a word with a filling completes the word
completes_up : (n mask folding k d f e : ℕ) → Node n mask folding (suc k) d → Fills mask (group n folding k) f
    → Completes n mask folding k (d + f) e → Completes n mask folding (suc k) d e
completes_up n mask folding k d f e v h c = record {
  allowed = c.allowed;
  agrees = λ j l g. c.agrees j l (omega arith)
      ∙ omega (arith, node-add n mask folding k d f v h j, fill_zero n mask folding k f j h (omega arith));
}

module _ (n mask : ℕ) (cost : ℕ → ℕ → ℕ) (folding : ℕ) where
  -- a leaf below a node completes its word, at the partial distance and the cost left
  pub leaf-completes : (k p d q e : ℕ) → Node n mask folding k d → Leaf (candidates n mask cost folding) k p d q e
      → Completes n mask folding k d e × (q ≡ p + cost_left n cost folding k e)
  unfolding Leaf Under candidate
  leaf-completes zero p d q e v l =
      (rw l.1 (record { allowed = v.allowed; agrees = λ j i g. refl }), omega (arith, left_zero n cost folding e))
  leaf-completes (suc k) p d q e v (c, m, l) =
      let r = candidates_at n mask cost folding k d c m in
      let h = leaf-completes k (p + branch n cost (d + r.0) (group n folding k)) (d + r.0) q e (node_down n mask folding k d r.0 v r.1) (rw r.2 at l) in (
        completes_up n mask folding k d r.0 e v r.1 h.0,
        omega (arith, h.1, left_step n cost folding k e, branch_final n mask cost folding k (d + r.0) e h.0),
      )

  -- every completion of a node's word is a leaf below it
  pub completion_leaf : (k p d e : ℕ) → Node n mask folding k d → Completes n mask folding k d e
      → Leaf (candidates n mask cost folding) k p d (p + cost_left n cost folding k e) e
  unfolding Leaf Under candidate
  completion_leaf zero p d e v h = (
    omega (arith, left_zero n cost folding e),
    completes_all n mask folding d e v h,
  )
  completion_leaf (suc k) p d e v h =
      let next = next_filling n mask folding k d e v h in
      let f : ℕ = next.0 in
      let far : p + cost_left n cost folding (suc k) e ≡ p + branch n cost (d + f) (group n folding k) + cost_left n cost folding k e
      = omega (arith, left_step n cost folding k e, branch_final n mask cost folding k (d + f) e next.2) in (
        candidate n cost d (group n folding k) f,
        candidates_of_lem n mask cost folding k d f next.1,
        rw far (completion_leaf k (p + branch n cost (d + f) (group n folding k)) (d + f) e (node_down n mask folding k d f v next.1) next.2),
      )

  -- the leaves of the whole tree are permitted words, each at its distance
  pub leaf-permitted : folding < 2 ^ n → (q e : ℕ) → Leaf (candidates n mask cost folding) (groups n folding) 0 0 q e
      → (permitted n mask e ≡ true) × (q ≡ word_distance n cost e)
  leaf-permitted fits q e l =
      let h = leaf-completes (groups n folding) 0 0 q e (root n mask folding (groups n folding)) l in
      (h.0.allowed, h.1 ∙ zero-add _ ∙ left_all n cost folding fits e)

  -- and every permitted word is a leaf
  pub permitted-leaf : folding < 2 ^ n → (e : ℕ) → permitted n mask e ≡ true
      → Leaf (candidates n mask cost folding) (groups n folding) 0 0 (word_distance n cost e) e
  permitted-leaf fits e t = rw (zero-add _ ∙ left_all n cost folding fits e)
      at (completion_leaf (groups n folding) 0 0 e (root n mask folding (groups n folding)) (completes_none n mask folding e fits t))
