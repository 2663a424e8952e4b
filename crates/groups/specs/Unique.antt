-- A tree is determined by its n, its folding and its allowance.
use Rattle.std.specs.Prelude.{ℕ, ◌^◌, ◌≡◌}
use Rattle.std.proofs.Common.{ap, ap₂, sym, ◌∙◌}
use Rattle.std.specs.Int.Count.{ones}
use Rattle.rules.specs.Folding as rules
use Rattle.groups.specs.Grouping.{Grouped}
use Rattle.groups.specs.declared.Tree.{Tree}

pub tree_injective : (r s : Tree) → Grouped r → Grouped s → r.n ≡ s.n → r.folding ≡ s.folding → r.allowance ≡ s.allowance → r ≡ s
tree_injective r s g h n folding allowance =
    let size : r.size ≡ s.size = g.sized ∙ ap (λ (F : ℕ). 2 ^ ones F) folding ∙ sym h.sized in
    let groups : r.groups ≡ s.groups = g.all ∙ ap₂ rules.groups n folding ∙ sym h.all in
    λ i. record { n = n i; folding = folding i; size = size i; groups = groups i; allowance = allowance i }
