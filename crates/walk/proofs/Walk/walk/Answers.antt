-- `Walk::walk` meets its contract: the word 0 has every group still to be decided.
use Prim.Native.Nat.{ℕ, ◌*◌, ◌^◌}
use mathlib.Core.Path.{ap, ap₂, ◌∙◌}
use mathlib.Core.Option.{Option, some}
use native.Mathlib.Nat.{mul_assoc, mul-le-mul_right, le_refl}
use native.Mathlib.Omega.{arith}
use lib.Pow.{pow_pos, pow_mono}
use Rattle.rules.specs.Walk.{State, keep_best}
use Rattle.rules.specs.Refusals.{largest}
use Rattle.laws.specs.Seats.Decided.{decided, decided_none, blank_none}
use Rattle.groups.specs.Grouping.{Grouped}
use Rattle.walk.specs.Nodes.{Begun, most}
use Rattle.groups.specs.declared.Tree.{Tree}
use Rattle.groups.proofs.Tabling.{all_indices}
use Rattle.walk.proofs.Trying.{under}
use Rattle.walk.proofs.Walk.walk.Goals as goal

-- the word 0, and room for the distance of every slot
begin : {g : Tree} → Grouped g → Begun g g.groups 0 0
begin {g} given =
    record {
      within = le_refl g.groups;
      small = pow_pos (2 ^ g.n);
      blank = blank_none g.n g.folding g.groups;
      room =
          omega (
            arith,
            mul_assoc g.groups g.size most,
            mul-le-mul_right {m = g.groups * g.size} {n = 2 ^ largest} most (omega (arith, all_indices given, pow_mono {j = largest} given.small)),
          );
    }

pub node-requires : goal.node-requires
node-requires c =
    let given = c.requires in
    record { tabled = given; begun = rw c.none.ensures (begin given.grouped); running = omega (arith, c.start.ensures.1) }

pub returns : goal.returns
returns c =
    let begun = c.start.ensures in
    let self = c.args.self.now in
    let all = self.tree.groups in
    c.node.ensures
    ∙ ap₂ (λ (d : ℕ) (o : Option (State keep_best)). under c.args.rows.now self all 0 d o)
    (ap (decided self.tree.n self.tree.folding all) c.none.ensures ∙ decided_none self.tree.n self.tree.folding all)
    (λ i. some (record { kept = begun.0 i; visits = begun.1 i }))
