-- `word::slots` meets its contract.
use mathlib.Core.Path.{◌≡◌, ◌∙◌, ap}
use Prim.Native.Nat.{ℕ, ◌^◌, min}
use native.Mathlib.Omega.{arith}
use Rattle.rules.specs.Refusals.{largest}
use Rattle.word.proofs.Shifts.{one_shifted}
use Rattle.word.proofs.slots.Goals as goal

pub returns-then-n-lt-LARGEST : goal.returns-then-n-lt-LARGEST
returns-then-n-lt-LARGEST c =
    let e : c.args.n ≡ min c.args.n largest = omega arith in
    one_shifted _ (omega arith) ∙ ap (λ (k : ℕ). 2 ^ k) e

pub returns-else-n-lt-LARGEST : goal.returns-else-n-lt-LARGEST
returns-else-n-lt-LARGEST c =
    let e : ◌≡◌ {A = ℕ} largest (min c.args.n largest) = omega arith in
    ap (λ (k : ℕ). 2 ^ k) e
