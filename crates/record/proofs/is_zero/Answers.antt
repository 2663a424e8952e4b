-- `record::is_zero` meets its contract: a number is zero where each of its bytes is.
use Prim.Native.Nat.{ℕ, ◌+◌, ◌*◌}
use mathlib.Core.Path.{◌≡◌, refl, ◌∙◌}
use mathlib.Core.Bool.{◌&&◌}
use mathlib.Core.List.{List, [], ◌∷◌}
use native.Mathlib.Omega.{arith}
use borrow.Author.Rules.{rules}
use borrow.Author.Tests.{tests}
use lib.Dec.{eqb}
use Rattle.std.specs.List.{list_all}
use Rattle.std.proofs.lemmas.Iterator.{YieldsList-from_slice}
use Rattle.std.proofs.lemmas.Iterator.Search.{all_from_yields_List}
use Rattle.std.proofs.lemmas.Bool.Decides.{nat_tests}
use Rattle.rules.specs.Record.{little_endian}
use Rattle.record.proofs.is_zero.Goals as goal

-- a byte and what stands behind it
zero_parts : (byte high : ℕ) → (eqb byte 0 && eqb high 0) ≡ eqb (byte + 256 * high) 0
zero_parts byte high = grind (arith, nat_tests)

zeros-number : (bytes : List ℕ) → list_all (λ byte. eqb byte 0) bytes ≡ eqb (little_endian bytes) 0
unfolding little_endian
zeros-number [] = refl
zeros-number (byte ∷ bytes) = rw (zeros-number bytes) (zero_parts byte (little_endian bytes))

pub returns : goal.returns
returns c =
    let bytes = c.args.bytes.now in
    all_from_yields_List (λ (byte : ℕ). eqb byte 0) _ _ _ c.all.ensures.ran (YieldsList-from_slice bytes cc) (λ x b q k. search (rules, tests))
    ∙ zeros-number bytes
