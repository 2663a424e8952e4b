-- `vectors::words::apart` meets its contract: every index before i has been tried.
use Rattle.std.proofs.Common.{◌≡◌, ℕ, ◌<◌, bit_and}
use Rattle.rules.specs.Word.{bit}
use Rattle.vectors.proofs.words.apart.Given as goal

abbrev pub invariant-loop-i : goal.invariant-loop-i
invariant-loop-i l =
    ((k : ℕ) → k < l.i → bit l.w k ≡ 1 → bit_and k l.own ≡ 0) × ((k : ℕ) → k < l.i → bit l.b k ≡ 1 → bit_and k l.own ≡ k)
