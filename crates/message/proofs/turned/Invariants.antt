-- `message::turned` meets its contract. Invariant: the bits of the unfrozen indices below i have been moved.
use Prim.Native.Nat.{ℕ, ◌≤◌}
use mathlib.Core.Bool.{Bool}
use Rattle.rules.specs.Word.{bit}
use Rattle.word.specs.Words.{word_of}
use Rattle.message.specs.Ends.{Goes}
use Rattle.message.proofs.Moves.{Moved, source, target}
use Rattle.message.proofs.turned.Given as goal

-- what has been moved, by the direction
abbrev pub Turned : ℕ → ℕ → Bool → ℕ → ℕ → ℕ → Type 0
Turned frozen w packs = Moved frozen (λ j. bit w (source packs frozen j)) (target packs frozen)

abbrev pub invariant-loop-i : goal.invariant-loop-i
invariant-loop-i g l =
    (l.place ≤ l.i) × ((packs : Bool) → Goes (goal.F-post g l.ends) packs → Turned (word_of l.frozen) (word_of l.w) packs l.i l.r l.place)
