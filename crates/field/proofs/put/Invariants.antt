-- `field::put` meets its contract. Invariant: some bytes are put, and with those of what is left of the number they are all of them.
use Prim.Native.Nat.{ℕ, ◌+◌, ◌-◌}
use mathlib.Core.Path.{◌≡◌}
use mathlib.Core.List.{List, ◌++◌}
use Rattle.rules.specs.Request.{bytes_of}
use Rattle.text.specs.Puts.{Put}
use Rattle.field.proofs.put.Given as goal

-- the bytes before a place are put, and what is left of the number gives the others
pub record Through (before : List ℕ) (at width v : ℕ) (out : List ℕ) (rest place : ℕ) : Type 0 where
  pub bytes : List ℕ
  pub put : Put before at bytes place out
  pub whole : bytes ++ bytes_of (at + width - place) rest ≡ bytes_of width v

abbrev pub invariant-loop-place : goal.invariant-loop-place
invariant-loop-place l = Through l.initial.out l.at l.width l.v l.out l.rest l.place
