-- What `calls::put` has written is the front of its bytes.
use Prim.Native.Nat.{ℕ, ◌+◌, ◌-◌, ◌≤◌}
use mathlib.Core.Path.{◌≡◌, sym, ap, ◌∙◌}
use mathlib.Core.List.{List, ◌++◌}
use lib.ListN.{length, take, drop}
use lib.Seq.{take-add, take-take}
use Rattle.std.proofs.Common.{subst, arith, rules}
use Rattle.std.specs.Io.KnownBytes.{Appends}
use Rattle.std.proofs.KnownBytes.{Appends-trans}
use Rattle.stream.proofs.calls.put.Goals as goal

-- the front of a list, cut at a: the second part is the front of the rest
front_grown : (a n k : ℕ) (xs : List ℕ) → n ≤ k → take a xs ++ take n (take k (drop a xs)) ≡ take (a + n) xs
front_grown a n k xs few = ap (λ l. take a xs ++ l) (take-take n k (drop a xs) few) ∙ sym (take-add a n xs)

pub loop-done-preserved : goal.loop-done-preserved
loop-done-preserved g c =
    let few : c.in_ok-more.more ≤ length c.args.bytes.now - c.loop-done.done = search rules in (
      omega (arith, few),
      subst (Appends _ _) (front_grown c.loop-done.done c.in_ok-more.more _ c.args.bytes.now few)
          (Appends-trans _ _ _ _ _ c.loop-done.invariant.1 c.in_ok-more.ensures.bytes),
    )
