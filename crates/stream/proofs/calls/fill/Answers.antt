-- `calls::fill` has read what stands at the front of its bytes: each turn puts what it has read behind that.
use Prim.Native.Nat.{ℕ, ◌+◌, ◌≤◌}
use mathlib.Core.Path.{◌≡◌, sym, ap, ◌∙◌}
use mathlib.Core.List.{List, ◌++◌}
use lib.ListN.{length, take, drop}
use lib.Seq.{drop_at, take-add, take-append-le, length-take-le}
use borrow.Rule.Slice.PartMut.{put_mid, post_of}
use Rattle.std.proofs.Common.{subst, le_refl, arith}
use Rattle.std.proofs.lemmas.Slice.{take-put_mid_below}
use Rattle.std.specs.Io.KnownBytes.{Consumes}
use Rattle.std.proofs.KnownBytes.{Consumes-trans}
use Rattle.stream.proofs.calls.fill.Goals as goal

-- the front of a list after a write of ys behind its first a elements
front_grown : (a k n : ℕ) (xs ys : List ℕ) → a ≤ length xs → n ≤ length ys → take (a + n) (put_mid a k xs ys) ≡ take a xs ++ take n ys
front_grown a k n xs ys within fits =
    let whole = put_mid a k xs ys in
    let front : take a whole ≡ take a xs = take-put_mid_below a k xs ys a (le_refl a) within in
    let part : take n (drop a whole) ≡ take n ys =
    ap (take n) (drop_at (take a xs) (ys ++ post_of a k xs) a (length-take-le a xs within)) ∙ take-append-le n ys (post_of a k xs) fits in
    take-add a n whole ∙ ap (λ l. l ++ take n (drop a whole)) front ∙ ap (λ l. take a xs ++ l) part

pub loop-len-preserved : goal.loop-len-preserved
loop-len-preserved g c =
    let grown = front_grown c.loop-len.len _ c.in-Ok.more c.loop-len.bytes c.read.new.buf (omega arith) c.in-Ok.ensures.bound.0 in
    (omega (arith, c.in-Ok.ensures.bound.0), subst (Consumes _ _) (sym grown) (Consumes-trans _ _ _ _ _ c.loop-len.invariant.1 c.in-Ok.ensures.bytes.0))
