-- `field::put` meets its contract. Invariant: some bytes are put, and with those of what is left of the number they are all of them.
use Prim.Native.Nat.{suc, ◌+◌, ◌-◌, ◌%◌}
use mathlib.Core.Path.{◌≡◌, sym, ◌∙◌}
use mathlib.Core.List.{[], ◌∷◌, ◌++◌, append_assoc, append-nil}
use native.Mathlib.Omega.{arith}
use Rattle.rules.specs.Request.{bytes_of}
use Rattle.text.specs.Puts.{put_byte}
use Rattle.field.proofs.put.Goals as goal

pub loop-place-preserved : goal.loop-place-preserved
unfolding bytes_of
loop-place-preserved c =
    let t = c.loop-place.invariant in
    let place = c.loop-place.place in
    let byte = c.loop-place.rest % 256 in
    let end = c.args.at + c.args.width in
    let left : end - place ≡ suc (end - (place + 1)) = omega arith in
    record {
      bytes = t.bytes ++ (byte ∷ []);
      put = put_byte t.put byte;
      whole = append_assoc t.bytes (byte ∷ []) _ ∙ rw left at t.whole;
    }

pub returns : goal.returns
unfolding bytes_of
returns c =
    let t = c.loop-place.invariant in
    let end = c.args.at + c.args.width in
    let all : c.loop-place.place ≡ end = omega arith in
    let none : end - end ≡ 0 = omega arith in
    rw (all, sym (append-nil t.bytes) ∙ rw (all, none) at t.whole) at t.put
