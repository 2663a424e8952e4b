-- Bytes that are copied into a part of a buffer which is as long as they are: they are put there.
use Prim.Native.Nat.{ℕ, ◌+◌, ◌-◌, ◌≤◌}
use mathlib.Core.Path.{◌≡◌, refl, sym, ◌∙◌}
use mathlib.Core.List.{List}
use native.Mathlib.Omega.{arith}
use lib.ListN.{length}
use lib.Seq.{sets-eq, take-length}
use borrow.Rule.Slice.PartMut.{put_mid}
use Rattle.std.proofs.lemmas.Slice.{put_mid-paste}
use Rattle.text.specs.Puts.{Put}

pub put_copied : (out : List ℕ) (at : ℕ) (bytes copy : List ℕ) → at + length bytes ≤ length out → copy ≡ bytes
    → Put out at bytes (at + length bytes) (put_mid at (at + length bytes - at) out copy)
put_copied out at bytes copy room same =
    let fits : length bytes ≡ at + length bytes - at = omega arith in
    record {
      ends = refl;
      holds =
          put_mid-paste at _ out copy bytes (length bytes) same fits refl
          ∙ rw (take-length bytes) (sym (sets-eq bytes out at room));
    }
