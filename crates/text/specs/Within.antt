-- Text that is put into a buffer and is not longer than so many bytes: how a caller of this crate proves the room for the next part.
use Rattle.std.specs.Prelude.{ℕ, ◌+◌, ◌≤◌, List, ◌++◌, length}
use Rattle.std.proofs.Common.{arith, length-append}
use Rattle.text.specs.Puts.{Put, put-length, put_then}

pub record Within (most : ℕ) (before : List ℕ) (at : ℕ) (text : List ℕ) (end : ℕ) (after : List ℕ) : Type 0 where
  pub put : Put before at text end after
  pub short : length text ≤ most

module _ {most : ℕ} {before : List ℕ} {at : ℕ} {text : List ℕ} {end : ℕ} {after : List ℕ} (part : Within most before at text end after) where
  -- a text behind it
  pub within_then : {more : List ℕ} {last : ℕ} {whole : List ℕ} (k : ℕ) → Put after end more last whole → length more ≤ k
      → Within (most + k) before at (text ++ more) last whole
  within_then {more} k next l =
      record { put = put_then part.put next; short = omega (arith, part.short, length-append text more) }

  -- what room it leaves
  pub room_left : {room : ℕ} (k : ℕ) → at + room ≤ length before → most + k ≤ room → end + k ≤ length after
  room_left k fits l = omega (arith, part.short, part.put.ends, put-length part.put)
