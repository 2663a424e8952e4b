-- `request::written::put_levels` meets its contract. Invariant: the levels of the slots before this one are put.
use Prim.Native.Nat.{ℕ, suc, ◌+◌, ◌*◌}
use mathlib.Core.Path.{◌≡◌, sym, ◌∙◌, ap}
use mathlib.Core.Bool.{true}
use mathlib.Core.List.{List, [], ◌∷◌, ◌++◌, map, map-append, append_assoc, append-nil}
use native.Mathlib.Nat.{add-zero}
use native.Mathlib.Numerals.{add-one}
use native.Mathlib.Omega.{arith}
use lib.IntN.{ℤ}
use mir.Syntax.{w32}
use mir.ValLaws.{to_z-of_z}
use Rattle.rules.specs.Below.{list_below}
use Rattle.rules.specs.Request.{bytes_of, unsigned16, level_bytes}
use Rattle.laws.specs.Numbers.BytesOf.{bytes-length}
use Rattle.word.specs.Words.{word_of}
use Rattle.text.specs.Puts.{put_none, put_then}
use Rattle.request.specs.Writing.{level_in, slot_bytes}
use Rattle.request.proofs.written.put_levels.Goals as goal

-- the bytes of levels that are followed by another
level-bytes-last : (levels : List ℤ) (level : ℤ) → level_bytes (levels ++ (level ∷ [])) ≡ level_bytes levels ++ bytes_of 2 (unsigned16 level)
unfolding level_bytes
level-bytes-last [] level = append-nil _
level-bytes-last (l ∷ levels) level =
    ap (λ (bytes : List ℕ). bytes_of 2 (unsigned16 l) ++ bytes) (level-bytes-last levels level) ∙ sym (append_assoc (bytes_of 2 (unsigned16 l)) _ _)

-- one slot more
slot-bytes-next : (x slots slot : ℕ) → slot_bytes x slots (suc slot) ≡ slot_bytes x slots slot ++ bytes_of 2 (unsigned16 (level_in x slots slot))
unfolding list_below
slot-bytes-next x slots slot =
    rw (map-append (level_in x slots) (list_below slot (λ i. true)) (slot ∷ []))
    (level-bytes-last (map (level_in x slots) (list_below slot (λ i. true))) (level_in x slots slot))

pub loop-slot-init : goal.loop-slot-init
unfolding list_below level_bytes
loop-slot-init c = rw add-zero (put_none _ _)

pub loop-slot-preserved : goal.loop-slot-preserved
loop-slot-preserved c =
    let args = c.args in
    let slot = c.loop-slot.slot in
    let shown = c.from.ensures ∙ c.unsigned-bits.ensures ∙ ap unsigned16 (to_z-of_z w32 _ (record { sfits = c.level.type_inv }) ∙ c.level.ensures) in
    let put = c.put.ensures in
    let end : c.put.result ≡ args.at + 2 * (slot + 1) = omega (arith, put.ends, bytes-length 2 c.from.result) in
    let whole = rw end at (put_then c.loop-slot.invariant (rw shown at put)) in
    rw (add-one slot, slot-bytes-next (word_of args.x) args.slots slot) (rw (add-one slot) at whole)
