-- A number written in so many bytes, little-endian, and read: it is itself, wherever in a list its bytes stand. And what is read from
-- bytes is small.
-- What rests on the statements here stands in proofs/Numbers/BytesOf.antt.
use Rattle.std.specs.Prelude.{ℕ, zero, suc, ◌+◌, ◌/◌, ◌^◌, ◌≤◌, ◌<◌, ◌≡◌, refl, List, ◌++◌, length, get_or, drop}
use Rattle.std.proofs.Common.{ap, arith, length-drop}
use Rattle.std.proofs.Math.Nat.{pow-succ', mod-add-div}
use Rattle.std.proofs.lemmas.List.{take-append-le, drop-append-le}
use Rattle.std.proofs.Math.Seq.{drop-append-add}
use Rattle.rules.specs.Record.{little_endian, number_at}
use Rattle.rules.specs.Request.{bytes_of}

-- a number in so many bytes has so many
pub bytes-length : (count v : ℕ) → length (bytes_of count v) ≡ count
unfolding bytes_of
bytes-length zero v = refl
bytes-length (suc count) v = ap suc (bytes-length count (v / 256))

-- a number that fits its bytes, written and read, is itself
pub field_back : (count v : ℕ) → v < 256 ^ count → little_endian (bytes_of count v) ≡ v
unfolding bytes_of little_endian
field_back zero v l = omega arith
field_back (suc count) v l =
    let fits : v / 256 < 256 ^ count = omega (arith, pow-succ' 256 count) in
    rw (field_back count (v / 256) fits) (mod-add-div v 256)

-- the number in bytes that others follow
pub number_before : (bytes after : List ℕ) (place count : ℕ) → place + count ≤ length bytes
    → number_at (bytes ++ after) place count ≡ number_at bytes place count
number_before bytes after place count l =
    rw (drop-append-le place bytes after (omega arith), take-append-le count (drop place bytes) after (simp length-drop (omega arith)))

-- the number in bytes that stand behind others
pub number_behind : (before bytes : List ℕ) (place count : ℕ)
    → number_at (before ++ bytes) (length before + place) count ≡ number_at bytes place count
number_behind before bytes place count = rw (drop-append-add before bytes place)

-- every element of a list is a byte
abbrev pub Bytes : List ℕ → Type 0
Bytes bytes = (i : ℕ) → i < length bytes → get_or bytes i 0 < 256
