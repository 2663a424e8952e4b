-- Levels written in two bytes each: read again, each is itself.
use Rattle.std.specs.Prelude.{ℕ, zero, suc, ◌-◌, ◌*◌, ◌^◌, ◌<◌, ◌≡◌, List, [], ◌∷◌, ℤ, pos, negsuc, length, get_or}
use Rattle.std.proofs.Common.{ap, ◌∙◌, not-suc-le-zero, arith, lt-ltb, le-ltb}
use Rattle.rules.specs.Record.{number_at, signed16}
use Rattle.rules.specs.Request.{bytes_of, unsigned16, level_bytes}
use Rattle.laws.specs.Answers.LevelBytes.{Sixteen}
use Rattle.laws.specs.Numbers.BytesOf.{field_back}

-- before its sign is read it is a number of 16 bits
unsigned_small : (level : ℤ) → Sixteen level → unsigned16 level < 256 ^ 2
unsigned_small (pos v) l = omega arith
unsigned_small (negsuc v) l = omega arith

-- its sign read, it is itself
signed_back : (level : ℤ) → Sixteen level → signed16 (unsigned16 level) ≡ level
signed_back (pos v) l = rw (lt-ltb v 32768 l)
signed_back (negsuc v) l =
    let away : 65536 - (65535 - v) ≡ suc v = omega arith in
    rw (le-ltb (65535 - v) 32768 (omega arith), away)

-- the two bytes of a level
pub level_number : (levels : List ℤ) (i : ℕ) → i < length levels → Sixteen (get_or levels i (pos 0))
    → number_at (level_bytes levels) (2 * i) 2 ≡ unsigned16 (get_or levels i (pos 0))
unfolding level_bytes bytes_of
level_number [] i l fits = absurd (not-suc-le-zero l)
level_number (level ∷ levels) zero l fits = field_back 2 (unsigned16 level) (unsigned_small level fits)
level_number (level ∷ levels) (suc i) l fits =
    let next : 2 * suc i ≡ suc (suc (2 * i)) = omega arith in
    rw next (level_number levels i (omega arith) fits)

-- the level in them
pub level_back : (levels : List ℤ) (i : ℕ) → i < length levels → Sixteen (get_or levels i (pos 0))
    → signed16 (number_at (level_bytes levels) (2 * i) 2) ≡ get_or levels i (pos 0)
level_back levels i l fits = ap signed16 (level_number levels i l fits) ∙ signed_back (get_or levels i (pos 0)) fits
