-- `field::number` meets its contract. Invariant: it is the number in the first i bytes, which is small.
use Prim.Native.Nat.{ℕ, zero, suc, ◌+◌, ◌*◌, ◌%◌, ◌^◌, ◌≤◌, ◌<◌}
use mathlib.Core.Path.{◌≡◌, refl}
use mathlib.Core.List.{List}
use native.Mathlib.Nat.{mod-eq_of_lt, mul-le-mul_left, pow-le-pow_right}
use native.Mathlib.Omega.{arith}
use lib.ListN.{length, get_or}
use Rattle.std.proofs.Common.{pow-suc, pow-add}
use Rattle.std.proofs.lemmas.Grind.{pow_more}
use Rattle.rules.specs.Record.{little_endian, number_at}
use Rattle.laws.specs.Numbers.LittleEndian.{number_one, number_parts}
use Rattle.field.proofs.number.Goals as goal
use Rattle.field.proofs.number.Goals.{After-from}

-- a shift by 8 k bits is one by k bytes
bytes-shifted : (k : ℕ) → 2 ^ (8 * k) ≡ 256 ^ k
bytes-shifted zero = refl
bytes-shifted (suc k) =
    let e : 8 * suc k ≡ 8 * k + 8 = omega arith in
    rw (e, pow-add 2 (8 * k) 8, bytes-shifted k, pow-suc 256 k)

-- a byte behind i others counts 256 ^ i times, and no bit of it is shifted out of a word
byte-shifted : (byte i : ℕ) → byte < 256 → i < 8 → byte * 2 ^ (8 * i) % 2 ^ 64 ≡ 256 ^ i * byte
byte-shifted byte i small l =
    let most : 256 ^ (i + 1) ≤ 256 ^ 8 = pow-le-pow_right {n = 256} (omega arith) {i = i + 1} {j = 8} (omega arith) in
    let fits : 256 ^ i * byte ≤ 256 ^ i * 255 = mul-le-mul_left (256 ^ i) (omega arith) in
    let place : byte * 2 ^ (8 * i) ≡ 256 ^ i * byte = rw (bytes-shifted i) (omega arith) in
    rw place (mod-eq_of_lt (omega (arith, pow_more 256 i)))

-- a byte more: the number is that of the bytes, it is small, and it fits a word
more : (bytes : List ℕ) (place i number byte : ℕ) → place + i < length bytes → i < 8 → byte < 256 → byte ≡ get_or bytes (place + i) 0
    → number ≡ number_at bytes place i → number < 256 ^ i
    → (number + byte * 2 ^ (8 * i) % 2 ^ 64 ≡ number_at bytes place (i + 1))
    × (number + byte * 2 ^ (8 * i) % 2 ^ 64 < 256 ^ (i + 1)) × (number + byte * 2 ^ (8 * i) % 2 ^ 64 < 2 ^ 64)
more bytes place i number byte inside few small is so below =
    let all = number_parts bytes place i 1 (omega arith) in
    let one = number_one bytes (place + i) inside in
    let fits : 256 ^ i * byte ≤ 256 ^ i * 255 = mul-le-mul_left (256 ^ i) (omega arith) in
    let most : 256 ^ (i + 1) ≤ 256 ^ 8 = pow-le-pow_right {n = 256} (omega arith) {i = i + 1} {j = 8} (omega arith) in
    rw (byte-shifted byte i small few) (cc, omega (arith, pow_more 256 i), omega (arith, pow_more 256 i))

pub loop-i-init : goal.loop-i-init
unfolding little_endian
loop-i-init c = record { value = refl; small = omega arith }

next : (c : After-from)
    → (c.loop-i.number + c.from.result * 2 ^ (8 * c.loop-i.i) % 2 ^ 64 ≡ number_at c.args.bytes.now c.args.place (c.loop-i.i + 1))
    × (c.loop-i.number + c.from.result * 2 ^ (8 * c.loop-i.i) % 2 ^ 64 < 256 ^ (c.loop-i.i + 1))
    × (c.loop-i.number + c.from.result * 2 ^ (8 * c.loop-i.i) % 2 ^ 64 < 2 ^ 64)
next c =
    let i = c.loop-i.i in
    let byte : c.from.result < 256 = omega (arith, c.from.ensures, c.type_inv.bytes (c.args.place + i)) in
    more _ _ i _ _ (omega arith) (omega arith) byte c.from.ensures c.loop-i.invariant.value c.loop-i.invariant.small

pub overflow_add-number : goal.overflow_add-number
overflow_add-number c = record { fits = (next c).2 }

pub loop-i-preserved : goal.loop-i-preserved
loop-i-preserved c = record { value = (next c).0; small = (next c).1 }

pub returns-clause-value : goal.returns-clause-value
returns-clause-value c =
    let all : c.loop-i.i ≡ c.args.width = omega arith in
    rw all at c.loop-i.invariant.value

pub returns-clause-small : goal.returns-clause-small
returns-clause-small c =
    let all : c.loop-i.i ≡ c.args.width = omega arith in
    rw all at c.loop-i.invariant.small
