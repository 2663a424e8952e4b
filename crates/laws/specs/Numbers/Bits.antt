-- Laws of `bit` by index: numbers with equal bits are equal, what each operation does to the bits, and the bits of a word that a
-- test picks.
use Rattle.std.specs.Prelude.{ℕ, zero, suc, ◌+◌, ◌*◌, ◌/◌, ◌%◌, ◌^◌, ◌≤◌, ◌<◌, min, ◌≡◌, refl, ◌≢◌, Bool, true, false, ◌&&◌, cond, eqb}
use Rattle.std.proofs.Common.{sym, ap, ◌∙◌, add_comm, div-one, mod-eq_of_lt, le_of_suc-le-suc, lt-suc_self, one-mul, mod-lt, mul-le-mul_right, not-suc-le-zero, one-add, arith, pow_pos, pow_mono, shr-shr, shl_exact, eqb-true, eq-eqb, ne_eqb}
use Rattle.std.proofs.Math.Nat.{le_dest, zero-div, div-eq_of_lt, div_self, mod_self, two-pow-succ}
use Rattle.std.proofs.Math.Decide.{ℕ_discrete, dec_lt}
use Rattle.std.proofs.Math.Pow.{pow-lt, field, mod-mod-pow, high, low}
use Rattle.std.specs.Int.Bits.{bit_and, bit_xor, and_step, xor_add_and, xor_disjoint, and_self, and_lt}
use Rattle.std.proofs.lemmas.Nat.{and_shr, xor_shr, and_le_r, and_block}
use Rattle.rules.specs.Below.{sum_below}
use Rattle.rules.specs.Word.{bit, covers}

-- a bit is 0 or 1
pub bit_lt_two : (w i : ℕ) → bit w i < 2
bit_lt_two w i = omega arith

-- 0 has no one bit
pub bit-zero : (i : ℕ) → bit 0 i ≡ 0
bit-zero i = rw (zero-div (2 ^ i))

-- a one shifted up within w bits, as the machine shifts it
pub power_shifted : (w i : ℕ) → i < w → 1 * 2 ^ i % 2 ^ w ≡ 2 ^ i
power_shifted w i fits = shl_exact 1 i w (omega arith) (omega arith) ∙ one-mul (2 ^ i)

-- the bits of w shifted down
pub bit-div : (w k i : ℕ) → bit (w / 2 ^ k) i ≡ bit w (k + i)
bit-div w k i = ap (λ (x : ℕ). x % 2) (shr-shr w k i)

-- no one bit stands beyond a number's size
pub bit_beyond : {w k i : ℕ} → w < 2 ^ k → k ≤ i → bit w i ≡ 0
bit_beyond {w = w} {k = k} {i = i} h l = rw (div-eq_of_lt {n = w} {m = 2 ^ i} (omega (arith, pow_mono l)))

-- a one bit stands within a number's size
pub bit-within : {w k i : ℕ} → w < 2 ^ k → bit w i ≡ 1 → i < k
bit-within {w} {k} {i} h b = go (dec_lt i k)
  where
    go : Dec (i < k) → i < k
    go (yes l) = l
    go (no g) = absurd (omega (arith, bit_beyond {w = w} {k = k} {i = i} h (omega arith)))

-- the low k bits of w are its own
pub bit-mod : (w k i : ℕ) → i < k → bit (w % 2 ^ k) i ≡ bit w i
bit-mod w k i h =
    let r = le_dest h in
    let e : k ≡ (r.0 + 1) + i = omega (arith, r.1) in
    rw (e, field w (r.0 + 1) i, mod-mod-pow (w / 2 ^ i) r.0 1)

-- and none beyond
pub bit_mod_beyond : (w k i : ℕ) → k ≤ i → bit (w % 2 ^ k) i ≡ 0
bit_mod_beyond w k i l = bit_beyond (mod-lt w (pow_pos k)) l

-- of a number of two parts, the low bits are the low part's
pub bit_low : (hi k : ℕ) {lo : ℕ} → lo < 2 ^ k → (i : ℕ) → i < k → bit (hi * 2 ^ k + lo) i ≡ bit lo i
bit_low hi k {lo} h i l = sym (bit-mod (hi * 2 ^ k + lo) k i l) ∙ ap (λ (x : ℕ). bit x i) (low hi k h)

-- and the bits above are the high part's
pub bit_high : (hi k : ℕ) {lo : ℕ} → lo < 2 ^ k → (i : ℕ) → bit (hi * 2 ^ k + lo) (k + i) ≡ bit hi i
bit_high hi k {lo} h i = sym (bit-div (hi * 2 ^ k + lo) k i) ∙ ap (λ (x : ℕ). bit x i) (high hi k h)

-- the bits of a half
pub bit_half : (w i : ℕ) → bit (w / 2) i ≡ bit w (suc i)
bit_half w i = bit-div w 1 i ∙ ap (bit w) (one-add i)

lt-two-pow : (n : ℕ) → n < 2 ^ n
lt-two-pow zero = pow_pos 0
lt-two-pow (suc n) = omega (arith, lt-two-pow n, two-pow-succ n)

-- numbers of k bits with the same bits are equal
pub bit_ext_below : (k : ℕ) {a b : ℕ} → a < 2 ^ k → b < 2 ^ k → ((i : ℕ) → i < k → bit a i ≡ bit b i) → a ≡ b
bit_ext_below zero ha hb h = omega arith
bit_ext_below (suc k) {a} {b} ha hb h =
    let high : a / 2 ≡ b / 2 = bit_ext_below k (omega (arith, two-pow-succ k)) (omega (arith, two-pow-succ k)) (λ i l. bit_half a i ∙ h (suc i) (omega arith) ∙ sym (bit_half b i)) in
    let low : a % 2 ≡ b % 2 = rw (← div-one a, ← div-one b) (h 0 (omega arith)) in
    omega arith

-- numbers with the same bits are equal
pub bit_ext : {a b : ℕ} → ((i : ℕ) → bit a i ≡ bit b i) → a ≡ b
bit_ext {a} {b} h =
    bit_ext_below (a + b) (omega (arith, lt-two-pow (a + b))) (omega (arith, lt-two-pow (a + b))) (λ i l. h i)

-- the bits of an exclusive or
pub bit-xor : (a b i : ℕ) → bit (bit_xor a b) i ≡ (bit a i + bit b i) % 2
bit-xor a b i = rw xor_shr (omega (arith, xor_add_and (a / 2 ^ i) (b / 2 ^ i)))

-- an exclusive or with b twice changes nothing
pub xor_twice : (a b : ℕ) → bit_xor (bit_xor a b) b ≡ a
xor_twice a b = bit_ext (λ i. bit-xor (bit_xor a b) b i ∙ ap (λ (x : ℕ). (x + bit b i) % 2) (bit-xor a b i) ∙ omega arith)

-- the bits of an and
pub bit-and : (a b i : ℕ) → bit (bit_and a b) i ≡ min (bit a i) (bit b i)
bit-and a b i = rw and_shr (omega (arith, and_step (a / 2 ^ i) (b / 2 ^ i)))

-- the bit of a power of two
pub bit_pow_same : (k : ℕ) → bit (2 ^ k) k ≡ 1
bit_pow_same k = rw (div_self {n = 2 ^ k} (pow_pos k))

-- and no other one
pub bit_pow_other : (k i : ℕ) → i ≢ k → bit (2 ^ k) i ≡ 0
bit_pow_other k i n = go (dec_lt i k)
  where
    go : Dec (i < k) → bit (2 ^ k) i ≡ 0
    go (yes l) = sym (bit-mod (2 ^ k) k i l) ∙ rw (mod_self (2 ^ k)) (bit-zero i)
    go (no g) = bit_beyond (pow-lt (lt-suc_self k)) (omega arith)

-- where no bit is one in both, the bits of a sum are those of its parts
pub bit-add : (a b : ℕ) → ((k : ℕ) → bit a k + bit b k ≤ 1) → (i : ℕ) → bit (a + b) i ≡ bit a i + bit b i
bit-add a b h i =
    let apart : bit_and a b ≡ 0 = bit_ext (λ k. bit-and a b k ∙ (omega (arith, h k)) ∙ sym (bit-zero k)) in
    rw (← xor_disjoint a b apart, bit-xor a b i) (omega (arith, h i))

-- a power of two added where its bit is 0
pub bit-put : (w k : ℕ) → bit w k ≡ 0 → (i : ℕ) → bit (w + 2 ^ k) i ≡ bit w i + bit (2 ^ k) i
bit-put w k z = bit-add w (2 ^ k) (λ i. at i (ℕ_discrete i k))
  where
    at : (i : ℕ) → Dec (i ≡ k) → bit w i + bit (2 ^ k) i ≤ 1
    at i (yes e) = rw e (omega (arith, bit_pow_same k))
    at i (no ne) = omega (arith, bit_pow_other k i ne, bit_lt_two w i)

-- the word of m given bits is below 2 ^ m
pub word_lt : (m : ℕ) (b : ℕ → ℕ) → ((i : ℕ) → i < m → b i < 2) → sum_below m (λ i. b i * 2 ^ i) < 2 ^ m
unfolding sum_below
word_lt zero b h = pow_pos 0
word_lt (suc m) b h =
    omega (arith, word_lt m b (λ i l. h i (omega arith)), two-pow-succ m, mul-le-mul_right (2 ^ m) (le_of_suc-le-suc (h m (omega arith))), one-mul (2 ^ m))

-- its bits are the given ones
pub word_bit : (m : ℕ) (b : ℕ → ℕ) → ((i : ℕ) → i < m → b i < 2) → (i : ℕ) → i < m → bit (sum_below m (λ j. b j * 2 ^ j)) i ≡ b i
unfolding sum_below
word_bit zero b h i l = absurd (not-suc-le-zero l)
word_bit (suc m) b h i l = go (ℕ_discrete i m) (word_bit m b (λ j k. h j (omega arith)) i)
  where
    rest : ℕ
    rest = sum_below m (λ j. b j * 2 ^ j)

    small : rest < 2 ^ m
    small = word_lt m b (λ j k. h j (omega arith))

    go : Dec (i ≡ m) → (i < m → bit rest i ≡ b i) → bit (rest + b m * 2 ^ m) i ≡ b i
    go (yes e) below = rw (e, add_comm rest (b m * 2 ^ m), high (b m) m small) (mod-eq_of_lt (h m (omega arith)))
    go (no n) below = rw (add_comm rest (b m * 2 ^ m)) (bit_low (b m) m small i (omega arith) ∙ below (omega arith))

eqb_block : (k x a y r : ℕ) → y < 2 ^ k → r < 2 ^ k → eqb (x * 2 ^ k + y) (a * 2 ^ k + r) ≡ (eqb x a && eqb y r)
eqb_block k x a y r hy hr = go (ℕ_discrete x a) (ℕ_discrete y r)
  where
    go : Dec (x ≡ a) → Dec (y ≡ r) → eqb (x * 2 ^ k + y) (a * 2 ^ k + r) ≡ (eqb x a && eqb y r)
    go (yes p) (yes q) = rw (p, q, eq-eqb a a refl, eq-eqb r r refl) (eq-eqb (a * 2 ^ k + r) (a * 2 ^ k + r) refl)
    go (no p) d = rw (ne_eqb x a p) (ne_eqb (x * 2 ^ k + y) (a * 2 ^ k + r) (λ e. p (sym (high x k hy) ∙ ap (λ (w : ℕ). w / 2 ^ k) e ∙ high a k hr)))
    go (yes p) (no q) = rw (p, eq-eqb a a refl, ne_eqb y r q) (ne_eqb (a * 2 ^ k + y) (a * 2 ^ k + r) (λ e. q (omega arith)))

-- i is covered by j: each bit of i is at most j's
pub covers_at : (i j : ℕ) → covers i j ≡ true → (k : ℕ) → bit i k ≤ bit j k
covers_at i j e k = omega (arith, bit-and i j k, ap (λ (x : ℕ). bit x k) (eqb-true (bit_and i j) i e))

-- each bit of i is at most j's: i is covered by j
pub covers_of : (i j : ℕ) → ((k : ℕ) → bit i k ≤ bit j k) → covers i j ≡ true
covers_of i j h = eq-eqb (bit_and i j) i (bit_ext (λ k. bit-and i j k ∙ omega (arith, h k)))

-- a number covers itself
pub covers_refl : (i : ℕ) → covers i i ≡ true
covers_refl i = eq-eqb (bit_and i i) i (and_self i)

-- what covers i is not below i
pub covers-le : (i j : ℕ) → covers i j ≡ true → i ≤ j
covers-le i j e = omega (arith, and_le_r i j, eqb-true (bit_and i j) i e)

-- two numbers that cover one another are equal
pub covers_antisym : (i j : ℕ) → covers i j ≡ true → covers j i ≡ true → i ≡ j
covers_antisym i j p q = omega (arith, covers-le i j p, covers-le j i q)

-- the k low bits and those above are covered apart
pub covers_block : (k a b r s : ℕ) → r < 2 ^ k → s < 2 ^ k
    → covers (a * 2 ^ k + r) (b * 2 ^ k + s) ≡ (covers a b && covers r s)
covers_block k a b r s hr hs = rw (and_block k a b r s hr hs) (eqb_block k (bit_and a b) a (bit_and r s) r (and_lt k r s hr hs) hr)

-- a number with no one at m or beyond is below 2 ^ m
pub small_of_bits : (m w : ℕ) → ((i : ℕ) → m ≤ i → bit w i ≡ 0) → w < 2 ^ m
small_of_bits m w h = rw (bit_ext {a = w} {b = w % 2 ^ m} (λ i. go i (dec_lt i m))) (mod-lt w (pow_pos m))
  where
    go : (i : ℕ) → Dec (i < m) → bit w i ≡ bit (w % 2 ^ m) i
    go i (yes l) = sym (bit-mod w m i l)
    go i (no g) = h i (omega arith) ∙ sym (bit_mod_beyond w m i (omega arith))

-- the bits of w below m that pass a test, in their places
unfoldable pub picked : ℕ → (ℕ → Bool) → ℕ → ℕ
picked m test w = sum_below m (λ i. cond (test i) (bit w i) 0 * 2 ^ i)

picked-bits : (test : ℕ → Bool) (w i : ℕ) → cond (test i) (bit w i) 0 < 2
picked-bits test w i = go (test i)
  where
    go : (t : Bool) → cond t (bit w i) 0 < 2
    go true = bit_lt_two w i
    go false = omega arith

-- a bit that passes is there
pub picked_in : (m : ℕ) (test : ℕ → Bool) (w i : ℕ) → i < m → test i ≡ true → bit (picked m test w) i ≡ bit w i
unfolding picked
picked_in m test w i l t = word_bit m _ (λ j _. picked-bits test w j) i l ∙ rw t

-- no other is
pub picked_out : (m : ℕ) (test : ℕ → Bool) (w i : ℕ) → test i ≡ false → bit (picked m test w) i ≡ 0
unfolding picked
picked_out m test w i t = go (dec_lt i m)
  where
    go : Dec (i < m) → bit (picked m test w) i ≡ 0
    go (yes l) = word_bit m _ (λ j _. picked-bits test w j) i l ∙ rw t
    go (no g) = bit_beyond (word_lt m _ (λ j _. picked-bits test w j)) (omega arith)

-- nor any at m or beyond
pub picked_beyond : (m : ℕ) (test : ℕ → Bool) (w i : ℕ) → m ≤ i → bit (picked m test w) i ≡ 0
unfolding picked
picked_beyond m test w i l = bit_beyond (word_lt m _ (λ j _. picked-bits test w j)) l
