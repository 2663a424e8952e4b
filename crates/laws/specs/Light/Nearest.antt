-- Law of the level before clipping: "Before clipping, the level is never more than one half from 256·s", it is even where it is
-- one half away, and it is the only whole number of which both hold.
use Prim.Native.Nat.{ℕ, zero, suc, ◌+◌, ◌-◌, ◌*◌, ◌/◌, ◌%◌, ◌≤◌, ◌<◌, compare, Ordering}
use Rattle.std.specs.Prelude.{◌≡◌, refl, Bool, true, false, not, ℤ, pos, negsuc, nat_abs, ◌*ℤ◌, ◌-ℤ◌, T, eqb}
use Rattle.std.proofs.Common.{sym, ap, ◌∙◌, subst, div-add-mod', mod-lt, mul-le-mul_right, suc-mul, zero-mul, arith, leb→le, eqb→eq}
use Rattle.std.proofs.Math.Nat.{eq_of_mul-eq-mul_right}
use Rattle.std.proofs.Math.Dec.{is_le, compare_is_eq, nleb→lt, eqb_refl}
use Rattle.std.specs.Float.Ieee.{up, down, nearest}
use Rattle.std.specs.Float.Ieee.Fits.{down_pos}
use Rattle.rules.specs.Sample.{nearest_whole, signed, unclipped}
use Rattle.laws.specs.Numbers.Apart.{abs_sub}

-- ---- in natural numbers: a / b and the whole number nearest to it

-- how far two numbers are apart
abbrev pub apart : ℕ → ℕ → ℕ
apart x y = x - y + (y - x)

-- q is at most one half from a / b, and even where it is one half away
pub record Nearest (a b q : ℕ) : Type 0 where
  pub near : 2 * apart (q * b) a ≤ b
  pub even : 2 * apart (q * b) a ≡ b → q % 2 ≡ 0

-- what a comparison says
abbrev pub Compared : Ordering → ℕ → ℕ → Type 0
Compared Ordering.lt a b = a < b
Compared Ordering.eq a b = a ≡ b
Compared Ordering.gt a b = b < a

pub compared : (a b : ℕ) → Compared (compare a b) a b
compared a b =
    go (compare a b) (leb→le a b) (nleb→lt a b) (eqb→eq a b) (λ (e : a ≡ b). subst (λ (x : ℕ). T (eqb a x)) e (eqb_refl a))
  where
    less : a ≤ b → (a ≡ b → ⊥) → a < b
    less h n = omega arith

    go : (o : Ordering) → (T (is_le o) → a ≤ b) → (T (not (is_le o)) → b < a) → (T (compare_is_eq o) → a ≡ b) → (a ≡ b → T (compare_is_eq o))
        → Compared o a b
    go Ordering.lt h k e n = less (h tt) n
    go Ordering.eq h k e n = e tt
    go Ordering.gt h k e n = k tt

-- a number q with the multiple R, by how far R is from a
at : (a b q R : ℕ) → q * b ≡ R → 2 * apart R a ≤ b → (2 * apart R a ≡ b → q % 2 ≡ 0) → Nearest a b q
at a b q R e n v = record { near = rw e n; even = rw e v }

-- the quotient Q, whose multiple is P, or the next number, by twice the remainder r
whole : (Q P b r : ℕ) (o : Ordering) → Q * b ≡ P → r < b → Compared o (r * 2) b → Nearest (P + r) b (nearest Q o)
whole Q P b r Ordering.lt e l c = at (P + r) b Q P e (omega arith) (λ h. omega arith)
whole Q P b r Ordering.eq e l c = half (Q % 2) refl
  where
    half : (k : ℕ) → Q % 2 ≡ k → Nearest (P + r) b (Q + Q % 2)
    half zero z =
        let h : Q + Q % 2 ≡ Q = omega arith in
        at (P + r) b (Q + Q % 2) P (ap (λ (x : ℕ). x * b) h ∙ e) (omega arith) (λ _. omega arith)
    half (suc k) z =
        let h : Q + Q % 2 ≡ suc Q = omega arith in
        at (P + r) b (Q + Q % 2) (P + b) (ap (λ (x : ℕ). x * b) h ∙ suc-mul Q b ∙ ap (λ (x : ℕ). x + b) e) (omega arith)
        (λ _. omega arith)
whole Q P b r Ordering.gt e l c =
    at (P + r) b (suc Q) (P + b) (suc-mul Q b ∙ ap (λ (x : ℕ). x + b) e) (omega arith) (λ h. omega arith)

pub nearest_whole_lem : (a b : ℕ) → 0 < b → Nearest a b (nearest_whole a b)
unfolding nearest_whole
nearest_whole_lem a b B =
    subst (λ (x : ℕ). Nearest x b (nearest (a / b) (compare (a % b * 2) b))) (div-add-mod' a b)
    (whole (a / b) (a / b * b) b (a % b) (compare (a % b * 2) b) refl (mod-lt a B) (compared (a % b * 2) b))

-- two multiples, one at least b above the other and both within b / 2 of a, are b apart and both one half away
both_halves : (P R a b : ℕ) → P + b ≤ R → 2 * apart P a ≤ b → 2 * apart R a ≤ b
    → (R ≡ P + b) × (2 * apart P a ≡ b) × (2 * apart R a ≡ b)
both_halves P R a b h x y = (omega arith, omega arith, omega arith)

neighbours : (p q : ℕ) → q ≡ suc p → p % 2 ≡ 0 → q % 2 ≡ 0 → ⊥
neighbours p q e x y = omega arith

not-less : (a b p q : ℕ) → 0 < b → Nearest a b p → Nearest a b q → p < q → ⊥
not-less a b p q B x y h =
    let t = both_halves (p * b) (q * b) a b (subst (λ (z : ℕ). z ≤ q * b) (suc-mul p b) (mul-le-mul_right b h)) x.near y.near in
    neighbours p q (eq_of_mul-eq-mul_right b B q (suc p) (t.0 ∙ sym (suc-mul p b))) (x.even t.1) (y.even t.2)

pub nearest_only : (a b p q : ℕ) → 0 < b → Nearest a b p → Nearest a b q → p ≡ q
nearest_only a b p q B x y = same p q (not-less a b p q B x y) (not-less a b q p B y x)
  where
    same : (m n : ℕ) → (m < n → ⊥) → (n < m → ⊥) → m ≡ n
    same m n k l = omega arith

-- ---- in whole numbers of either sign: the sample is ±a / b levels

-- z is at most one half from ±a / b, and even where it is one half away
pub record NearestSigned (s : Bool) (a b : ℕ) (z : ℤ) : Type 0 where
  pub near : 2 * nat_abs (z *ℤ pos b -ℤ signed s a) ≤ b
  pub even : 2 * nat_abs (z *ℤ pos b -ℤ signed s a) ≡ b → nat_abs z % 2 ≡ 0

abs_signed : (s : Bool) (x : ℕ) → nat_abs (signed s x) ≡ x
abs_signed false x = refl
abs_signed true zero = refl
abs_signed true (suc x) = refl

times : (s : Bool) (q b : ℕ) → signed s q *ℤ pos b ≡ signed s (q * b)
times false q b = refl
times true zero b = simp zero-mul
times true (suc q) b = refl

-- two numbers of one sign
gap_like : (s : Bool) (x y : ℕ) → nat_abs (signed s x -ℤ signed s y) ≡ apart x y
gap_like false x zero = omega arith
gap_like false x (suc y) = abs_sub x (suc y)
gap_like true zero zero = refl
gap_like true zero (suc y) = omega arith
gap_like true (suc x) zero = omega (arith, abs_sub 0 (suc x))
gap_like true (suc x) (suc y) = omega (arith, abs_sub (suc y) (suc x))

-- two numbers of different signs
gap_unlike : (s : Bool) (x y : ℕ) → nat_abs (signed (not s) x -ℤ signed s y) ≡ x + y
gap_unlike false zero zero = refl
gap_unlike false zero (suc y) = omega (arith, abs_sub 0 (suc y))
gap_unlike false (suc x) zero = omega (arith, abs_sub 0 (suc x))
gap_unlike false (suc x) (suc y) = omega arith
gap_unlike true x zero = refl
gap_unlike true x (suc y) = refl

-- how far a multiple of b is from ±a
multiple_like : (s : Bool) (a b q : ℕ) → nat_abs (signed s q *ℤ pos b -ℤ signed s a) ≡ apart (q * b) a
multiple_like s a b q = ap (λ (z : ℤ). nat_abs (z -ℤ signed s a)) (times s q b) ∙ gap_like s (q * b) a

multiple_unlike : (s : Bool) (a b q : ℕ) → nat_abs (signed (not s) q *ℤ pos b -ℤ signed s a) ≡ q * b + a
multiple_unlike s a b q = ap (λ (z : ℤ). nat_abs (z -ℤ signed s a)) (times (not s) q b) ∙ gap_unlike s (q * b) a

signed-nearest : (s : Bool) (a b q : ℕ) → Nearest a b q → NearestSigned s a b (signed s q)
signed-nearest s a b q n =
    record { near = rw (multiple_like s a b q) n.near; even = rw (multiple_like s a b q, abs_signed s q) n.even }

nearest_unsigned : (s : Bool) (a b q : ℕ) → NearestSigned s a b (signed s q) → Nearest a b q
nearest_unsigned s a b q n =
    record { near = rw (multiple_like s a b q) at n.near; even = rw (multiple_like s a b q, abs_signed s q) at n.even }

other_sign : (s : Bool) (a b k : ℕ) → 0 < b → NearestSigned s a b (signed (not s) (suc k)) → ⊥
other_sign s a b k B n = omega (arith, rw (multiple_unlike s a b (suc k), suc-mul k b) at n.near)

only : (s : Bool) (a b : ℕ) (z : ℤ) → 0 < b → NearestSigned s a b z → z ≡ signed s (nearest_whole a b)
only false a b (pos q) B n = ap pos (nearest_only a b q (nearest_whole a b) B (nearest_unsigned false a b q n) (nearest_whole_lem a b B))
only false a b (negsuc k) B n = absurd (other_sign false a b k B n)
only true a b (pos zero) B n =
    ap (signed true) (nearest_only a b 0 (nearest_whole a b) B (nearest_unsigned true a b 0 n) (nearest_whole_lem a b B))
only true a b (pos (suc k)) B n = absurd (other_sign true a b k B n)
only true a b (negsuc k) B n =
    ap (signed true) (nearest_only a b (suc k) (nearest_whole a b) B (nearest_unsigned true a b (suc k) n) (nearest_whole_lem a b B))

-- ---- the level before clipping of the sample ±m * 2 ^ e, which is ±256 * m * up e / down e levels

pub unclipped-nearest : (s : Bool) (m : ℕ) (e : ℤ) → NearestSigned s (256 * m * up e) (down e) (unclipped s m e)
unfolding unclipped
unclipped-nearest s m e =
    signed-nearest s (256 * m * up e) (down e) (nearest_whole (256 * m * up e) (down e))
    (nearest_whole_lem (256 * m * up e) (down e) (down_pos e))

pub unclipped_only : (s : Bool) (m : ℕ) (e z : ℤ) → NearestSigned s (256 * m * up e) (down e) z → z ≡ unclipped s m e
unfolding unclipped
unclipped_only s m e z n = only s (256 * m * up e) (down e) z (down_pos e) n
