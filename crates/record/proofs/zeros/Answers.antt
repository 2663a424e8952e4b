-- `record::zeros` meets its contract: the number in the bytes of the levels beyond the slots is zero where each of them is.
use Prim.Native.Nat.{ℕ, zero, suc, ◌+◌, ◌*◌, ◌-◌, ◌≤◌, ◌<◌}
use mathlib.Core.Path.{◌≡◌, refl, sym, ◌∙◌, ap}
use mathlib.Core.Bool.{Bool, true, false, ◌&&◌, ◌||◌}
use mathlib.Core.List.{List}
use native.Mathlib.Decide.{ℕ_discrete, dec_lt}
use native.Mathlib.Omega.{arith}
use borrow.Author.Tests.{lt-ltb, le-ltb, eq-eqb, eqb-true, eqb-false}
use lib.Dec.{ltb, eqb}
use lib.ListN.{length}
use Rattle.rules.specs.Below.{all_below}
use Rattle.rules.specs.Record.{little_endian, number_at, record_bytes, record_slots}
use Rattle.laws.specs.Numbers.LittleEndian.{number_parts}
use Rattle.laws.specs.Numbers.Sums.{all-at, all_of}
use Rattle.record.proofs.zeros.Goals as goal

-- a level that need not be zero, or is
abbrev quiet : List ℕ → ℕ → ℕ → Bool
quiet bytes slots i = ltb i slots || eqb (number_at bytes (16 + 2 * i) 2) 0

module _ (bytes : List ℕ) (long : record_bytes ≤ length bytes) where
  -- the levels from a slot on: the first, and those behind it
  first_level : (slot count : ℕ) → slot + suc count ≡ record_slots
      → number_at bytes (16 + 2 * slot) (2 * suc count)
      ≡ number_at bytes (16 + 2 * slot) 2 + 65536 * number_at bytes (16 + 2 * (slot + 1)) (2 * count)
  first_level slot count all =
      let size : 2 * suc count ≡ 2 + 2 * count = omega arith in
      let next : 16 + 2 * (slot + 1) ≡ 16 + 2 * slot + 2 = omega arith in
      rw (size, next) (number_parts bytes (16 + 2 * slot) 2 (2 * count) (omega arith))

  -- where the number in all of them is zero, each is
  each-zero : (count slot i : ℕ) → slot + count ≡ record_slots → number_at bytes (16 + 2 * slot) (2 * count) ≡ 0 → slot ≤ i → i < record_slots
      → number_at bytes (16 + 2 * i) 2 ≡ 0
  each-zero zero slot i all none low high = absurd (omega arith)
  each-zero (suc count) slot i all none low high =
      let rest : number_at bytes (16 + 2 * (slot + 1)) (2 * count) ≡ 0 = omega (arith, first_level slot count all) in
      go (ℕ_discrete slot i) (λ next inside. each-zero count (slot + 1) i (omega arith) rest next inside)
    where
      go : Dec (slot ≡ i) → (slot + 1 ≤ i → i < record_slots → number_at bytes (16 + 2 * i) 2 ≡ 0) → number_at bytes (16 + 2 * i) 2 ≡ 0
      go (yes e) later =
          let first : number_at bytes (16 + 2 * slot) 2 ≡ 0 = omega (arith, first_level slot count all) in
          rw e at first
      go (no n) later = later (omega arith) high

  -- and the other way round
  all-zero : (count slot : ℕ) → slot + count ≡ record_slots → ((i : ℕ) → slot ≤ i → i < record_slots → number_at bytes (16 + 2 * i) 2 ≡ 0)
      → number_at bytes (16 + 2 * slot) (2 * count) ≡ 0
  unfolding little_endian
  all-zero zero slot all each = refl
  all-zero (suc count) slot all each =
      omega
      (arith, first_level slot count all, each slot (omega arith) (omega arith), all-zero count (slot + 1) (omega arith) (λ i low high. each i (omega arith) high))

  levels_zero : (slots : ℕ) → slots ≤ record_slots
      → eqb (number_at bytes (16 + 2 * slots) (record_bytes - (16 + 2 * slots))) 0 ≡ all_below record_slots (quiet bytes slots)
  levels_zero slots few =
      let size : record_bytes - (16 + 2 * slots) ≡ 2 * (record_slots - slots) = omega arith in
      rw size
      (go _ _ refl refl (each-zero (record_slots - slots) slots) (all-zero (record_slots - slots) slots))
    where
      quiet-zero : (i : ℕ) → (slots ≤ i → i < record_slots → number_at bytes (16 + 2 * i) 2 ≡ 0) → i < record_slots → quiet bytes slots i ≡ true
      quiet-zero i zero-at l = test (dec_lt i slots)
        where
          test : Dec (i < slots) → quiet bytes slots i ≡ true
          test (yes below) = rw (lt-ltb i slots below)
          test (no beyond) = rw (le-ltb i slots (omega arith), eq-eqb _ 0 (zero-at (omega arith) l))

      number : ℕ
      number = number_at bytes (16 + 2 * slots) (2 * (record_slots - slots))

      go : (a b : Bool) → eqb number 0 ≡ a → all_below record_slots (quiet bytes slots) ≡ b
          → ((i : ℕ) → slots + (record_slots - slots) ≡ record_slots → number ≡ 0 → slots ≤ i → i < record_slots → number_at bytes (16 + 2 * i) 2 ≡ 0)
          → (slots + (record_slots - slots) ≡ record_slots → ((i : ℕ) → slots ≤ i → i < record_slots → number_at bytes (16 + 2 * i) 2 ≡ 0) → number ≡ 0)
          → eqb number 0 ≡ all_below record_slots (quiet bytes slots)
      go true b is every each all =
          is
          ∙ sym
          (all_of record_slots (quiet bytes slots) (λ i l. quiet-zero i (each i (omega arith) (eqb-true _ 0 is)) l))
      go false true is every each all =
          absurd
          (eqb-false _ 0 is (all (omega arith) (λ i low high. eqb-true _ 0 (rw (le-ltb i slots low) at (all-at record_slots (quiet bytes slots) every i high)))))
      go false false is every each all = is ∙ sym every

pub returns-then-is_zero : goal.returns-then-is_zero
returns-then-is_zero c = c.is_zero-then-is_zero.ensures ∙ levels_zero c.args.bytes.now c.requires.0 c.args.slots c.requires.1
    ∙ ap (λ (b : Bool). b && all_below record_slots (quiet c.args.bytes.now c.args.slots)) (sym c.if-is_zero.true ∙ c.is_zero.ensures)
