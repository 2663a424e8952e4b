-- The loop that lists the changes of group 0's patterns: one slot more doubles the patterns, with the codeword of its index added.
use Prim.Native.Nat.{ℕ, suc, ◌+◌, ◌*◌, ◌%◌, ◌^◌, ◌≤◌, ◌<◌}
use mathlib.Core.Path.{◌≡◌, sym, ap, ◌∙◌}
use mathlib.Core.List.{List}
use native.Mathlib.Nat.{zero-mul, two-pow-succ, mod-eq_of_lt}
use native.Mathlib.Numerals.{add-one}
use native.Mathlib.Omega.{arith}
use lib.Bits.{bit_xor}
use lib.Count.{ones}
use lib.ListN.{length, get_or}
use lib.Pow.{pow-lt, pow_mono}
use Rattle.rules.specs.Word.{codeword}
use Rattle.rules.specs.Refusals.{largest}
use Rattle.laws.specs.Numbers.Bits.{power_shifted}
use Rattle.laws.specs.Code.Matrix.{codeword-zero}
use Rattle.laws.proofs.Codewords.Matrix.{codeword_longer}
use Rattle.laws.specs.Seats.Seats.{seat_index, seat_below}
use Rattle.laws.specs.Seats.SeatWords.{unseat-zero}
use Rattle.laws.specs.Seats.Decided.{change_of}
use Rattle.laws.specs.Seats.Copied.{change_more}
use Rattle.word.specs.declared.Word.{Word}
use Rattle.word.specs.Words.{word_of, word_at}
use Rattle.groups.specs.declared.Tree.{Tree}
use Rattle.groups.specs.Doubling.{Doubled}
use Rattle.groups.specs.Grouping.{Grouped}
use Rattle.groups.specs.Seating.{Seated}
use Rattle.groups.proofs.SeatLoops.{index_at, index_fits}
use Rattle.groups.proofs.Tabling.{size_small, seat-within}
use Rattle.groups.proofs.WordsDoubled.{Begins, begins_doubled}

-- the changes of the patterns below 2 ^ t
pub record Changed (g : Tree) (l : List Word) (t : ℕ) : Type 0 where
  pub long : length l ≡ 256
  pub done : Begins l (change_of g.n g.folding 0) (2 ^ t)

-- pattern 0 changes nothing
pub changed_first : (g : Tree) (l : List Word) → length l ≡ 256 → word_at l 0 ≡ 0 → Changed g l 0
changed_first g l long first = record { long = long; done = λ u h. go u (omega arith) }
  where
    go : (u : ℕ) → u ≡ 0 → word_at l u ≡ change_of g.n g.folding 0 u
    go u e = rw (e, zero-mul (2 ^ (0 * 2 ^ ones g.folding)), unseat-zero g.n g.folding, codeword-zero g.n) first

module _ {g : Tree} (given : Grouped g) {l : List Word} {t : ℕ} (changed : Changed g l t) (h : t < g.size) where
  -- how many patterns there are so far, as the machine shifts it
  many_is : 1 * 2 ^ t % 2 ^ 64 ≡ 2 ^ t
  many_is = power_shifted 64 t (omega (arith, h, size_small given))

  -- there is room for as many more
  pub room_for_more : 1 * 2 ^ t % 2 ^ 64 + 1 * 2 ^ t % 2 ^ 64 ≤ length l
  room_for_more = rw (many_is, changed.long) (omega (arith, two-pow-succ t, pow_mono {i = suc t} {j = 8} (omega (arith, h, size_small given))))

  -- one slot more doubles the patterns
  pub changed_next : {after : List Word} {step : Word → Word → Type 0} (column : Word) → length after ≡ length l
      → word_of column ≡ codeword g.n (2 ^ seat_index g.n g.folding t) → Doubled l after (1 * 2 ^ t % 2 ^ 64) step
      → ((w x : Word) → step w x → word_of x ≡ bit_xor (word_of w) (word_of column)) → Changed g after (t + 1)
  changed_next {after = after} {step = step} column same is made added = record { long = same ∙ changed.long; done = rw twice done }
    where
      doubled : Doubled l after (2 ^ t) step
      doubled = rw many_is at made

      done : Begins after (change_of g.n g.folding 0) (2 ^ t + 2 ^ t)
      done =
          begins_doubled (change_of g.n g.folding 0) doubled
          (λ u w x below e s. rw e at (added w x s) ∙ ap (bit_xor (change_of g.n g.folding 0 u)) is
          ∙ sym (change_more g.n g.folding given.fits t u (rw given.sized at h) below))
          changed.done

      twice : 2 ^ (t + 1) ≡ 2 ^ t + 2 ^ t
      twice = rw (add-one t) (omega (arith, two-pow-succ t))

-- the codeword of an index of group 0, as the code makes it
pub column-is : {g : Tree} → Grouped g → {l : List ℕ} → Seated l g.n g.folding → {t : ℕ} → t < g.size
    → codeword largest (2 ^ get_or l t 0 % 2 ^ (2 ^ largest)) ≡ codeword g.n (2 ^ seat_index g.n g.folding t)
column-is {g = g} given {l = l} seated {t = t} h =
    rw (mod-eq_of_lt (pow-lt (index_fits seated (seat-within given h))), index_at seated t (seat-within given h))
    (codeword_longer g.n largest _ given.small (pow-lt (seat_below g.n g.folding given.fits t (seat-within given h))))
