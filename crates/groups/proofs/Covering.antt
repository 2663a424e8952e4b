-- The loop that lists what each group covers: one bit more doubles the groups, and moves what the rest of a group covers.
use Prim.Native.Nat.{ℕ, suc, ◌+◌, ◌-◌, ◌*◌, ◌%◌, ◌^◌, ◌≤◌, ◌<◌}
use mathlib.Core.Path.{◌≡◌, refl, sym, ap, ◌∙◌}
use mathlib.Core.List.{List}
use native.Mathlib.Nat.{add_comm, two-pow-succ, mod-eq_of_lt, lt_of_lt_of_le}
use native.Mathlib.Decide.{dec_lt}
use native.Mathlib.Omega.{arith}
use lib.Bits.{bit_xor, xor_comm, xor_shifted}
use lib.Count.{ones}
use lib.ListN.{length, get_or}
use lib.Pow.{pow_mono}
use Rattle.rules.specs.Refusals.{largest}
use Rattle.laws.specs.Code.Matrix.{codeword-lt}
use Rattle.laws.specs.Seats.Copied.{covered_of}
use Rattle.laws.proofs.Seats.Copied.{covered_first, covered_more}
use Rattle.laws.specs.Seats.Seats.{seat_index}
use Rattle.laws.specs.Seats.SeatedDown.{groups_blocks}
use Rattle.word.specs.declared.Word.{Word}
use Rattle.word.specs.Words.{word_of, word_at}
use Rattle.groups.specs.declared.Tree.{Tree}
use Rattle.groups.specs.Doubling.{Doubled}
use Rattle.groups.specs.Grouping.{Grouped}
use Rattle.groups.specs.Seating.{Seated}
use Rattle.groups.proofs.SeatLoops.{index_at}
use Rattle.groups.proofs.Tabling.{few_groups, first_seat}
use Rattle.groups.proofs.WordsDoubled.{Begins, begins_doubled}

-- the loop's invariant: the groups below m are done, and m is a power of two
pub record Covering (g : Tree) (r : List Word) (m : ℕ) : Type 0 where
  pub long : length r ≡ 2 ^ largest
  pub power : (b : ℕ) × (m ≡ 2 ^ b)
  pub done : Begins r (covered_of g.n g.folding) m

-- a power of two below another: twice it is at most the other
twice_within : (b c : ℕ) → 2 ^ b < 2 ^ c → 2 ^ b + 2 ^ b ≤ 2 ^ c
twice_within b c h = go (dec_lt b c)
  where
    go : Dec (b < c) → 2 ^ b + 2 ^ b ≤ 2 ^ c
    go (yes l) = omega (arith, two-pow-succ b, pow_mono {i = suc b} {j = c} l)
    go (no g) = absurd (omega (arith, h, pow_mono {i = c} {j = b} (omega arith)))

module _ {g : Tree} (given : Grouped g) where
  -- the groups are a power of two
  count-is : g.groups ≡ 2 ^ (g.n - ones g.folding)
  count-is = given.all ∙ groups_blocks g.n g.folding given.fits

  -- group 0 covers itself alone
  pub covering_first : (r : List Word) → length r ≡ 2 ^ largest → word_at r 0 ≡ 1 → Covering g r 1
  covering_first r long first = record { long = long; power = (0, refl); done = λ k h. go k (omega arith) }
    where
      go : (k : ℕ) → k ≡ 0 → word_at r k ≡ covered_of g.n g.folding k
      go k e = rw e (first ∙ sym (covered_first g.n g.folding given.fits))

  module _ {r : List Word} {m : ℕ} (inv : Covering g r m) (inside : m < g.groups) where
    -- there are as many groups more
    groups_more : m + m ≤ g.groups
    groups_more = rw (inv.power.1, count-is) (twice_within inv.power.0 _ (rw (inv.power.1, count-is) at inside))

    -- and room for them
    pub room_behind : m + m ≤ length r
    room_behind = omega (arith, groups_more, few_groups given, inv.long)

    -- the place that bit m has alone
    abbrev place : ℕ
    place = seat_index g.n g.folding (m * 2 ^ ones g.folding)

    -- what a group with bit m covers, from what the rest of it covers
    moved : (k : ℕ) → k < m → (covered_of g.n g.folding k < 2 ^ place)
        × (covered_of g.n g.folding (m + k) ≡ covered_of g.n g.folding k + covered_of g.n g.folding k * 2 ^ place)
    moved k h =
        let b = inv.power.0 in
        let is = inv.power.1 in
        rw (← is) at (covered_more g.n g.folding given.fits b k (rw is at h) (rw (← is, ← given.all) (omega (arith, groups_more, h))))

    -- as the code adds it: no one bit of the rest lies where it is moved to
    moved-xor : (k : ℕ) → k < m
        → bit_xor (covered_of g.n g.folding k) (covered_of g.n g.folding k * 2 ^ place % 2 ^ (2 ^ largest)) ≡ covered_of g.n g.folding (m + k)
    moved-xor k h =
        let rest : ℕ = covered_of g.n g.folding k in
        let small : covered_of g.n g.folding (m + k) < 2 ^ (2 ^ largest) =
        lt_of_lt_of_le (codeword-lt g.n _) (pow_mono (pow_mono {j = largest} given.small))
        in
        let fits : rest * 2 ^ place < 2 ^ (2 ^ largest) = omega (arith, (moved k h).1, small) in
        ap (bit_xor rest) (mod-eq_of_lt fits) ∙ xor_comm rest (rest * 2 ^ place) ∙ xor_shifted rest place rest (moved k h).0
        ∙ add_comm (rest * 2 ^ place) rest ∙ sym (moved k h).1

    -- one bit more doubles the groups
    pub covering_next : {l : List ℕ} {after : List Word} {step : Word → Word → Type 0} → Seated l g.n g.folding → length after ≡ length r
        → Doubled r after m step
        → ((w x : Word) → step w x → word_of x ≡ bit_xor (word_of w) (word_of w * 2 ^ get_or l (m * g.size) 0 % 2 ^ (2 ^ largest)))
        → Covering g after (m * 2)
    covering_next {l = l} {after = after} seated same doubled made =
        record {
          long = same ∙ inv.long;
          power = (suc inv.power.0, twice ∙ ap (λ (x : ℕ). x + x) inv.power.1 ∙ omega (arith, two-pow-succ inv.power.0));
          done = rw twice
              (begins_doubled (covered_of g.n g.folding) doubled (λ u w x h e s. rw (e, here) at (made w x s) ∙ moved-xor u h) inv.done);
        }
      where
        here : get_or l (m * g.size) 0 ≡ place
        here = index_at seated (m * g.size) (first_seat given inside) ∙ ap (λ (s : ℕ). seat_index g.n g.folding (m * s)) given.sized

        twice : m * 2 ≡ m + m
        twice = omega arith
