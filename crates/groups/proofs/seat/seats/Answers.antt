-- `groups::seat::seats` meets its contract.
use Prim.Native.Nat.{ℕ, zero, suc, ◌*◌, ◌^◌, ◌≤◌, ◌<◌}
use mathlib.Core.List.{List, ◌∷◌}
use native.Mathlib.Nat.{one-mul, mul_comm, le_trans}
use mathlib.Core.Path.{◌≡◌, refl, sym, ap, ◌∙◌}
use native.Mathlib.Omega.{arith}
use lib.Count.{ones, ones-le}
use lib.ListN.{take, get_or, replicate}
use lib.Pow.{pow_mono}
use Rattle.laws.specs.Seats.Seats.{seats, widened_by, has_bit, ones-count, high_size}
use Rattle.rules.specs.Below.{count_below}
use Rattle.rules.specs.Refusals.{largest}
use Rattle.groups.proofs.seat.seats.Goals as goal

-- a list of zeros begins with a number that is at most any
first_small : (l : List ℕ) (q c : ℕ) → q < 1 → get_or (0 ∷ l) q 0 ≤ c
first_small l zero c h = omega arith
first_small l (suc q) c h = absurd (omega arith)

-- one index widened by the folding's bits has room
inside-room : (n folding : ℕ) → n ≤ largest → folding < 2 ^ n → 1 * 2 ^ count_below n (has_bit folding 1) ≤ 2 ^ largest
inside-room n folding few fits =
    rw (ones-count n folding fits) (omega (arith, pow_mono {i = ones folding} {j = largest} (le_trans (ones-le n folding fits) few)))

-- and once more widened by the other bits it makes all seats
all-seats : (n folding inside : ℕ) → folding < 2 ^ n → inside ≡ 1 * 2 ^ count_below n (has_bit folding 1)
    → inside * 2 ^ count_below n (has_bit folding 0) ≡ 2 ^ n
all-seats n folding inside fits e =
    ap (λ (x : ℕ). x * 2 ^ count_below n (has_bit folding 0)) (e ∙ one-mul _ ∙ ap (λ (k : ℕ). 2 ^ k) (ones-count n folding fits))
    ∙ mul_comm _ _ ∙ high_size n folding fits

pub widen_by-inside-requires : goal.widen_by-inside-requires
widen_by-inside-requires c = record { long = refl; room = inside-room _ _ c.requires.0 c.requires.1; small = λ q h. first_small (replicate 63 0) q 1024 h; few = c.requires.0 }

pub widen_by-requires : goal.widen_by-requires
widen_by-requires c = record { long = c.widen_by-inside.auto.index; room = rw (all-seats _ _ _ c.requires.1 c.widen_by-inside.ensures.many) (pow_mono {j = largest} c.requires.0); small = λ q h. omega (arith, c.widen_by-inside.ensures.small 0 (λ r l. first_small (replicate 63 0) r 0 l) q h, c.requires.0); few = c.requires.0 }

pub returns : goal.returns
unfolding seats
returns c =
    let n = c.args.n in
    let folding = c.args.folding in
    let all : c.widen_by.result ≡ 2 ^ n =
    c.widen_by.ensures.many
    ∙ all-seats n folding _ c.requires.1 c.widen_by-inside.ensures.many
    in
    let given = c.requires in
    record {
      few = given.0;
      fits = given.1;
      listed =
          ap (λ (m : ℕ). take m c.widen_by.new.index) (sym all) ∙ c.widen_by.ensures.widened
          ∙ ap (widened_by (has_bit folding 0) n) c.widen_by-inside.ensures.widened;
    }
