-- The index at a seat, and a word put back in index order seat by seat.
use Prim.Native.Nat.{ℕ, ◌+◌, ◌*◌, ◌^◌, ◌≤◌, ◌<◌}
use mathlib.Core.Path.{◌≡◌, sym, ap, ◌∙◌}
use mathlib.Core.List.{List}
use native.Mathlib.Nat.{lt_of_lt_of_le}
use native.Mathlib.Numerals.{add-one}
use lib.Bits.{bit_xor}
use lib.ListN.{get_or}
use lib.Pow.{pow_mono}
use lib.Seq.{get_or-take}
use Rattle.rules.specs.Word.{bit}
use Rattle.rules.specs.Refusals.{largest}
use Rattle.laws.specs.Seats.Seats.{seat_index, seat_below}
use Rattle.laws.specs.Seats.SeatWords.{unseat_below, unseat_step}
use Rattle.groups.specs.Seating.{Seated}

module _ {l : List ℕ} {n folding : ℕ} (given : Seated l n folding) where
  -- every seat is a slot of the largest block
  seats_fit : 2 ^ n ≤ 2 ^ largest
  seats_fit = pow_mono given.few

  -- the index at a seat
  pub index_at : (p : ℕ) → p < 2 ^ n → get_or l p 0 ≡ seat_index n folding p
  index_at p h = sym (get_or-take (2 ^ n) l p 0 h) ∙ ap (λ (x : List ℕ). get_or x p 0) given.listed

  module _ {p : ℕ} (h : p < 2 ^ n) where
    -- is an index of the largest block
    pub index_fits : get_or l p 0 < 2 ^ largest
    index_fits = rw (index_at p h) (lt_of_lt_of_le (seat_below n folding given.fits p h) seats_fit)

    -- one seat more
    pub unseat_next : (w : ℕ) → bit_xor (unseat_below n folding w p) (bit w p * 2 ^ get_or l p 0) ≡ unseat_below n folding w (p + 1)
    unseat_next w = rw (index_at p h, add-one p) (unseat_step n folding given.fits w p h)
