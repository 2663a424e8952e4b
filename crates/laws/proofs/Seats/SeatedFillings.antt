-- The fillings of a group in seat order: the values of its block with no frozen bit. Patterns and branches place by place.
use Prim.Native.Nat.{ℕ, ◌+◌, ◌*◌, ◌/◌, ◌%◌, ◌^◌, ◌≤◌, ◌<◌, min}
use Rattle.std.specs.Prelude.{◌≡◌, ◌≢◌}
use Rattle.std.proofs.Math.Path.{sym, ap}
use Rattle.std.proofs.Common.{◌∙◌, mod-lt, arith, pow_pos, eq-eqb, eqb-true}
use Rattle.std.proofs.Math.Decide.{dec_lt, ℕ_discrete}
use Rattle.std.proofs.Math.Pow.{split, high}
use Rattle.std.specs.Int.Bits.{bit_and}
use Rattle.std.specs.Int.Count.{ones}
use Rattle.rules.specs.Word.{bit}
use Rattle.rules.specs.Folding.{group, groups}
use Rattle.laws.proofs.Seats.SeatGroups.{group-seat-lt, seat-group}
use Rattle.laws.proofs.Seats.SeatedDown.{block_small}
use Rattle.laws.specs.Numbers.Bits.{bit-and, bit-within, bit-zero, bit_beyond, bit_ext, bit_ext_below, bit_lt_two, small_of_bits}
use Rattle.laws.specs.Seats.Blocks.{block_bit, block_other, block_same}
use Rattle.laws.specs.Seats.SeatWords.{seat, seat-bit, seat-lt, unseat, unseat-bit, unseat-lt, unseat-seat}
use Rattle.laws.specs.Seats.Seats.{seat_below, seat_index, seat_onto}
use Rattle.laws.specs.Walk.Completions.{fill_zero}
use Rattle.laws.specs.Walk.Fillings.{Fills}
use Rattle.laws.specs.Walk.GroupSizes.{group_at, group_of}

module _ (n mask F k : ℕ) (fits : F < 2 ^ n) (hk : k < groups n F) where
  -- the frozen bits of block k
  shut : ℕ
  shut = seat n F mask / 2 ^ (k * 2 ^ ones F) % 2 ^ (2 ^ ones F)

  shut-bit : (t : ℕ) → t < 2 ^ ones F → bit shut t ≡ bit mask (seat_index n F (k * 2 ^ ones F + t))
  unfolding shut
  shut-bit t l = block_bit (2 ^ ones F) k (seat n F mask) t l ∙ seat-bit n F mask _ (group-seat-lt n F fits k t hk l)

  -- a one of block k stands at a seat of group k
  block_seat : (v j : ℕ) → v < 2 ^ (2 ^ ones F) → bit (unseat n F (v * 2 ^ (k * 2 ^ ones F))) j ≢ 0
      → (t : ℕ) × (t < 2 ^ ones F) × (seat_index n F (k * 2 ^ ones F + t) ≡ j) × (bit v t ≢ 0)
  block_seat v j hv b = go (p / 2 ^ ones F) (p % 2 ^ ones F) (mod-lt p (pow_pos (ones F))) (split p (ones F)) (ℕ_discrete (p / 2 ^ ones F) k)
    where
      word : ℕ
      word = v * 2 ^ (k * 2 ^ ones F)

      found : (p : ℕ) × (p < 2 ^ n) × (seat_index n F p ≡ j)
      found = seat_onto n F fits j (bit-within (unseat-lt n F fits word) (omega (arith, bit_lt_two (unseat n F word) j)))

      p : ℕ
      p = found.0

      one : bit word p ≢ 0
      one z = b (ap (bit (unseat n F word)) (sym found.2) ∙ unseat-bit n F fits word p found.1 ∙ z)

      go : (q t : ℕ) → t < 2 ^ ones F → q * 2 ^ ones F + t ≡ p → Dec (q ≡ k)
          → (t : ℕ) × (t < 2 ^ ones F) × (seat_index n F (k * 2 ^ ones F + t) ≡ j) × (bit v t ≢ 0)
      go q t l e (yes y) = (t, l, rw (← y, e) found.2, λ z. one (rw (← e, y) (block_same (2 ^ ones F) k v t ∙ z)))
      go q t l e (no y) = absurd (one (rw (← e) (block_other (2 ^ ones F) k v q t hv l y)))

  -- a value of block k with no frozen bit is a filling of group k
  pub block_fills : (v : ℕ) → v < 2 ^ (2 ^ ones F) → bit_and v (seat n F mask / 2 ^ (k * 2 ^ ones F) % 2 ^ (2 ^ ones F)) ≡ 0
      → Fills mask (group n F k) (unseat n F (v * 2 ^ (k * 2 ^ ones F)))
  unfolding shut
  block_fills v hv none = record {
    inside = λ j b. let r = block_seat v j hv b in
        let p = group-seat-lt n F fits k r.0 hk r.1 in
        rw (← r.2) (group_of n F k _ (seat_below n F fits _ p) (seat-group n F fits _ p ∙ high k (ones F) r.1));
    free = λ j b. let r = block_seat v j hv b in
        rw (← r.2) (eq-eqb _ 0 (sym (shut-bit r.0 r.1) ∙ clear r.0 r.3));
  }
    where
      clear : (t : ℕ) → bit v t ≢ 0 → bit shut t ≡ 0
      clear t b = omega (arith, bit-and v shut t, ap (λ (x : ℕ). bit x t) none, bit-zero t)

  -- each filling of group k is one
  pub fills_block : (f : ℕ) → Fills mask (group n F k) f
      → (v : ℕ) × (v < 2 ^ (2 ^ ones F)) × (bit_and v (seat n F mask / 2 ^ (k * 2 ^ ones F) % 2 ^ (2 ^ ones F)) ≡ 0)
      × (unseat n F (v * 2 ^ (k * 2 ^ ones F)) ≡ f)
  unfolding shut
  fills_block f h = (
    v,
    small,
    bit_ext (λ i. bit-and v shut i ∙ none i (dec_lt i (2 ^ ones F)) ∙ sym (bit-zero i)),
    ap (unseat n F) (sym whole) ∙ unseat-seat n F fits f short,
  )
    where
      v : ℕ
      v = seat n F f / 2 ^ (k * 2 ^ ones F) % 2 ^ (2 ^ ones F)

      small : v < 2 ^ (2 ^ ones F)
      small = mod-lt (seat n F f / 2 ^ (k * 2 ^ ones F)) (pow_pos (2 ^ ones F))

      short : f < 2 ^ (2 ^ n)
      short = small_of_bits (2 ^ n) f (λ j l. go j l (ℕ_discrete (bit f j) 0))
        where
          go : (j : ℕ) → 2 ^ n ≤ j → Dec (bit f j ≡ 0) → bit f j ≡ 0
          go j l (yes z) = z
          go j l (no b) = absurd (omega (arith, (group_at n F k j (h.inside j b)).0))

      none : (i : ℕ) → Dec (i < 2 ^ ones F) → min (bit v i) (bit shut i) ≡ 0
      none i (no g) = rw (bit_beyond {i = i} small (omega arith)) (omega arith)
      none i (yes l) = go (ℕ_discrete (bit f index) 0)
        where
          index : ℕ
          index = seat_index n F (k * 2 ^ ones F + i)

          own : bit v i ≡ bit f index
          own = block_bit (2 ^ ones F) k (seat n F f) i l ∙ seat-bit n F f _ (group-seat-lt n F fits k i hk l)

          go : Dec (bit f index ≡ 0) → min (bit v i) (bit shut i) ≡ 0
          go (yes z) = rw (own, z) (omega arith)
          go (no b) = rw (shut-bit i l, eqb-true (bit mask index) 0 (h.free index b)) (omega arith)

      same : (b t : ℕ) → t < 2 ^ ones F → b * 2 ^ ones F + t < 2 ^ n → Dec (b ≡ k)
          → bit (seat n F f) (b * 2 ^ ones F + t) ≡ bit (v * 2 ^ (k * 2 ^ ones F)) (b * 2 ^ ones F + t)
      same b t l p (yes y) = rw y (sym (block_same (2 ^ ones F) k v t ∙ block_bit (2 ^ ones F) k (seat n F f) t l))
      same b t l p (no y) =
          seat-bit n F f _ p ∙ fill_zero n mask F k f _ h (λ e. y (sym (seat-group n F fits _ p ∙ high b (ones F) l) ∙ e))
          ∙ sym (block_other (2 ^ ones F) k v b t small l y)

      whole : seat n F f ≡ v * 2 ^ (k * 2 ^ ones F)
      whole = bit_ext_below (2 ^ n) (seat-lt n F f) (block_small n F fits k v hk small) (λ p l.
          rw (split p (ones F)) at (same (p / 2 ^ ones F) (p % 2 ^ ones F) (mod-lt p (pow_pos (ones F))) (rw (split p (ones F)) l) (ℕ_discrete (p / 2 ^ ones F) k)))
