-- The word of a walk: its codeword has the patterns of the groups decided so far, and zeros in those that are left. In the
-- decided groups it is the information word; a pattern of the next group changes it by a word that goes by nothing decided.
use Rattle.std.specs.Prelude.{ℕ, suc, ◌+◌, ◌-◌, ◌*◌, ◌/◌, ◌%◌, ◌^◌, ◌≤◌, ◌<◌, ◌≡◌, eqb}
use Rattle.std.proofs.Common.{sym, ap₂, ◌∙◌, zero-mul, suc-mul, div-mul-le_self, mod-lt, mod-eq_of_lt, lt_of_le_of_lt, arith, pow_pos, eq-eqb, ne_eqb}
use Rattle.std.proofs.Math.Path.{ap}
use Rattle.std.proofs.Math.Nat.{zero-div}
use Rattle.std.proofs.Math.Decide.{ℕ_discrete}
use Rattle.std.proofs.lemmas.Nat.{shl-shr, xor_lt, ones-le}
use Rattle.std.specs.Int.Bits.{bit_and, bit_xor, and_lt}
use Rattle.std.specs.Int.Count.{ones}
use Rattle.rules.specs.Word.{codeword}
use Rattle.rules.specs.Folding.{groups}
use Rattle.laws.proofs.Codewords.Matrix.{codeword_longer, codeword_twice}
use Rattle.laws.proofs.Seats.BlankBlocks.{block_changed}
use Rattle.laws.proofs.Seats.SeatedDown.{block_small}
use Rattle.laws.specs.Code.Matrix.{codeword-lt, codeword-xor}
use Rattle.laws.specs.Numbers.Bits.{bit-xor}
use Rattle.laws.specs.Seats.BlankBlocks.{above_of, above_split, above_unchanged}
use Rattle.laws.specs.Seats.Blocks.{block_below}
use Rattle.laws.specs.Seats.Decided.{Blank, Filled, change_of, decided, seat_none, shut_of}
use Rattle.laws.specs.Seats.SeatSums.{seat-xor, unseat_code}
use Rattle.laws.specs.Seats.SeatWords.{seat, seat-lt, seat-unseat, unseat, unseat-zero}
use Rattle.laws.specs.Seats.SeatedBlocks.{common_block}
use Rattle.laws.specs.Seats.SeatedDown.{groups_blocks, seated_down}
use Rattle.laws.specs.Seats.SeatedRow.{block_of, filling_of}

-- in seat order they are the block's
pub shut_block : (n F : ℕ) → F < 2 ^ n → (mask k : ℕ) → k < groups n F → block_of (2 ^ ones F) k (seat n F (shut_of n F mask k)) ≡ block_of (2 ^ ones F) k (seat n F mask)
shut_block n F fits mask k hk =
    let small = mod-lt (seat n F mask / 2 ^ (k * 2 ^ ones F)) (pow_pos (2 ^ ones F)) in
    rw (seat-unseat n F fits _ (block_small n F fits k _ hk small), shl-shr (block_of (2 ^ ones F) k (seat n F mask)) (k * 2 ^ ones F)) (mod-eq_of_lt small)

zero_alike : (a b : ℕ) → (a ≡ 0 → b ≡ 0) → (b ≡ 0 → a ≡ 0) → eqb a 0 ≡ eqb b 0
zero_alike a b there back = go (ℕ_discrete b 0)
  where
    go : Dec (b ≡ 0) → eqb a 0 ≡ eqb b 0
    go (yes e) = eq-eqb a 0 (back e) ∙ sym (eq-eqb b 0 e)
    go (no ne) = ne_eqb a 0 (λ e. ne (there e)) ∙ sym (ne_eqb b 0 ne)

module _ (n mask F : ℕ) (fits : F < 2 ^ n) (few : ones F ≤ 3) (k w e : ℕ) (hk : k < groups n F) (hw : w < 2 ^ (2 ^ n))
    (clear : Blank n F (suc k) w) (he : e % 256 < 2 ^ (2 ^ ones F)) where
  abbrev u : ℕ
  u = e % 256

  abbrev s : ℕ
  s = 2 ^ ones F

  -- the word in seat order, its groups above k, and the pattern that they force on group k
  abbrev v : ℕ
  v = seat n F w

  abbrev high : ℕ
  high = above_of s (suc k) v

  abbrev forced : ℕ
  forced = block_of s k (codeword n high)

  abbrev next : ℕ
  next = bit_xor w (change_of n F k u)

  high_lt : high < 2 ^ (2 ^ n)
  high_lt = lt_of_le_of_lt (div-mul-le_self v _) (seat-lt n F w)

  forced_is : block_of s k (codeword n (seat n F (decided n F (suc k) w))) ≡ forced
  unfolding decided
  forced_is = ap (λ (x : ℕ). block_of s k (codeword n x)) (seat-unseat n F fits high high_lt)

  inside : k < 2 ^ (n - ones F)
  inside = rw (groups_blocks n F fits) at hk

  filling_is : codeword (ones F) (bit_xor u forced) ≡ filling_of forced e
  filling_is = sym (codeword_longer (ones F) 3 (bit_xor u forced) few (xor_lt s u forced he (mod-lt _ (pow_pos s))))

  filling_lt : filling_of forced e < 2 ^ (2 ^ ones F)
  filling_lt = rw (← filling_is) (codeword-lt (ones F) _)

  seated : seat n F next ≡ bit_xor v (codeword n (u * 2 ^ (k * s)))
  seated = seat-xor n F fits w _ ∙ ap (bit_xor v) (ap (seat n F) (sym (unseat_code n F fits _)) ∙ seat-unseat n F fits _ (codeword-lt n _))

  -- the change gives group k its filling
  block_is : block_of s k (seat n F next) ≡ filling_of forced e
  block_is = rw seated (block_changed n (ones F) k v (ones-le n F fits) inside clear u he ∙ filling_is)

  -- and the groups from k on are those above with this filling
  above_is : above_of s k (seat n F next) ≡ high + filling_of forced e * 2 ^ (k * s)
  above_is = above_split s k (seat n F next)
      ∙ ap₂ (λ (x y : ℕ). x + y * 2 ^ (k * s)) (rw seated (above_unchanged n (ones F) k v (ones-le n F fits) inside clear u he)) block_is

  code_is : codeword n (seat n F next) ≡ bit_xor (codeword n v) (u * 2 ^ (k * s))
  code_is = rw seated (codeword-xor n v _ ∙ ap (bit_xor (codeword n v)) (codeword_twice n _ (block_small n F fits k u hk he)))

  blank : Blank n F k next
  blank i l = rw code_is (bit-xor (codeword n v) _ i ∙ rw (clear i (omega (arith, suc-mul k s)), block_below s k u i l))

  adding : decided n F k next ≡ decided n F (suc k) w + unseat n F (filling_of forced e * 2 ^ (k * s))
  unfolding decided
  adding = ap (unseat n F) above_is ∙ seated_down n F k high (filling_of forced e) (block_below s (suc k) _) filling_lt

  -- the next word has a frozen bit of the group where the filling has one
  freely : eqb (bit_and next (shut_of n F mask k)) 0 ≡ eqb (bit_and (filling_of forced e) (block_of s k (seat n F mask))) 0
  freely = zero_alike _ _
      (λ z. none (sym (seat-unseat n F fits _ (block_small n F fits k _ hk (and_lt s _ shut filling_lt small))) ∙ ap (seat n F) (sym common ∙ z) ∙ seat_none n F))
      (λ z. common ∙ ap (λ (x : ℕ). unseat n F (x * 2 ^ (k * s))) z ∙ rw (zero-mul (2 ^ (k * s))) (unseat-zero n F))
    where
      shut : ℕ
      shut = block_of s k (seat n F mask)

      small : shut < 2 ^ (2 ^ ones F)
      small = mod-lt _ (pow_pos s)

      common : bit_and next (shut_of n F mask k) ≡ unseat n F (bit_and (filling_of forced e) shut * 2 ^ (k * s))
      common = rw block_is at (common_block n F fits k shut next small)

      none : bit_and (filling_of forced e) shut * 2 ^ (k * s) ≡ 0 → bit_and (filling_of forced e) shut ≡ 0
      none z = sym (shl-shr (bit_and (filling_of forced e) shut) (k * s)) ∙ ap (λ (x : ℕ). x / 2 ^ (k * s)) z ∙ zero-div (2 ^ (k * s))

  changed : Filled n mask F k w e next
  changed = record {
    small = xor_lt (2 ^ n) w _ hw (codeword-lt n _);
    left = blank;
    adds = rw forced_is adding;
    free = rw forced_is freely;
  }

-- an entry's pattern fills group k as the entry's filling does
pub filled : (n mask F : ℕ) → F < 2 ^ n → ones F ≤ 3 → (k w e : ℕ) → k < groups n F → w < 2 ^ (2 ^ n) → Blank n F (suc k) w → e % 256 < 2 ^ (2 ^ ones F)
    → Filled n mask F k w e (bit_xor w (change_of n F k (e % 256)))
filled = changed
