-- Widening a list of indices by one bit after another.
use Prim.Native.Nat.{ℕ, zero, suc, ◌+◌, ◌-◌, ◌*◌, ◌^◌, ◌≤◌, ◌<◌}
use mathlib.Core.Path.{◌≡◌, refl, sym, ap, ◌∙◌}
use mathlib.Core.Bool.{Bool, true, false}
use mathlib.Core.List.{List, [], ◌∷◌, ◌++◌, map}
use native.Mathlib.Nat.{mul-le-mul_left, pow-suc, mul_assoc, mul-one, not-suc-le-zero, le_of_suc-le-suc}
use native.Mathlib.Numerals.{add-one}
use native.Mathlib.Decide.{dec_lt}
use native.Mathlib.Omega.{arith}
use lib.ListN.{length, take, get_or, length-map, get_or-map, get_or-append}
use lib.Pow.{pow_mono}
use lib.Seq.{get_or-take, get_or-append-add, length-take-le}
use Rattle.rules.specs.Below.{count_below, sum_below}
use Rattle.rules.specs.Refusals.{largest}
use Rattle.laws.specs.Numbers.CountBelow.{count_passing, count_failing, count_mono}
use Rattle.laws.specs.Seats.Seats.{widened, widened_by}
use Rattle.groups.specs.Seating.{AtMost}

-- what stands in a list does not depend on what is read past its end
any-default : (l : List ℕ) (i d e : ℕ) → i < length l → get_or l i d ≡ get_or l i e
any-default [] i d e h = absurd (not-suc-le-zero h)
any-default (x ∷ l) zero d e h = refl
any-default (x ∷ l) (suc i) d e h = any-default l i d e (le_of_suc-le-suc h)

-- the indices l, m of them, widened by the bits below b that pass the test
pub record Widened (l : List ℕ) (m : ℕ) (test : ℕ → Bool) (b : ℕ) (index : List ℕ) (many : ℕ) : Type 0 where
  pub same : length index ≡ length l
  pub counted : many ≡ m * 2 ^ count_below b test
  pub listed : take many index ≡ widened_by test b (take m l)
  pub small : (c : ℕ) → AtMost l m c → AtMost index many (c + 2 ^ largest * b)

-- there is room for one bit more that passes
pub widened_room : (m : ℕ) (test : ℕ → Bool) (n b many : ℕ) → m * 2 ^ count_below n test ≤ 2 ^ largest → b < n → test b ≡ true → many ≡ m * 2 ^ count_below b test
    → many + many ≤ 2 ^ largest
widened_room m test n b many room before passes counted =
    let doubled : m * 2 ^ count_below (suc b) test ≡ many * 2 =
    ap (λ (k : ℕ). m * 2 ^ k) (count_passing test b passes) ∙ ap (λ (x : ℕ). m * x) (pow-suc 2 (count_below b test))
    ∙ sym (mul_assoc m (2 ^ count_below b test) 2) ∙ ap (λ (x : ℕ). x * 2) (sym counted)
    in
    omega (arith, mul-le-mul_left m (pow_mono (count_mono test before)))

module _ (l : List ℕ) (m : ℕ) (test : ℕ → Bool) where
  pub widened_none : Widened l m test 0 l m
  unfolding count_below sum_below widened_by
  widened_none = record { same = refl; counted = sym (mul-one m); listed = refl; small = λ c h q l. omega (arith, h q l) }

  module _ (b : ℕ) {index : List ℕ} {many : ℕ} (before : Widened l m test b index many) where
    -- a bit that passes
    pub widened_passing : test b ≡ true → (next : List ℕ) → length next ≡ length index → many + many ≤ length index → 2 ^ b ≤ 2 ^ largest
        → take (many + many) next ≡ widened (take many index) (2 ^ b) → Widened l m test (b + 1) next (many * 2)
    unfolding widened_by
    widened_passing passes next same room short doubled =
        rw (add-one b)
        (record {
          same = same ∙ before.same;
          counted =
              ap (λ (x : ℕ). x * 2) before.counted ∙ mul_assoc m (2 ^ count_below b test) 2
              ∙ ap (λ (x : ℕ). m * x) (sym (pow-suc 2 (count_below b test)))
              ∙ ap (λ (k : ℕ). m * 2 ^ k) (sym (count_passing test b passes));
          listed =
              rw passes
              (ap (λ (k : ℕ). take k next) twice ∙ doubled ∙ ap (λ (x : List ℕ). widened x (2 ^ b)) before.listed);
          small = λ c at q h. small c at q (omega (arith, twice)) (dec_lt q many);
        })
      where
        twice : many * 2 ≡ many + many
        twice = omega arith

        lengths : length (take many index) ≡ many
        lengths = length-take-le many index (omega arith)

        stepped : List ℕ
        stepped = map (λ i. i + 2 ^ b) (take many index)

        at : (q : ℕ) → q < many + many → get_or next q 0 ≡ get_or (take many index ++ stepped) q 0
        at q h = sym (get_or-take (many + many) next q 0 h) ∙ ap (λ (x : List ℕ). get_or x q 0) doubled

        past : (r : ℕ) → r < many → get_or stepped r 0 ≡ get_or index r 0 + 2 ^ b
        past r h =
            any-default stepped r 0 (0 + 2 ^ b) (omega (arith, lengths, length-map (take many index) (λ i. i + 2 ^ b)))
            ∙ get_or-map (λ i. i + 2 ^ b) (take many index) r 0 ∙ ap (λ (x : ℕ). x + 2 ^ b) (get_or-take many index r 0 h)

        small : (c : ℕ) → AtMost l m c → (q : ℕ) → q < many + many → Dec (q < many) → get_or next q 0 ≤ c + 2 ^ largest * suc b
        small c given q h (yes low) =
            omega (arith, at q h, get_or-append (take many index) stepped 0 q (omega (arith, lengths)), get_or-take many index q 0 low, before.small c given q low)
        small c given q h (no high) =
            let e : q ≡ length (take many index) + (q - many) = omega (arith, lengths) in
            omega (
              arith,
              at q h,
              ap (λ (k : ℕ). get_or (take many index ++ stepped) k 0) e,
              get_or-append-add (take many index) stepped (q - many) 0,
              past (q - many) (omega arith),
              before.small c given (q - many) (omega arith),
            )

    -- a bit that does not
    pub widened_failing : test b ≡ false → Widened l m test (b + 1) index many
    unfolding widened_by
    widened_failing fails =
        rw (add-one b)
        (record {
          same = before.same;
          counted = before.counted ∙ ap (λ (k : ℕ). m * 2 ^ k) (sym (count_failing test b fails));
          listed = rw fails before.listed;
          small = λ c given q h. omega (arith, before.small c given q h);
        })
