-- Orders of refusals by parts: what an order answers where its first part refuses or is passed, and for each named order what
-- passing it says of the input; those of decoding and of a record stand in DecodeOrder and Records. Besides these laws only the
-- proof of a function that makes the tests looks into its order.
use Rattle.std.specs.Prelude.{ℕ, ◌^◌, ◌≤◌, ◌<◌, ◌≡◌, refl, ◌↔◌, Bool, true, false, not, ◌||◌, List, [], ◌∷◌, ◌++◌, leb, ltb, eqb, ℤ, length}
use Rattle.std.proofs.Common.{sym, ap, append-nil, arith, ltb-false, leb-false, eqb-true, le-ltb, eq-eqb}
use Rattle.std.proofs.Math.Option.{Option, none, some, none-ne-some}
use Rattle.std.specs.Int.Count.{ones}
use Rattle.std.proofs.lemmas.Bool.{eqb-false, not-false, lt-leb}
use Rattle.rules.specs.Refusals.{Refusal, refused, done, answer, refuse, refuse_at, largest, is_wrong_size, wrong_size, wrong_length, wrong_mask, wrong_message}
use Rattle.rules.specs.Orders.{code_order, encode_order, encode_levels_order, folding_order, folded_order}
use Rattle.laws.specs.Answers.Sizes.{or_left, or_right, size-some, size-le, size_right}

-- no refusal of an order is given
abbrev pub Passed : List (Option Refusal) → Type 0
Passed [] = Unit {0}
Passed (o ∷ order) = (o ≡ none) × Passed order

-- an order that ends in success is passed, and the success is the one that it leads to
pub passed : {A : Type 0} (order : List (Option Refusal)) (success given : A) → answer order success ≡ done given → Passed order × (success ≡ given)
passed [] success given e = (tt, cc)
passed (none ∷ order) success given e = let r = passed order success given e in ((refl, r.0), r.1)
passed (some r ∷ order) success given e = let z : ◌≡◌ {A = ℕ} 0 1 = cc in absurd (omega arith)

-- and an order that is passed ends in success
pub passed_done : {A : Type 0} (order : List (Option Refusal)) (success : A) → Passed order → answer order success ≡ done success
passed_done [] success p = refl
passed_done (o ∷ order) success p = rw p.0 (passed_done order success p.1)

-- what follows an order that is passed decides
pub answer_after : {A : Type 0} (order more : List (Option Refusal)) (a : A) → Passed order → answer (order ++ more) a ≡ answer more a
answer_after [] more a p = refl
answer_after (o ∷ order) more a p = rw p.0 (answer_after order more a p.1)

-- an order that refuses decides, whatever follows
pub answer_refused : {A B : Type 0} (order more : List (Option Refusal)) (a : A) (b : B) (r : Refusal) → answer order a ≡ refused r
    → answer (order ++ more) b ≡ refused r
answer_refused [] more a b r e = let z : ◌≡◌ {A = ℕ} 0 1 = cc in absurd (omega arith)
answer_refused (none ∷ order) more a b r e = answer_refused order more a b r e
answer_refused (some q ∷ order) more a b r e = let same : q ≡ r = cc in ap refused same

-- and whatever its success
pub refused_so : {A B : Type 0} (order : List (Option Refusal)) (a : A) (b : B) (r : Refusal) → answer order a ≡ refused r → answer order b ≡ refused r
refused_so order a b r e = rw (append-nil order) at (answer_refused order [] a b r e)

-- an order is passed exactly where both its parts are
pub parts : (order more : List (Option Refusal)) → Passed (order ++ more) ↔ Passed order × Passed more
parts [] more = (λ p. (tt, p), λ p. p.1)
parts (o ∷ order) more = (
  λ p. let r = (parts order more).0 p.1 in ((p.0, r.0), r.1),
  λ p. (p.0.0, (parts order more).1 (p.0.1, p.1)),
)

-- a refusal that is tested a second time changes nothing
pub answer_again : {A : Type 0} (before : List (Option Refusal)) (o : Option Refusal) (between more : List (Option Refusal)) (a : A)
    → answer (before ++ (o ∷ between ++ o ∷ more)) a ≡ answer (before ++ (o ∷ between ++ more)) a
answer_again [] none between more a = go between
  where
    go : (between : List (Option Refusal)) → answer (between ++ none ∷ more) a ≡ answer (between ++ more) a
    go [] = refl
    go (none ∷ between) = go between
    go (some r ∷ between) = refl
answer_again [] (some r) between more a = refl
answer_again (none ∷ before) o between more a = answer_again before o between more a
answer_again (some r ∷ before) o between more a = refl

-- where a refusal is not given, its test is false
pub not_refused : (number : ℕ) (t : Bool) → refuse number t ≡ none → t ≡ false
not_refused number true e = absurd (none-ne-some _ (sym e))
not_refused number false e = refl

-- and one that names what was found: nothing was found
pub not_refused_at : (number : ℕ) (o : Option ℕ) → refuse_at number o ≡ none → o ≡ none
not_refused_at number none e = refl
not_refused_at number (some v) e = absurd (none-ne-some _ (sym e))

-- a refusal has a number
abbrev pub Numbered : Option Refusal → ℕ → Type 0
Numbered o number = (r : Refusal) → o ≡ some r → r.number ≡ number

-- one that names nothing has its own
own_number : (number : ℕ) (t : Bool) → Numbered (refuse number t) number
own_number number true r e = cc
own_number number false r e = absurd (none-ne-some r e)

-- and so has one that names what was found
pub own_number_at : (number : ℕ) (o : Option ℕ) → Numbered (refuse_at number o) number
own_number_at number (some v) r e = cc
own_number_at number none r e = absurd (none-ne-some r e)

-- the refusals of an order have these numbers, in turn
abbrev pub Numbers : List (Option Refusal) → List ℕ → Type 0
Numbers [] [] = Unit {0}
Numbers [] (number ∷ numbers) = ⊥
Numbers (o ∷ order) [] = ⊥
Numbers (o ∷ order) (number ∷ numbers) = Numbered o number × Numbers order numbers

-- whether a number is one of them
abbrev pub is_among : ℕ → List ℕ → Bool
is_among k [] = false
is_among k (number ∷ numbers) = eqb k number || is_among k numbers

-- a refusal whose number a first part does not have: that part is passed, and what follows refuses
pub refused_after : {A : Type 0} (order : List (Option Refusal)) (numbers : List ℕ) → Numbers order numbers → (more : List (Option Refusal)) (a : A)
    (r : Refusal) → is_among r.number numbers ≡ false → answer (order ++ more) a ≡ refused r → Passed order × (answer more a ≡ refused r)
refused_after [] numbers own more a r other e = (tt, e)
refused_after (o ∷ order) [] own more a r other e = absurd own
refused_after (none ∷ order) (number ∷ numbers) own more a r other e =
    let p = refused_after order numbers own.1 more a r (or_right (eqb r.number number) (is_among r.number numbers) other) e in
    ((refl, p.0), p.1)
refused_after (some q ∷ order) (number ∷ numbers) own more a r other e =
    let same : q ≡ r = cc in
    absurd (eqb-false _ _ (or_left (eqb r.number number) (is_among r.number numbers) other) (own.0 r (ap some same)))

-- an n and a mask that are a code
pub record CodeRight (n mask : ℕ) : Type 0 where
  pub some_slots : 1 ≤ n
  pub small : n ≤ largest
  pub mask_fits : mask < 2 ^ (2 ^ n)

-- 1, 3 let exactly these pass
pub code_right : (n mask : ℕ) → Passed (code_order n mask) ↔ CodeRight n mask
unfolding code_order
code_right n mask = (
  λ (size, (fits, _)).
      let right = not_refused 1 _ size in
      record { some_slots = size-some n right; small = size-le n right; mask_fits = leb-false _ _ (not_refused 3 _ fits) },
  λ right. (ap (refuse 1) (size_right n right.some_slots right.small), (ap (refuse 3) (lt-leb _ _ right.mask_fits), tt)),
)

-- a folding of connection sets below n, and few of them
pub record FoldingRight (n folding : ℕ) : Type 0 where
  pub fits : folding < 2 ^ n
  pub few : ones folding ≤ 3

-- 4, 5 let exactly these pass
pub folding_right : (n folding : ℕ) → Passed (folding_order n folding) ↔ FoldingRight n folding
unfolding folding_order
folding_right n folding = (
  λ (fits, (few, _)). record { fits = leb-false _ _ (not_refused 4 _ fits); few = ltb-false _ _ (not_refused 5 _ few) },
  λ right. (ap (refuse 4) (lt-leb _ _ right.fits), (ap (refuse 5) (le-ltb _ _ right.few), tt)),
)

-- a code, and the sets of a folding
pub record FoldedRight (n mask folding : ℕ) : Type 0 where
  pub code : CodeRight n mask
  pub sets : FoldingRight n folding

-- 1, 3, 4, 5 let exactly these pass
pub folded_right : (n mask folding : ℕ) → Passed (folded_order n mask folding) ↔ FoldedRight n mask folding
unfolding folded_order
folded_right n mask folding = (
  λ p.
      let both = (parts (code_order n mask) (folding_order n folding)).0 p in
      record { code = (code_right n mask).0 both.0; sets = (folding_right n folding).0 both.1 },
  λ right. (parts (code_order n mask) (folding_order n folding)).1 ((code_right n mask).1 right.code, (folding_right n folding).1 right.sets),
)

-- a refusal of another number comes after them
pub folded_other : {A : Type 0} (n mask folding : ℕ) (more : List (Option Refusal)) (a : A) (r : Refusal)
    → is_among r.number (1 ∷ 3 ∷ 4 ∷ 5 ∷ []) ≡ false → answer (folded_order n mask folding ++ more) a ≡ refused r
    → Passed (folded_order n mask folding) × (answer more a ≡ refused r)
unfolding folded_order code_order folding_order
folded_other n mask folding =
    refused_after (folded_order n mask folding) (1 ∷ 3 ∷ 4 ∷ 5 ∷ []) (
      own_number 1 (is_wrong_size n),
      (own_number 3 (leb (2 ^ (2 ^ n)) mask), (own_number 4 (leb (2 ^ n) folding), (own_number 5 (ltb 3 (ones folding)), tt))),
    )

-- 1, 2: the first part of the orders that have a lent slice
abbrev pub lent_order : ℕ → List ℤ → List (Option Refusal)
lent_order n slice = wrong_size n ∷ wrong_length n slice ∷ []

-- an n that is not refused, and a slice of N
pub record LentRight (n : ℕ) (slice : List ℤ) : Type 0 where
  pub size : is_wrong_size n ≡ false
  pub long : length slice ≡ 2 ^ n

-- 1, 2 let exactly these pass
pub lent_right : (n : ℕ) (slice : List ℤ) → Passed (lent_order n slice) ↔ LentRight n slice
lent_right n slice = (
  λ (size, (long, _)). record { size = not_refused 1 _ size; long = eqb-true _ _ (not-false _ (not_refused 2 _ long)) },
  λ right. (ap (refuse 1) right.size, (ap (λ (t : Bool). refuse 2 (not t)) (eq-eqb _ _ right.long), tt)),
)

-- a refusal of another number comes after them
pub lent_other : {A : Type 0} (n : ℕ) (slice : List ℤ) (more : List (Option Refusal)) (a : A) (r : Refusal)
    → is_among r.number (1 ∷ 2 ∷ []) ≡ false → answer (lent_order n slice ++ more) a ≡ refused r
    → Passed (lent_order n slice) × (answer more a ≡ refused r)
lent_other n slice =
    refused_after (lent_order n slice) (1 ∷ 2 ∷ []) (own_number 1 (is_wrong_size n), (own_number 2 (not (eqb (length slice) (2 ^ n))), tt))

-- encoding to levels is refused for the slice, then as encoding is: 1, 2 and then 1, 3, 9
pub levels_parts : {A : Type 0} (n : ℕ) (slice : List ℤ) (mask message : ℕ) (a : A)
    → answer (encode_levels_order n slice mask message) a ≡ answer (lent_order n slice ++ encode_order n mask message) a
unfolding encode_levels_order encode_order code_order
levels_parts n slice mask message a =
    sym (answer_again [] (wrong_size n) (wrong_length n slice ∷ []) (wrong_mask n mask ∷ wrong_message n mask message ∷ []) a)
