-- Sums, tests and lists over the numbers below a bound: the vocabulary in which the other files are written.
use Rattle.std.specs.Prelude.{ℕ, zero, suc, ◌+◌, min, Bool, true, false, ◌&&◌, cond, List, [], ◌∷◌, ◌++◌}
use Rattle.std.proofs.Math.Option.{Option, none, some}

-- one of two ways on, by a test; the other is not computed
abbrev pub choose : {A : Type 0} → Bool → (Unit {0} → A) → (Unit {0} → A) → A
choose true a b = a tt
choose false a b = b tt

-- f 0 + f 1 + .. + f (m - 1)
unfoldable pub sum_below : ℕ → (ℕ → ℕ) → ℕ
sum_below zero f = 0
sum_below (suc m) f = sum_below m f + f m

-- how many numbers below m pass the test
unfoldable pub count_below : ℕ → (ℕ → Bool) → ℕ
unfolding sum_below
count_below m test = sum_below m (λ i. cond (test i) 1 0)

-- every number below m passes the test
unfoldable pub all_below : ℕ → (ℕ → Bool) → Bool
all_below zero test = true
all_below (suc m) test = all_below m test && test m

-- the smaller of a number and one that may be missing
abbrev pub or_less : ℕ → Option ℕ → ℕ
or_less a none = a
or_less a (some b) = min a b

-- the least f i over the i below m that pass the test; nothing where none passes
unfoldable pub least_below : ℕ → (ℕ → Bool) → (ℕ → ℕ) → Option ℕ
least_below zero test f = none
least_below (suc m) test f = cond (test m) (some (or_less (f m) (least_below m test f))) (least_below m test f)

-- the number that is there, or else m where m passes
abbrev pub or_else : Option ℕ → Bool → ℕ → Option ℕ
or_else (some i) passes m = some i
or_else none true m = some m
or_else none false m = none

-- the first number below m that passes the test
unfoldable pub first_below : ℕ → (ℕ → Bool) → Option ℕ
first_below zero test = none
first_below (suc m) test = or_else (first_below m test) (test m) m

-- the numbers below m that pass the test, rising
unfoldable pub list_below : ℕ → (ℕ → Bool) → List ℕ
list_below zero test = []
list_below (suc m) test = list_below m test ++ cond (test m) (m ∷ []) []
