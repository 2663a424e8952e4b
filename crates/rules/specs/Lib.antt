-- Document 01 as definitions, a file for each part of it, in reading order. A definition stands under the sentence that it says,
-- document 01's, or document 02's where that has changed it (K1: levels) or added to it (K2: the requests that `make` reads).
-- How to read one: `f : ℕ → ℤ → Bool` says that f takes a number from 0 up and one of either sign, and gives true or false; the
-- lines below it say what `f a b` is. Cases go by form: `zero` or `suc m` (m + 1), `none` or `some v`, `[]` or `a ∷ rest`.
-- `λ i. e` is the function that gives e for i. `l ++ m` is the list l and then m. `r.x` is the field x of the record r.
-- `cond t a b` is a if the test t is true, else b; `choose t (λ _. a) (λ _. b)` is the same. `eqb`, `ltb`, `leb` test =, <, ≤.
-- `length l` counts the elements of l, `take k l` has the first k of them and `drop k l` the others, `map f l` has f of each, and
-- `replicate k v` is v k times. `pos k` is the number k, `negsuc k` is -(k + 1). `let x = a in e` is e with x for a.
-- `a / b` is the whole quotient, `a % b` the remainder, `a - b` is 0 where b is greater. `get_or l i v` is element i of l, or v.
-- `ones w` counts the one bits of w, `bit_and v w` has those of both. `nat_abs z` is z without its sign, `y -ℤ z` is y minus z.
-- `Unit`, whose one value is `tt`, says nothing. `abbrev`, `unfoldable`, `unfolding`, `pub` and `use` are for the checker alone.
pub mod Below
pub mod Word
pub mod Level
pub mod Guard
pub mod Sample
pub mod Folding
pub mod Walk
pub mod Assembling
pub mod Refusals
pub mod Orders
pub mod Answers
pub mod Record
pub mod Text
pub mod Request
pub mod Rows
