-- What the contracts of this crate speak of, text put into a buffer, and its laws: nothing, a byte more, a text behind another.
use Rattle.std.specs.Prelude.{ℕ, ◌+◌, ◌≡◌, refl, List, [], ◌∷◌, ◌++◌, length, set}
use Rattle.std.proofs.Common.{◌∙◌, ap, arith, length-append}
use Rattle.std.proofs.lemmas.List.Edits.{sets}
use Rattle.std.proofs.Math.Seq.{length-sets}
use Rattle.laws.specs.Numbers.Stores.{sets_append}
use Rattle.laws.specs.Answers.OneAnswer.{one_answer}

-- a text is put into a buffer at a place: where it ends, and the whole buffer afterwards
pub record Put (before : List ℕ) (at : ℕ) (text : List ℕ) (end : ℕ) (after : List ℕ) : Type 0 where
  pub ends : end ≡ at + length text
  pub holds : after ≡ sets before at text

-- the end and the buffer are determined
pub one_put : {before : List ℕ} {at : ℕ} {text : List ℕ} {r s : ℕ} {after other : List ℕ} → Put before at text r after
    → Put before at text s other → (r ≡ s) × (after ≡ other)
one_put p q = (one_answer p.ends q.ends, one_answer p.holds q.holds)

pub put_none : (out : List ℕ) (at : ℕ) → Put out at [] at out
put_none out at = record { ends = omega arith; holds = refl }

module _ {before : List ℕ} {at : ℕ} {text : List ℕ} {end : ℕ} {after : List ℕ} (put : Put before at text end after) where
  -- the buffer keeps its length
  pub put-length : length after ≡ length before
  put-length = ap length put.holds ∙ length-sets before at text

  -- a text behind it
  pub put_then : {more : List ℕ} {last : ℕ} {whole : List ℕ} → Put after end more last whole → Put before at (text ++ more) last whole
  put_then {more} next =
      record {
        ends = omega (arith, next.ends, put.ends, length-append text more);
        holds = next.holds ∙ rw (put.holds, put.ends) (sets_append before at text more);
      }

  -- a byte behind it
  pub put_byte : (b : ℕ) → Put before at (text ++ (b ∷ [])) (end + 1) (set after end b)
  put_byte b = put_then (record { ends = refl; holds = refl })
