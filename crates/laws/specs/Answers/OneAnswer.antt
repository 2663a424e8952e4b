-- No second answer, and what every answer shows. Each crate proves it of its public functions, over the contract itself: `f.Learnt` of a function's module
-- `Reads` is what the contract says at lifetimes κs, arguments a, result r and lent memory v after the call.
use Rattle.std.specs.Prelude.{◌≡◌}
use Rattle.std.proofs.Common.{sym, ◌∙◌}

-- two answers that both equal what the rules give are one
pub one_answer : {A : Type 0} {a b given : A} → a ≡ given → b ≡ given → a ≡ b
one_answer p q = p ∙ sym q

module _ {K : Type 0} {A R E : K → Type 0} where
  -- two results that meet the contract are equal
  abbrev pub OneResult : ((κs : K) → A κs → R κs → E κs → Type 0) → Type 0
  OneResult contract = (κs : K) (a : A κs) (r s : R κs) (v w : E κs) → contract κs a r v → contract κs a s w → r ≡ s

  -- and so is the lent memory, at the part that `part` picks
  abbrev pub OneOutcome : {M : Type 0} → ((κs : K) → E κs → M) → ((κs : K) → A κs → R κs → E κs → Type 0) → Type 0
  OneOutcome part contract =
      (κs : K) (a : A κs) (r s : R κs) (v w : E κs) → contract κs a r v → contract κs a s w → (r ≡ s) × (part κs v ≡ part κs w)

  -- every result that meets the contract has a property
  abbrev pub Shown : ((κs : K) → A κs → R κs → E κs → Type 0) → ((κs : K) → A κs → R κs → Type 0) → Type 0
  Shown contract property = (κs : K) (a : A κs) (r : R κs) (v : E κs) → contract κs a r v → property κs a r

  -- and so has every result with the lent memory that it leaves
  abbrev pub ShownLeft : ((κs : K) → A κs → R κs → E κs → Type 0) → ((κs : K) → A κs → R κs → E κs → Type 0) → Type 0
  ShownLeft contract property = (κs : K) (a : A κs) (r : R κs) (v : E κs) → contract κs a r v → property κs a r v

  -- two results that meet the contract agree in what it does not leave open
  abbrev pub Agreed : ((κs : K) → A κs → R κs → R κs → Type 0) → ((κs : K) → A κs → R κs → E κs → Type 0) → Type 0
  Agreed same contract = (κs : K) (a : A κs) (r s : R κs) (v w : E κs) → contract κs a r v → contract κs a s w → same κs a r s
