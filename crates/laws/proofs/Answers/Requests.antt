-- The order of a request by parts, and what a request that is taken says: its fields are its bytes', of a right code and folding, with
-- a message that fits.
use Rattle.std.specs.Prelude.{ℕ, ◌≡◌, refl, ◌↔◌, List, [], ◌∷◌, ◌++◌}
use Rattle.std.proofs.Common.{sym, ap, ◌∙◌, leb-false}
use Rattle.std.proofs.lemmas.Bool.{lt-leb}
use Rattle.rules.specs.Refusals.{done, answer, refuse, wrong_size, wrong_mask, wrong_message}
use Rattle.rules.specs.Orders.{code_order, folding_order, folded_order}
use Rattle.rules.specs.Request.{Request, request_of, short_request, request_not_zero, request_order, request_answer, write_order}
use Rattle.laws.specs.Answers.Orders.{Passed, answer_again, folded_right, not_refused, parts, passed}
use Rattle.laws.specs.Answers.Requests.{Asked, WriteRight, request_bytes_order}

-- a request is refused for the bytes, then as its record is: 13, 1, 12 and then 1, 3, 4, 5, 9
pub request_parts : {A : Type 0} (bytes : List ℕ) (a : A)
    → answer (request_order bytes) a ≡ answer (request_bytes_order bytes ++ write_order (request_of bytes)) a
unfolding request_order write_order folded_order code_order
request_parts bytes a =
    let r = request_of bytes in
    sym
    (answer_again (short_request bytes ∷ []) (wrong_size r.n) (request_not_zero bytes ∷ [])
    (wrong_mask r.n r.mask ∷ folding_order r.n r.folding ++ wrong_message r.n r.mask r.message ∷ []) a)

-- 1, 3, 4, 5, 9 let exactly these pass
pub write_right : (r : Request) → Passed (write_order r) ↔ WriteRight r
unfolding write_order
write_right r =
    let tests = folded_order r.n r.mask r.folding in
    let last = wrong_message r.n r.mask r.message ∷ [] in (
      λ p.
          let both = (parts tests last).0 p in
          record {
            folded = (folded_right r.n r.mask r.folding).0 both.0;
            message_fits = leb-false _ _ (not_refused 9 _ both.1.0);
          },
      λ right.
          (parts tests last).1 (
            (folded_right r.n r.mask r.folding).1 right.folded,
            (ap (refuse 9) (lt-leb _ _ right.message_fits), tt),
          ),
    )

-- no others are taken
pub request_right : (bytes : List ℕ) (r : Request) → request_answer bytes ≡ done r → Asked bytes r
unfolding request_answer
request_right bytes r e =
    let q = request_of bytes in
    let read = passed (request_bytes_order bytes ++ write_order q) q r (sym (request_parts bytes q) ∙ e) in
    let own : Asked bytes q = record { fields = refl; written = ((parts (request_bytes_order bytes) (write_order q)).0 read.0).1 } in
    rw read.1 at own
