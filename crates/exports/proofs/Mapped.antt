-- What `.map_err(..)?` passes on: the value of the call, or its refusal's kind.
use mathlib.Core.Path.{◌≡◌, refl, ap, subst, ◌∙◌}
use Rattle.std.specs.Prelude.{Result, Ok, Err}
use Rattle.std.specs.Result.{IsErrAnd, MatchResult}
use Rattle.sheet.specs.declared.refusal.Refusal.{Refusal}
use Rattle.sheet.specs.declared.refusal.RefusalKind.{RefusalKind}
use Rattle.sheet.specs.Refusals.{refusal_number}
use Rattle.exports.specs.Returned.{returned_of}

-- the value is the call's
pub value-kept : {A : Type 0} (r : Result A Refusal) {m : Result A RefusalKind} {x : A} (P : Refusal → RefusalKind → Type 0) →
    MatchResult r (λ x. m ≡ Ok x) (λ e. IsErrAnd m (P e)) → m ≡ Ok x → r ≡ Ok x
value-kept (Ok y) {m} {x} P h is = let p : y ≡ x = cc in ap Ok p
value-kept (Err e) {m} {x} P h is = absurd (subst (λ k. IsErrAnd k (P e)) is h)

-- the refusal is the call's, and its number is what C is told
pub refusal-kept : {A B : Type 0} (r : Result A Refusal) {m : Result A RefusalKind} {kind : RefusalKind} (P : Refusal → RefusalKind → Type 0) →
    ((e : Refusal) (k : RefusalKind) → P e k → k ≡ e.kind) → MatchResult r (λ x. m ≡ Ok x) (λ e. IsErrAnd m (P e)) → m ≡ Err kind →
    (out : Result B RefusalKind) → IsErrAnd out (λ k. k ≡ kind) → (e : Refusal) × ((r ≡ Err e) × (returned_of out ≡ refusal_number e.kind))
refusal-kept (Ok y) P made h is out passed = cc
refusal-kept (Err e) P made h is (Ok y) passed = absurd passed
refusal-kept (Err e) {m} {kind} P made h is (Err k) passed =
    (e, (refl, ap refusal_number (passed ∙ made e kind (subst (λ x. IsErrAnd x (P e)) is h))))
