-- What a `map_err` gave, by what it was given. Assumes nothing.
use mathlib.Core.Path.{◌≡◌, refl, sym, ap, ◌∙◌, subst}
use Rattle.std.specs.Prelude.{Result, Ok, Err, MatchResult, IsErrAnd}
use Rattle.std.proofs.lemmas.Result.{err_from_is_err_and}
use Rattle.rules.proofs.Tests.{clash}

module _ {T E D : Type 0} where
  -- an error is what comes of the one that there was
  pub mapped : (r : Result T E) (out : Result T D) (L : E → D → Type 0) → MatchResult r (λ x. out ≡ Ok x) (λ e. IsErrAnd out (λ d. L e d)) → (q : D) → out ≡ Err q
      → (e : E) × (r ≡ Err e) × L e q
  mapped (Ok x) out L m q is = let c : Ok x ≡ Err q = sym m ∙ is in clash (cc)
  mapped (Err e) out L m q is =
      let (d, was, l) = err_from_is_err_and out m in
      let same : d ≡ q = let c = sym was ∙ is in cc in
      (e, refl, subst (L e) same l)

  -- a value is the one that there was
  pub mapped_ok : (r : Result T E) (out : Result T D) (L : E → D → Type 0) → MatchResult r (λ x. out ≡ Ok x) (λ e. IsErrAnd out (λ d. L e d)) → (x : T) → out ≡ Ok x → r ≡ Ok x
  mapped_ok (Ok y) out L m x is =
      let c : Ok y ≡ Ok x = sym m ∙ is in
      let same : y ≡ x = cc in
      ap Ok same
  mapped_ok (Err e) out L m x is =
      let (d, was, l) = err_from_is_err_and out m in
      let c : Err d ≡ Ok x = sym was ∙ is in clash (cc)
