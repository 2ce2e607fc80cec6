-- Sums with 0.
use Rattle.std.proofs.Common.{◌≡◌, sym, ap, ◌∙◌, true}
use Rattle.cyclo24.specs.FieldOn.{FieldOn}
use Rattle.cyclo24.specs.FieldLaws.{nought-plus}

module _ {K : Type 0} (f : FieldOn K) where
  pub nought_first : (s x : K) → f.is_nought s ≡ true → x ≡ f.plus s x
  nought_first s x z = sym (ap (λ a. f.plus a x) (f.is_nought-true s z) ∙ nought-plus f x)

  pub nought_last : (s x : K) → f.is_nought x ≡ true → s ≡ f.plus s x
  nought_last s x z = sym (ap (f.plus s) (f.is_nought-true x z) ∙ f.plus-nought s)
