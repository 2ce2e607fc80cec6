-- What holds in a short type holds over K24.
--
-- to_long: a fact of a short field and its values, over K24; to_short: and back
use Rattle.std.proofs.Common.{sym, subst}
use Rattle.cyclo24.specs.ExactField.{ExactField, Value}
use Rattle.cyclo24.specs.ExactK24.{Exact24}
use Rattle.cyclo24.specs.ExactShort.{short24, IsShortField}

module _ {A : Type 0} (f : ExactField) (value : A → Value f) (exact : A → Exact24) (e : IsShortField f value exact) where
  -- a fact of a short field and its values, over K24
  pub to_long : (P : (g : ExactField) → (A → Value g) → Type 0) → P f value → P short24 exact
  to_long P h = subst (λ p. P p.0 p.1) e h

  -- and back
  pub to_short : (P : (g : ExactField) → (A → Value g) → Type 0) → P short24 exact → P f value
  to_short P h = subst (λ p. P p.0 p.1) (sym e) h
