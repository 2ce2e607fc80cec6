-- Laws of numbered groups.
--
-- product-inverse, product-identity: the right-hand laws
-- product-back, back-product: a after its inverse, and its inverse after a
-- cancel: a product determines its right factor
use Rattle.std.proofs.Common.{◌≡◌, ℕ, ◌<◌, sym, ◌∙◌, ap}
use Rattle.algebra.specs.NumberedGroup.{Group, IsGroup}

module _ (g : Group) (law : IsGroup g) where
  pub product-inverse : (a : ℕ) → a < g.order → g.product a (g.inverse a) ≡ 0
  product-inverse a l =
      let b = g.inverse a in
      let m = law.inverse_below a l in
      let c = g.inverse b in
      let n = law.inverse_below b m in
      let x = law.product_below a b l m in
      sym (law.identity-product (g.product a b) x) ∙ ap (λ y. g.product y (g.product a b)) (sym (law.inverse-product b m)) ∙ law.product_assoc c b (g.product a b) n m x
      ∙ ap (g.product c) (sym (law.product_assoc b a b m l m) ∙ ap (λ y. g.product y b) (law.inverse-product a l) ∙ law.identity-product b m) ∙ law.inverse-product b m

  pub product-identity : (a : ℕ) → a < g.order → g.product a 0 ≡ a
  product-identity a l =
      let b = g.inverse a in
      let m = law.inverse_below a l in
      ap (g.product a) (sym (law.inverse-product a l)) ∙ sym (law.product_assoc a b a l m l) ∙ ap (λ z. g.product z a) (product-inverse a l) ∙ law.identity-product a l

  pub product-back : (a b : ℕ) → a < g.order → b < g.order → g.product a (g.product (g.inverse a) b) ≡ b
  product-back a b l m =
      sym (law.product_assoc a (g.inverse a) b l (law.inverse_below a l) m) ∙ ap (λ y. g.product y b) (product-inverse a l) ∙ law.identity-product b m

  pub back-product : (a b : ℕ) → a < g.order → b < g.order → g.product (g.inverse a) (g.product a b) ≡ b
  back-product a b l m =
      sym (law.product_assoc (g.inverse a) a b (law.inverse_below a l) l m) ∙ ap (λ y. g.product y b) (law.inverse-product a l) ∙ law.identity-product b m

  pub cancel : (a b c : ℕ) → a < g.order → b < g.order → c < g.order → g.product a b ≡ g.product a c → b ≡ c
  cancel a b c l m n e = sym (back-product a b l m) ∙ ap (g.product (g.inverse a)) e ∙ back-product a c l n
