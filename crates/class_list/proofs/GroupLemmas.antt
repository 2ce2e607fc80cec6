-- Conjugates in a numbered group.
use Rattle.std.proofs.Common.{◌≡◌, ◌↔◌, ℕ, ◌<◌, sym, ◌∙◌, ap, subst}
use Rattle.algebra.specs.NumberedGroup.{Group, IsGroup}
use Rattle.algebra.specs.NumberedGroupLaws.{product-identity, product-inverse, product-back, back-product}
use Rattle.class_list.specs.Stabilisers.{conjugate}

module _ (g : Group) (law : IsGroup g) where
  pub conjugate-below : (q a : ℕ) → q < g.order → a < g.order → conjugate g q a < g.order
  conjugate-below q a l m = law.product_below (g.product q a) (g.inverse q) (law.product_below q a l m) (law.inverse_below q l)

  -- (p q)^-1 = q^-1 p^-1
  inverse-product_of : (p q : ℕ) → p < g.order → q < g.order → g.inverse (g.product p q) ≡ g.product (g.inverse q) (g.inverse p)
  inverse-product_of p q l m =
      let x : ℕ = g.inverse (g.product p q) in
      let y : ℕ = g.product (g.inverse q) (g.inverse p) in
      let pq : g.product p q < g.order = law.product_below p q l m in
      let ip : g.inverse p < g.order = law.inverse_below p l in
      let iq : g.inverse q < g.order = law.inverse_below q m in
      let yl : y < g.order = law.product_below (g.inverse q) (g.inverse p) iq ip in
      let e : g.product (g.product p q) y ≡ 0 =
      law.product_assoc p q y l m yl ∙ ap (g.product p) (product-back g law q (g.inverse p) m ip) ∙ product-inverse g law p l in
      sym (product-identity g law x (law.inverse_below (g.product p q) pq)) ∙ ap (g.product x) (sym e) ∙ back-product g law (g.product p q) y pq yl

  inverse-identity : g.inverse 0 ≡ 0
  inverse-identity = sym (product-identity g law (g.inverse 0) (law.inverse_below 0 law.identity_below)) ∙ law.inverse-product 0 law.identity_below

  pub conjugate-identity : (a : ℕ) → a < g.order → conjugate g 0 a ≡ a
  conjugate-identity a l = ap (λ z. g.product z (g.inverse 0)) (law.identity-product a l) ∙ ap (g.product a) inverse-identity ∙ product-identity g law a l

  -- p (q a q^-1) p^-1 = (p q) a (p q)^-1
  pub conjugate-product : (p q a : ℕ) → p < g.order → q < g.order → a < g.order → conjugate g p (conjugate g q a) ≡ conjugate g (g.product p q) a
  conjugate-product p q a l m n =
      let ip : g.inverse p < g.order = law.inverse_below p l in
      let iq : g.inverse q < g.order = law.inverse_below q m in
      let qa : g.product q a < g.order = law.product_below q a m n in
      let pqa : g.product p (g.product q a) < g.order = law.product_below p (g.product q a) l qa in
      ap (λ z. g.product z (g.inverse p)) (sym (law.product_assoc p (g.product q a) (g.inverse q) l qa iq))
      ∙ law.product_assoc (g.product p (g.product q a)) (g.inverse q) (g.inverse p) pqa iq ip
      ∙ (λ i. g.product (sym (law.product_assoc p q a l m n) i) (sym (inverse-product_of p q l m) i))

  pub conjugate-back : (q a : ℕ) → q < g.order → a < g.order → conjugate g (g.inverse q) (conjugate g q a) ≡ a
  conjugate-back q a l m = conjugate-product (g.inverse q) q a (law.inverse_below q l) l m ∙ ap (λ z. conjugate g z a) (law.inverse-product q l) ∙ conjugate-identity a m

  pub back-conjugate : (q a : ℕ) → q < g.order → a < g.order → conjugate g q (conjugate g (g.inverse q) a) ≡ a
  back-conjugate q a l m = conjugate-product q (g.inverse q) a l (law.inverse_below q l) m ∙ ap (λ z. conjugate g z a) (product-inverse g law q l) ∙ conjugate-identity a m

  -- R is q P q^-1
  abbrev pub Conjugates : ℕ → (ℕ → Type 0) → (ℕ → Type 0) → Type 0
  Conjugates q P R = (a : ℕ) → a < g.order → P a ↔ R (conjugate g q a)

  pub conjugates-own : (P : ℕ → Type 0) → Conjugates 0 P P
  conjugates-own P a l = (λ h. subst P (sym (conjugate-identity a l)) h, λ h. subst P (conjugate-identity a l) h)

  pub conjugates-then : (p q : ℕ) (P R T : ℕ → Type 0) → p < g.order → q < g.order → Conjugates q P R → Conjugates p R T → Conjugates (g.product p q) P T
  conjugates-then p q P R T l m h k a n =
      let b : ℕ = conjugate g q a in
      let bl : b < g.order = conjugate-below q a m n in
      let e = conjugate-product p q a l m n in (
        λ x. subst T e ((k b bl).0 ((h a n).0 x)),
        λ x. (h a n).1 ((k b bl).1 (subst T (sym e) x)),
      )

  pub conjugates-back : (q : ℕ) (P R : ℕ → Type 0) → q < g.order → Conjugates q P R → Conjugates (g.inverse q) R P
  conjugates-back q P R l h a m =
      let r : ℕ = g.inverse q in
      let b : ℕ = conjugate g r a in
      let bl : b < g.order = conjugate-below r a (law.inverse_below q l) m in
      let e = back-conjugate q a l m in (
        λ x. (h b bl).1 (subst R (sym e) x),
        λ x. subst R e ((h b bl).0 x),
      )

  -- two sets that are q P q^-1 are one
  pub conjugates-one : (q : ℕ) (P R T : ℕ → Type 0) → q < g.order → Conjugates q P R → Conjugates q P T → (a : ℕ) → a < g.order → R a ↔ T a
  conjugates-one q P R T l h k a m =
      let b : ℕ = conjugate g (g.inverse q) a in
      let bl : b < g.order = conjugate-below (g.inverse q) a (law.inverse_below q l) m in
      let e = back-conjugate q a l m in (
        λ x. subst T e ((k b bl).0 ((h b bl).1 (subst R (sym e) x))),
        λ x. subst R e ((h b bl).0 ((k b bl).1 (subst T (sym e) x))),
      )

  pub conjugate-once : (q a b : ℕ) → q < g.order → a < g.order → b < g.order → conjugate g q a ≡ conjugate g q b → a ≡ b
  conjugate-once q a b l m n e = sym (conjugate-back q a l m) ∙ ap (conjugate g (g.inverse q)) e ∙ conjugate-back q b l n
