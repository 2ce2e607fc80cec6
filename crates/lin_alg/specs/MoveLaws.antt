-- What groups that move the members of a type obey.
--
-- back-move, move-back: q^-1 undoes q
-- fixes-conjugate, fixes-moved, fix-conjugate, stab-moved: images of fixed members, fixed spaces and stabilisers
-- move-inverse, move-inverse-identity: how inverses move
-- stab-same: spaces with the same members have the same stabilisers
use Rattle.std.proofs.Common.{◌≡◌, ◌↔◌, ◌<◌, ℕ, sym, ◌∙◌, ap, subst}
use Rattle.algebra.specs.NumberedGroupLaws.{product-identity, product-inverse}
use Rattle.lin_alg.specs.Moves.{AreConjugateBy, AreMoves, FixOf, Fixes, Moves, StabOf, conjugate, moved}
use Rattle.lin_alg.specs.Spans.{AreSame}

module _ {V : Type 0} (g : Moves V) (law : AreMoves g) where
  pub back-move : (q : ℕ) → q < g.group.order → (v : V) → g.move (g.group.inverse q) (g.move q v) ≡ v
  back-move q l v = sym (law.move-product (g.group.inverse q) q (law.group.inverse_below q l) l v) ∙ ap (λ a. g.move a v) (law.group.inverse-product q l) ∙ law.move-identity v

  pub move-back : (q : ℕ) → q < g.group.order → (v : V) → g.move q (g.move (g.group.inverse q) v) ≡ v
  move-back q l v = sym (law.move-product q (g.group.inverse q) l (law.group.inverse_below q l) v) ∙ ap (λ a. g.move a v) (product-inverse g.group law.group q l) ∙ law.move-identity v

  pub conjugate-below : (q a : ℕ) → q < g.group.order → a < g.group.order → conjugate g q a < g.group.order
  conjugate-below q a l m = law.group.product_below (g.group.product q a) (g.group.inverse q) (law.group.product_below q a l m) (law.group.inverse_below q l)

  -- q a q^-1 moves by q^-1, then a, then q
  pub move-conjugate : (q a : ℕ) → q < g.group.order → a < g.group.order → (v : V) → g.move (conjugate g q a) v ≡ g.move q (g.move a (g.move (g.group.inverse q) v))
  move-conjugate q a l m v =
      law.move-product (g.group.product q a) (g.group.inverse q) (law.group.product_below q a l m) (law.group.inverse_below q l) v
      ∙ law.move-product q a l m (g.move (g.group.inverse q) v)

  -- q a q^-1 fixes v where a fixes q^-1 v, and the other way round
  pub fixes-conjugate : (q a : ℕ) → q < g.group.order → a < g.group.order → (v : V) → Fixes g a (g.move (g.group.inverse q) v) ↔ Fixes g (conjugate g q a) v
  fixes-conjugate q a l m v = (
    λ h. move-conjugate q a l m v ∙ ap (g.move q) h ∙ move-back q l v,
    λ h. sym (back-move q l (g.move a (g.move (g.group.inverse q) v))) ∙ ap (g.move (g.group.inverse q)) (sym (move-conjugate q a l m v) ∙ h),
  )

  -- and at q v
  pub fixes-moved : (q a : ℕ) → q < g.group.order → a < g.group.order → (v : V) → Fixes g a v ↔ Fixes g (conjugate g q a) (g.move q v)
  fixes-moved q a l m v =
      let both = fixes-conjugate q a l m (g.move q v) in (
        λ h. both.0 (ap (g.move a) (back-move q l v) ∙ h ∙ sym (back-move q l v)),
        λ h. ap (g.move a) (sym (back-move q l v)) ∙ both.1 h ∙ back-move q l v,
      )

  -- each element is q b q^-1 for a b
  pub conjugate-onto : (q a : ℕ) → q < g.group.order → a < g.group.order → (b : ℕ) × (b < g.group.order) × (a ≡ conjugate g q b)
  conjugate-onto q a l m =
      let r : ℕ = g.group.inverse q in
      let rl : r < g.group.order = law.group.inverse_below q l in
      let ra : g.group.product r a < g.group.order = law.group.product_below r a rl m in
      let b : ℕ = g.group.product (g.group.product r a) q in
      let bl : b < g.group.order = law.group.product_below (g.group.product r a) q ra l in
      let qr : g.group.product q r ≡ 0 = product-inverse g.group law.group q l in
      let inner : g.group.product q b ≡ g.group.product a q =
      sym (law.group.product_assoc q (g.group.product r a) q l ra l)
      ∙ ap (λ z. g.group.product z q) (sym (law.group.product_assoc q r a l rl m) ∙ ap (λ z. g.group.product z a) qr ∙ law.group.identity-product a m) in
      let whole : g.group.product (g.group.product q b) r ≡ a =
      ap (λ z. g.group.product z r) inner ∙ law.group.product_assoc a q r m l rl ∙ ap (g.group.product a) qr ∙ product-identity g.group law.group a m in
      (b, bl, sym whole)

  -- Fix(q H q^-1) is q Fix(H)
  pub fix-conjugate : (q : ℕ) (H K : ℕ → Type 0) → q < g.group.order → AreConjugateBy g q H K → AreSame (FixOf g K) (moved g q (FixOf g H))
  fix-conjugate q H K l e v = (
    λ h a m k. (fixes-conjugate q a l m v).1 (h (conjugate g q a) (conjugate-below q a l m) ((e a m).0 k)),
    λ h a m k.
        let b = conjugate-onto q a l m in
        let kb : K (conjugate g q b.0) = subst K b.2 k in
        subst (λ (z : ℕ). Fixes g z v) (sym b.2) ((fixes-conjugate q b.0 l b.1 v).0 (h b.0 b.1 ((e b.0 b.1).1 kb))),
  )

  -- Stab(q U) is q Stab(U) q^-1
  pub stab-moved : (q : ℕ) (U : V → Type 0) → q < g.group.order → AreConjugateBy g q (StabOf g U) (StabOf g (moved g q U))
  stab-moved q U l a m = (
    λ h v u. (fixes-conjugate q a l m v).0 (h (g.move (g.group.inverse q) v) u),
    λ h v u. (fixes-moved q a l m v).1 (h (g.move q v) (subst U (sym (back-move q l v)) u)),
  )

  -- (a b)^-1 moves by a^-1 and then b^-1
  pub move-inverse : (a b : ℕ) → a < g.group.order → b < g.group.order → (v : V) →
      g.move (g.group.inverse (g.group.product a b)) v ≡ g.move (g.group.inverse b) (g.move (g.group.inverse a) v)
  move-inverse a b l m v =
      let w : V = g.move (g.group.inverse b) (g.move (g.group.inverse a) v) in
      let e : g.move (g.group.product a b) w ≡ v = law.move-product a b l m w ∙ ap (g.move a) (move-back b m (g.move (g.group.inverse a) v)) ∙ move-back a l v in
      ap (g.move (g.group.inverse (g.group.product a b))) (sym e) ∙ back-move (g.group.product a b) (law.group.product_below a b l m) w

  -- 0^-1 leaves all as they are
  pub move-inverse-identity : (v : V) → g.move (g.group.inverse 0) v ≡ v
  move-inverse-identity v = ap (g.move (g.group.inverse 0)) (sym (law.move-identity v)) ∙ back-move 0 law.group.identity_below v

  pub stab-same : (U W : V → Type 0) → AreSame U W → (a : ℕ) → StabOf g U a ↔ StabOf g W a
  stab-same U W e a = (λ h v w. h v ((e v).1 w), λ h v u. h v ((e v).0 u))
