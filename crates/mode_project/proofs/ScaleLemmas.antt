use Rattle.std.proofs.Common.{◌≡◌, ◌+◌, ◌<◌, ℕ, inl, inr, Bool, true, false, sym, ◌∙◌, ap, subst, List, set, add-one}
use Rattle.std.proofs.lemmas.List.{get_or-set_other}
use Rattle.std.specs.Prelude.{slice_index_or}
use Rattle.algebra.specs.SumLaws.{decide}
use Rattle.algebra.specs.NumberedGroup.{Group, IsGroup}
use Rattle.algebra.specs.NumberedGroupLaws.{product-back, back-product, cancel}
use Rattle.cyclo24.specs.FieldOn.{FieldOn}
use Rattle.cyclo24.specs.FieldLaws.{nought-times, plus-cancel}
use Rattle.cyclo24.specs.Sums.{total}
use Rattle.cyclo24.specs.SumLaws.{renumbered}
use Rattle.cyclo24.specs.TotalLaws.{total-same}
use Rattle.lin_alg.specs.Matrices.{IsClassFunction, convolution}
use Rattle.mode_project.specs.ProjectionLaws.{by-conjugation}
use Rattle.mode_project.specs.Scaled.{IsScaledAt}

module _ (g : Group) (h : IsGroup g) (p : ℕ) (lp : p < g.order) where
  -- p x p^-1
  abbrev pub conjugate : ℕ → ℕ
  conjugate x = g.product (g.product p x) (g.inverse p)

  pub conjugate-below : (x : ℕ) → x < g.order → conjugate x < g.order
  conjugate-below x lx = h.product_below (g.product p x) (g.inverse p) (h.product_below p x lp lx) (h.inverse_below p lp)

  conjugate-product : (x y : ℕ) → x < g.order → y < g.order → g.product (conjugate x) (conjugate y) ≡ conjugate (g.product x y)
  conjugate-product x y lx ly =
      let s = g.inverse p in
      let ls = h.inverse_below p lp in
      let px = g.product p x in
      let lpx = h.product_below p x lp lx in
      let py = g.product p y in
      let lpy = h.product_below p y lp ly in
      h.product_assoc px s (conjugate y) lpx ls (conjugate-below y ly)
      ∙ ap (g.product px) (sym (h.product_assoc s py s ls lpy ls) ∙ ap (λ z. g.product z s) (back-product g h p y lp ly))
      ∙ sym (h.product_assoc px y s lpx ly ls)
      ∙ ap (λ z. g.product z s) (h.product_assoc p x y lp lx ly)

  -- (p c p^-1)^-1 (p q p^-1) = p (c^-1 q) p^-1
  conjugate-back : (c q : ℕ) → c < g.order → q < g.order → g.product (g.inverse (conjugate c)) (conjugate q) ≡ conjugate (g.product (g.inverse c) q)
  conjugate-back c q lc lq =
      let y = conjugate c in
      let ly = conjugate-below c lc in
      let z = conjugate q in
      let lz = conjugate-below q lq in
      let x = g.product (g.inverse c) q in
      let lx = h.product_below (g.inverse c) q (h.inverse_below c lc) lq in
      cancel g h y (g.product (g.inverse y) z) (conjugate x) ly (h.product_below (g.inverse y) z (h.inverse_below y ly) lz) (conjugate-below x lx)
      (product-back g h y z ly lz ∙ sym (conjugate-product c x lc lx ∙ ap conjugate (product-back g h c q lc lq)))

  module _ {K : Type 0} (f : FieldOn K) (w : ℕ → K) (class : IsClassFunction g w) where
    convolution-class : (q : ℕ) → q < g.order → convolution f g w w (conjugate q) ≡ convolution f g w w q
    convolution-class q lq =
        sym (renumbered f g.order _ _ (by-conjugation g h p lp) (λ b. f.times (w b) (w (g.product (g.inverse b) (conjugate q)))))
        ∙ total-same f g.order _ _ (λ c lc. λ t. f.times (class c p lc lp t)
        ((ap w (conjugate-back c q lc lq) ∙ class (g.product (g.inverse c) q) p (h.product_below (g.inverse c) q (h.inverse_below c lc) lq) lp) t))

    -- what holds at q holds at its conjugates
    pub scaled-class : (x : K) (q : ℕ) → q < g.order → IsScaledAt f g w x q → IsScaledAt f g w x (conjugate q)
    scaled-class x q lq e = convolution-class q lq ∙ e ∙ ap (f.times x) (sym (class q p lq lp))

-- what is marked after one more mark
pub marked-next : (P : ℕ → Type 0) (xs : List Bool) (at : ℕ) → ((p : ℕ) → slice_index_or xs p false ≡ true → P p) → P at → (p : ℕ) → slice_index_or (set xs at true) p false ≡ true → P p
marked-next P xs at h own p e = elim (decide p at) [ inl k ↦ subst P (sym k) own | inr n ↦ h p (sym (get_or-set_other xs at p true false n) ∙ e) ]

module _ {K : Type 0} (f : FieldOn K) where
  -- nothing is added where the first factor is 0
  pub no-term : (sum x y z : K) → f.is_nought x ≡ true → z ≡ x → sum ≡ f.plus sum (f.times z y)
  no-term sum x y z n e = sym (ap (λ u. f.plus sum (f.times u y)) (e ∙ f.is_nought-true x n) ∙ ap (f.plus sum) (nought-times f y) ∙ f.plus-nought sum)

  -- a difference that is 0
  pub same-by_difference : (x y r : K) → r ≡ f.plus x (f.neg y) → f.is_nought r ≡ true → x ≡ y
  same-by_difference x y r e n = plus-cancel f x y (f.neg y) (sym e ∙ f.is_nought-true r n ∙ sym (f.plus-neg y))

  -- one more term
  pub total-next : (h : ℕ → K) (k : ℕ) (old new : K) → old ≡ total f k h → new ≡ f.plus old (h k) → new ≡ total f (k + 1) h
  total-next h k old new e n = n ∙ ap (λ z. f.plus z (h k)) e ∙ ap (λ m. total f m h) (sym (add-one k))
