-- What closing by classes obeys.
--
-- image-identity_form, image-product_form: images of images
-- image-meet: what images have in common is the image of what the forms have in common
-- has-image-prop: a form has its image in a list of different forms at one place
-- kept-all: a list kept by the generators is kept by each element
-- class-holds: a list closed by classes has the equations of each distinct Fix(H)
use Rattle.std.proofs.Common.{◌≡◌, ◌↔◌, ℕ, ◌<◌, ◌⊎◌, inl, inr, sym, subst, List, [], ◌∷◌, arith, length}
use denote.Struct.Props.{props}
use Rattle.algebra.specs.NumberedGroup.{AllBelow}
use Rattle.algebra.specs.GeneratedLaws.{generated-holds}
use Rattle.cyclo24.specs.ExactField.{ExactField, Value}
use Rattle.cyclo24.specs.ValueLaws.{value-set}
use Rattle.lin_alg.specs.Equations.{dot}
use Rattle.lin_alg.specs.FormLaws.{form-unique}
use Rattle.lin_alg.specs.Action.{Action, IsAction, IsFixed}
use Rattle.lin_alg.specs.Fixed.{IsFixForm}
use Rattle.lin_alg.specs.Images.{moves_of}
use Rattle.lin_alg.specs.ImageLaws.{are-moves, fixes-fixed}
use Rattle.lin_alg.specs.Moves.{conjugate}
use Rattle.lin_alg.specs.MoveLaws.{fixes-conjugate, conjugate-onto, move-inverse, move-inverse-identity}
use Rattle.fix_lattice.specs.Lattice.{IsInSpace, form_at, HoldsFixes}
use Rattle.fix_lattice.specs.LatticeLaws.{fix-form, fix-vanishes}
use Rattle.fix_lattice.specs.Held.{IsFixSpace, IsMeet}
use Rattle.fix_lattice.specs.Classes.{IsImageForm, HasImage, IsCutWithEach, IsClassClosed}

-- pairs whose second has one proof are equal where their firsts are
pair-prop : (B : ℕ → Type 0) → ((x : ℕ) → IsProp (B x)) → (p q : (x : ℕ) × B x) → p.0 ≡ q.0 → p ≡ q
pair-prop B prop p q e =
    let a : ℕ = p.0 in
    let b : B a = p.1 in
    let C : ℕ → Type 0 = λ z. (c : B z) → ◌≡◌ {A = (x : ℕ) × B x} (a, b) (z, c) in
    subst C e (λ c i. (a, prop a b c i)) q.1

unit-prop : IsProp (Unit {0})
unit-prop = hlevel props

below-prop : (m n : ℕ) → IsProp (m < n)
below-prop m n = hlevel props

order : (i j : ℕ) → (i < j) ⊎ ((j < i) ⊎ (i ≡ j))
order i j = grind arith

-- no two forms of the list are equal
abbrev AreDifferent : {K : Type 0} → List (List (ℕ × (ℕ → K))) → Type 0
AreDifferent forms = (i j : ℕ) → i < j → j < length forms → form_at forms i ≡ form_at forms j → ⊥

module _ (f : ExactField) where
  space-prop : (w : ℕ) (rs : List (ℕ × (ℕ → Value f))) (v : ℕ → Value f) → IsProp (IsInSpace f.laws w rs v)
  space-prop w [] v h k = unit-prop h k
  space-prop w (r ∷ rs) v h k = λ i. (value-set f (dot f.laws w r.1 v) f.laws.nought h.0 k.0 i, space-prop w rs v h.1 k.1 i)

  image-prop : (act : Action) (a : ℕ) (u x : List (ℕ × (ℕ → Value f))) → IsProp (IsImageForm f.laws act a u x)
  image-prop act a u x h k =
      λ i v. (
        λ s. space-prop act.dim u ((moves_of f.laws act).move (act.group.inverse a) v) ((h v).0 s) ((k v).0 s) i,
        λ s. space-prop act.dim x v ((h v).1 s) ((k v).1 s) i,
      )

module _ (f : ExactField) (act : Action) (law : IsAction f.laws act) where
  -- what q fixes, at a^-1 v
  fixed-moved : (a b : ℕ) → a < act.group.order → b < act.group.order → (v : ℕ → Value f) →
      IsFixed f.laws act b ((moves_of f.laws act).move (act.group.inverse a) v) ↔ IsFixed f.laws act (conjugate (moves_of f.laws act) a b) v
  fixed-moved a b l m v =
      let both = fixes-conjugate (moves_of f.laws act) (are-moves f act law) a b l m v in
      let w : ℕ → Value f = (moves_of f.laws act).move (act.group.inverse a) v in (
        λ h. (fixes-fixed f act (conjugate (moves_of f.laws act) a b) v).0 (both.0 ((fixes-fixed f act b w).1 h)),
        λ h. (fixes-fixed f act b w).0 (both.1 ((fixes-fixed f act (conjugate (moves_of f.laws act) a b) v).1 h)),
      )

  -- the equations of Fix(a q a^-1) are the image of those of Fix(q)
  pub image-single : (a q : ℕ) (e x : List (ℕ × (ℕ → Value f))) → a < act.group.order → q < act.group.order → IsFixForm f.laws act (q ∷ []) e →
      IsFixForm f.laws act (conjugate (moves_of f.laws act) a q ∷ []) x → IsImageForm f.laws act a e x
  image-single a q e x l m he hx v =
      let w : ℕ → Value f = (moves_of f.laws act).move (act.group.inverse a) v in
      let moved = fixed-moved a q l m v in
      let at_x = fix-vanishes f act (conjugate (moves_of f.laws act) a q ∷ []) x hx v in
      let at_e = fix-vanishes f act (q ∷ []) e he w in (
        λ h. at_e.1 (moved.1 (at_x.0 h).0, tt),
        λ h. at_x.1 (moved.0 (at_e.0 h).0, tt),
      )

  -- what the images of two forms have in common is the image of what the forms have
  pub image-meet : (a : ℕ) (u e x u' e' x' : List (ℕ × (ℕ → Value f))) → IsMeet f.laws act.dim u e x → IsMeet f.laws act.dim u' e' x' →
      IsImageForm f.laws act a u u' → IsImageForm f.laws act a e e' → IsImageForm f.laws act a x x'
  image-meet a u e x u' e' x' m m' iu ie v =
      let w : ℕ → Value f = (moves_of f.laws act).move (act.group.inverse a) v in (
        λ h. let both = (m' v).0 h in (m w).1 ((ie v).0 both.0, (iu v).0 both.1),
        λ h. let both = (m w).0 h in (m' v).1 ((ie v).1 both.0, (iu v).1 both.1),
      )

  -- a form is its own image under the identity
  pub image-own : (u : List (ℕ × (ℕ → Value f))) → IsImageForm f.laws act 0 u u
  image-own u v =
      let e : (moves_of f.laws act).move (act.group.inverse 0) v ≡ v = move-inverse-identity (moves_of f.laws act) (are-moves f act law) v in (
        λ h. subst (IsInSpace f.laws act.dim u) (sym e) h,
        λ h. subst (IsInSpace f.laws act.dim u) e h,
      )

  -- the image under a of the image under b
  pub image-after : (a b : ℕ) (u x y : List (ℕ × (ℕ → Value f))) → a < act.group.order → b < act.group.order →
      IsImageForm f.laws act b u x → IsImageForm f.laws act a x y → IsImageForm f.laws act (act.group.product a b) u y
  image-after a b u x y l m ix iy v =
      let w : ℕ → Value f = (moves_of f.laws act).move (act.group.inverse a) v in
      let e : (moves_of f.laws act).move (act.group.inverse (act.group.product a b)) v ≡ (moves_of f.laws act).move (act.group.inverse b) w = move-inverse (moves_of f.laws act) (are-moves f act law) a b l m v in (
        λ h. subst (IsInSpace f.laws act.dim u) (sym e) ((ix w).0 ((iy v).0 h)),
        λ h. (iy v).1 ((ix w).1 (subst (IsInSpace f.laws act.dim u) e h)),
      )

  -- there is one proof that a form has an image in a list of different forms
  module _ (forms : List (List (ℕ × (ℕ → Value f)))) (only : (i : ℕ) → i < length forms → IsFixSpace f.laws act (form_at forms i))
      (once : (i j : ℕ) → i < j → j < length forms → form_at forms i ≡ form_at forms j → ⊥) where
    image-place : (a : ℕ) (u : List (ℕ × (ℕ → Value f))) (j k : ℕ) → j < length forms → k < length forms → IsImageForm f.laws act a u (form_at forms j) → IsImageForm f.laws act a u (form_at forms k) → j ≡ k
    image-place a u j k jl kl x y =
        let e : form_at forms j ≡ form_at forms k =
        form-unique f.laws act.dim (form_at forms j) (form_at forms k) (only j jl).1.1.form (only k kl).1.1.form (λ v. (λ h. (y v).1 ((x v).0 h), λ h. (x v).1 ((y v).0 h))) in
        elim (order j k) [
          | inl l ↦ absurd (once j k l kl e)
          | inr m ↦ elim m [ inl l ↦ absurd (once k j l jl (sym e)) | inr d ↦ d ]
        ]

    pub has-image-prop : (a : ℕ) (u : List (ℕ × (ℕ → Value f))) → IsProp (HasImage f.laws act forms a u)
    has-image-prop a u h k =
        pair-prop (λ j. (j < length forms) × IsImageForm f.laws act a u (form_at forms j)) (λ j x y i. (below-prop j (length forms) x.0 y.0 i, image-prop f act a u (form_at forms j) x.1 y.1 i)) h k
        (image-place a u h.0 k.0 h.1.0 k.1.0 h.1.1 k.1.1)

    -- a list kept by the generators is kept by each element
    pub kept-all : ((i p : ℕ) → i < length forms → p < act.generators → HasImage f.laws act forms (act.generator p) (form_at forms i)) →
        (a i : ℕ) → a < act.group.order → i < length forms → HasImage f.laws act forms a (form_at forms i)
    kept-all kept a i l =
        generated-holds act.group law.group act.generators act.generator law.generator_below law.generated
        (λ q. (i : ℕ) → i < length forms → HasImage f.laws act forms q (form_at forms i)) (λ q b h k t i m. has-image-prop q (form_at forms i) (h i m) (k i m) t)
        (λ i m. (i, (m, image-own (form_at forms i))))
        (λ p q pl ql t i m.
        let x = t i m in
        let y = kept x.0 p x.1.0 pl in
        (y.0, (y.1.0, image-after (act.generator p) q (form_at forms i) (form_at forms x.0) (form_at forms y.0) (law.generator_below p pl) ql x.1.1 y.1.1)))
        a l i

  -- each form of a list closed by classes is cut with each Fix(q)
  class-cut : (forms : List (List (ℕ × (ℕ → Value f)))) → IsClassClosed f.laws act forms → AreDifferent forms → (i : ℕ) → i < length forms → IsCutWithEach f.laws act forms i
  class-cut forms t once i l q m =
      let r = t.reached i l in
      let j : ℕ = r.0 in
      let a : ℕ = r.1 in
      let al : a < act.group.order = r.2.1.0 in
      let each : IsCutWithEach f.laws act forms j = r.2.1.1.0 in
      let image : IsImageForm f.laws act a (form_at forms j) (form_at forms i) = r.2.1.1.1 in
      let b = conjugate-onto (moves_of f.laws act) (are-moves f act law) a q al m in
      let bl : b.0 < act.group.order = b.1 in
      let c = each b.0 bl in
      let d = kept-all forms t.only once t.kept a c.0 al c.1.0 in
      let conj : (v : ℕ → Value f) → IsFixed f.laws act b.0 ((moves_of f.laws act).move (act.group.inverse a) v) ↔ IsFixed f.laws act q v =
      λ v. subst (λ (z : ℕ). IsFixed f.laws act b.0 ((moves_of f.laws act).move (act.group.inverse a) v) ↔ IsFixed f.laws act z v) (sym b.2) (fixed-moved a b.0 al bl v) in (
        d.0,
        (
          d.1.0,
          λ v.
              let w : ℕ → Value f = (moves_of f.laws act).move (act.group.inverse a) v in (
                λ h. let both = (c.1.1 w).0 ((d.1.1 v).0 h) in ((conj v).0 both.0, (image v).1 both.1),
                λ h. (d.1.1 v).1 ((c.1.1 w).1 ((conj v).1 h.0, (image v).0 h.1)),
              ),
        ),
      )

  class-each : (forms : List (List (ℕ × (ℕ → Value f)))) → IsClassClosed f.laws act forms → AreDifferent forms → (h : List ℕ) → AllBelow act.group.order h →
      (i : ℕ) × ((i < length forms) × IsFixForm f.laws act h (form_at forms i))
  class-each forms t once [] b = t.start
  class-each forms t once (q ∷ h) b =
      let u = class-each forms t once h b.1 in
      let c = class-cut forms t once u.0 u.1.0 q b.0 in
      let o = t.only c.0 c.1.0 in (
        c.0,
        (
          c.1.0,
          fix-form f act (q ∷ h) (form_at forms c.0) o.1.1.form (λ v.
              let at_u = fix-vanishes f act h (form_at forms u.0) u.1.1 v in (
                λ k. let both = (c.1.1 v).0 k in (both.0, at_u.0 both.1),
                λ k. (c.1.1 v).1 (k.0, at_u.1 k.1),
              )),
        ),
      )

  -- a list closed by classes has the equations of each distinct Fix(H), once
  pub class-holds : (forms : List (List (ℕ × (ℕ → Value f)))) → IsClassClosed f.laws act forms →
      ((i j : ℕ) → i < j → j < length forms → form_at forms i ≡ form_at forms j → ⊥) → HoldsFixes f.laws act forms
  class-holds forms t once = record {
    only = λ i l. let o = t.only i l in (o.0, o.1.0, o.1.1);
    each = λ h b. let o = class-each forms t once h b in (o.0, o.1.0, o.1.1);
    once = once;
  }
