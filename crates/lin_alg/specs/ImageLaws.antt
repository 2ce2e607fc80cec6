-- What images of vectors and of equations obey.
--
-- fixes-fixed: the two ways to say that q leaves v as it is
-- are-moves: an action moves the vectors as a group
-- span-vanishes: where rows vanish, each row of their span does
-- dot-row_image, images-vanish, image-form: the moved equations of U are equations of q U
use Rattle.std.proofs.Common.{◌≡◌, ◌↔◌, ◌<◌, ◌≤◌, ◌⊎◌, inl, inr, ℕ, List, [], ◌∷◌, if◌then◌else◌, sym, ◌∙◌, ap, arith, lt-ltb, le-ltb}
use Rattle.cyclo24.specs.ExactField.{ExactField, Value}
use Rattle.lin_alg.specs.Action.{Action, IsAction, IsFixed, entry_of, image, image_of}
use Rattle.lin_alg.specs.ActionLaws.{image-identity, image-product, image-same}
use Rattle.lin_alg.specs.EquationLaws.{vanish-subspace}
use Rattle.lin_alg.specs.Equations.{Vanishes, dot}
use Rattle.lin_alg.specs.Images.{moves_of, row_image, row_images}
use Rattle.lin_alg.specs.InsertLaws.{rows-mono, span-least, span-rows}
use Rattle.lin_alg.specs.Moves.{AreMoves, Fixes, moved}
use Rattle.lin_alg.specs.Reduced.{IsWithin}
use Rattle.lin_alg.specs.SpanLaws.{funext}
use Rattle.lin_alg.specs.Spans.{AreSame, HasRows, IsInSpan}
use Rattle.cyclo24.specs.Sums.{total}
use Rattle.cyclo24.specs.TotalLaws.{times-total, total-same, total-swap, total-times}

pub inside_or_past : (i n : ℕ) → (i < n) ⊎ (n ≤ i)
inside_or_past i n = grind arith

module _ (f : ExactField) (act : Action) where
  pub image_of-inside : (q : ℕ) (v : ℕ → Value f) (i : ℕ) → i < act.dim → image_of f.laws act q v i ≡ image f.laws act q v i
  image_of-inside q v i l = ap (λ b. if b then image f.laws act q v i else v i) (lt-ltb i act.dim l)

  pub image_of-past : (q : ℕ) (v : ℕ → Value f) (i : ℕ) → act.dim ≤ i → image_of f.laws act q v i ≡ v i
  image_of-past q v i l = ap (λ b. if b then image f.laws act q v i else v i) (le-ltb i act.dim l)

  -- the two ways to say that q leaves v as it is
  pub fixes-fixed : (q : ℕ) (v : ℕ → Value f) → Fixes (moves_of f.laws act) q v ↔ IsFixed f.laws act q v
  fixes-fixed q v = (
    λ h i l. sym (image_of-inside q v i l) ∙ ap (λ w. w i) h,
    λ h. funext (λ i. elim (inside_or_past i act.dim) [ inl l ↦ image_of-inside q v i l ∙ h i l | inr l ↦ image_of-past q v i l ]),
  )

  module _ (law : IsAction f.laws act) where
    pub are-moves : AreMoves (moves_of f.laws act)
    are-moves = record {
      group = law.group;
      move-identity = λ v. funext (λ i. elim (inside_or_past i act.dim) [ inl l ↦ image_of-inside 0 v i l ∙ image-identity f act law v i l | inr l ↦ image_of-past 0 v i l ]);
      move-product = λ a b la lb v. funext (λ i. elim (inside_or_past i act.dim) [
        | inl l ↦
            image_of-inside (act.group.product a b) v i l ∙ image-product f act law a b la lb v i l
            ∙ image-same f act a (image f.laws act b v) (image_of f.laws act b v) (λ j m. sym (image_of-inside b v j m)) i
            ∙ sym (image_of-inside a (image_of f.laws act b v) i l)
        | inr l ↦ image_of-past (act.group.product a b) v i l ∙ sym (image_of-past b v i l) ∙ sym (image_of-past a (image_of f.laws act b v) i l)
      ]);
    }

module _ (f : ExactField) where
  -- where the rows vanish, each row of their span does
  pub span-vanishes : (w : ℕ) (rs : List (ℕ → Value f)) (v : ℕ → Value f) → Vanishes f.laws w rs v →
      (x : ℕ → Value f) → IsInSpan f.laws rs x → dot f.laws w x v ≡ f.laws.nought
  span-vanishes w rs v h x s = span-least f.laws (λ e. dot f.laws w e v ≡ f.laws.nought) (vanish-subspace f.laws w v) rs h x s

  module _ (act : Action) where
    -- e A(q^-1) at v is e at q^-1 v
    pub dot-row_image : (q : ℕ) (e v : ℕ → Value f) → dot f.laws act.dim (row_image f.laws act q e) v ≡ dot f.laws act.dim e (image_of f.laws act (act.group.inverse q) v)
    dot-row_image q e v =
        let r : ℕ = act.group.inverse q in
        let x : ℕ → ℕ → Value f = λ j i. f.laws.times (f.laws.times (e i) (entry_of f.laws act r i j)) (v j) in
        total-same f.laws act.dim _ (λ j. total f.laws act.dim (λ i. x j i))
        (λ j l. ap (λ y. f.laws.times y (v j)) (ap (λ b. if b then total f.laws act.dim (λ i. f.laws.times (e i) (entry_of f.laws act r i j)) else f.laws.nought) (lt-ltb j act.dim l))
        ∙ sym (times-total f.laws act.dim (v j) (λ i. f.laws.times (e i) (entry_of f.laws act r i j))))
        ∙ total-swap f.laws act.dim act.dim (λ j i. x j i)
        ∙ total-same f.laws act.dim _ _ (λ i l.
        total-same f.laws act.dim _ _ (λ j m. f.laws.times_assoc (e i) (entry_of f.laws act r i j) (v j))
        ∙ total-times f.laws act.dim (e i) (λ j. f.laws.times (entry_of f.laws act r i j) (v j))
        ∙ ap (f.laws.times (e i)) (sym (image_of-inside f act r v i l)))

    -- the rows e A(q^-1) vanish on q U, where the rows e vanish on U
    pub images-vanish : (q : ℕ) (rs : List (ℕ → Value f)) → AreSame (Vanishes f.laws act.dim (row_images f.laws act q rs)) (moved (moves_of f.laws act) q (Vanishes f.laws act.dim rs))
    images-vanish q [] v = (λ h. tt, λ h. tt)
    images-vanish q (r ∷ rs) v =
        let e = dot-row_image q r v in
        let more = images-vanish q rs v in
        (λ h. (sym e ∙ h.0, more.0 h.1), λ h. (e ∙ h.0, more.1 h.1))

    pub images-within : (q : ℕ) (rs : List (ℕ → Value f)) → HasRows (IsWithin f.laws act.dim) (row_images f.laws act q rs)
    images-within q [] = tt
    images-within q (r ∷ rs) = (
      λ j l. ap (λ b. if b then total f.laws act.dim (λ i. f.laws.times (r i) (entry_of f.laws act (act.group.inverse q) i j)) else f.laws.nought) (le-ltb j act.dim l),
      images-within q rs,
    )

    -- a form with the span of the rows e A(q^-1) holds the equations of q U
    pub image-form : (q : ℕ) (rs ss : List (ℕ → Value f)) →
        ((x : ℕ → Value f) → IsInSpan f.laws ss x ↔ IsInSpan f.laws (row_images f.laws act q rs) x) →
        AreSame (Vanishes f.laws act.dim ss) (moved (moves_of f.laws act) q (Vanishes f.laws act.dim rs))
    image-form q rs ss e v =
        let both = images-vanish q rs v in
        let n : (ℕ → Value f) → Type 0 = λ x. dot f.laws act.dim x v ≡ f.laws.nought in (
          λ h. both.0 (rows-mono f.laws (IsInSpan f.laws (row_images f.laws act q rs)) n (λ x k. span-vanishes act.dim ss v h x ((e x).1 k)) (row_images f.laws act q rs) (span-rows f.laws (row_images f.laws act q rs))),
          λ h. rows-mono f.laws (IsInSpan f.laws ss) n (λ x k. span-vanishes act.dim (row_images f.laws act q rs) v (both.1 h) x ((e x).0 k)) ss (span-rows f.laws ss),
        )
