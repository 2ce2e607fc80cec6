-- How many rows a form has.
--
-- span-form: rows have a reduced form of their span, no longer than they are
-- image-length: the equations of q U are no more than those of U
-- conjugate-length: they are as many
use Rattle.std.proofs.Common.{◌≡◌, ◌↔◌, ℕ, suc, zero, ◌<◌, ◌≤◌, ◌⊎◌, inl, inr, true, false, List, [], ◌∷◌, length, refl, sym, ◌∙◌, ap, subst, arith, ltb, if◌then◌else◌}
use Rattle.cyclo24.specs.FieldOn.{FieldOn}
use Rattle.cyclo24.specs.ExactField.{ExactField, Value}
use Rattle.lin_alg.specs.Action.{Action, IsAction}
use Rattle.lin_alg.specs.EquationLaws.{within-subspace, dec}
use Rattle.lin_alg.specs.Equations.{Vanishes}
use Rattle.lin_alg.specs.FormLaws.{form-unique, vanishes-mono}
use Rattle.lin_alg.specs.Images.{moves_of, row_images}
use Rattle.lin_alg.specs.ImageLaws.{are-moves, images-vanish, images-within}
use Rattle.lin_alg.specs.InsertLaws.{span-subspace, span-least, span-rows, rows-mono, reduce-has, member-reduce, has_back, inserted-reduced, inserted-within, inserted-has}
use Rattle.lin_alg.specs.Moves.{moved}
use Rattle.lin_alg.specs.MoveLaws.{move-back}
use Rattle.lin_alg.specs.Reduced.{IsReduced, IsForm, IsWithin, PivotsBelow, reduce, cleared, placed, inserted, scaled}
use Rattle.lin_alg.specs.SpanLaws.{in_span-past, unit-not-nought}
use Rattle.lin_alg.specs.Spans.{row_vectors, less, IsInSpan, HasRows, AreSame}

module _ {K : Type 0} (f : FieldOn K) where
  at_or_past : (n j : ℕ) → n ≤ j → (j ≡ n) ⊎ (suc n ≤ j)
  at_or_past n j l = grind arith

  -- the last column that isn't 0, below which all are
  last-or : (n : ℕ) (v : ℕ → K) → ((j : ℕ) → n ≤ j → v j ≡ f.nought) → ((j : ℕ) → v j ≡ f.nought) ⊎ ((p : ℕ) × (f.is_nought (v p) ≡ false) × ((j : ℕ) → p < j → v j ≡ f.nought))
  last-or zero v h = inl (λ j. h j (omega arith))
  last-or (suc n) v h =
      (elim (f.is_nought (v n)) as (λ b. (f.is_nought (v n) ≡ b) → ((j : ℕ) → v j ≡ f.nought) ⊎ ((p : ℕ) × (f.is_nought (v p) ≡ false) × ((j : ℕ) → p < j → v j ≡ f.nought))) [
        | true ↦ λ e. last-or n v (λ j l. elim (at_or_past n j l) [ inl q ↦ ap v q ∙ f.is_nought-true (v n) e | inr m ↦ h j m ])
        | false ↦ λ e. inr (n, e, λ j l. h j (omega arith))
      ]) refl

  length-cleared : (p : ℕ) (u : ℕ → K) (rs : List (ℕ × (ℕ → K))) → length (cleared f p u rs) ≡ length rs
  length-cleared p u [] = refl
  length-cleared p u (r ∷ rs) = ap suc (length-cleared p u rs)

  length-placed : (p : ℕ) (u : ℕ → K) (rs : List (ℕ × (ℕ → K))) → length (placed p u rs) ≡ suc (length rs)
  length-placed p u [] = refl
  length-placed p u (r ∷ rs) =
      elim (ltb p r.0) as (λ b. length (if b then (p, u) ∷ r ∷ rs else r ∷ placed p u rs) ≡ suc (suc (length rs))) [
        | true ↦ refl
        | false ↦ ap suc (length-placed p u rs)
      ]

  module _ (w : ℕ) where
    -- rows have a reduced form of their span, no longer than they are
    pub span-form : (rows : List (ℕ → K)) → HasRows (IsWithin f w) rows →
        (ss : List (ℕ × (ℕ → K))) × IsReduced f ss × ((x : ℕ → K) → IsInSpan f (row_vectors ss) x ↔ IsInSpan f rows x) × (length ss ≤ length rows)
    span-form [] a = ([], tt, λ x. (λ h. h, λ h. h), omega arith)
    span-form (r ∷ rs) a =
        let old = span-form rs a.1 in
        let os : List (ℕ × (ℕ → K)) = old.0 in
        let v : ℕ → K = r in
        let few : length os ≤ length rs = old.3 in
        let inside : HasRows (IsWithin f w) (row_vectors os) =
        rows-mono f (IsInSpan f (row_vectors os)) (IsWithin f w) (λ x s. span-least f (IsWithin f w) (within-subspace f w) rs a.1 x ((old.2 x).0 s)) (row_vectors os) (span-rows f (row_vectors os)) in
        let left : IsWithin f w (reduce f os v) = reduce-has f (IsWithin f w) (within-subspace f w) os inside v a.0 in
        elim (last-or w (reduce f os v) left) [
          | inl z ↦
              let own : IsInSpan f (row_vectors os) v = member-reduce f os v z in
              let m : length os ≤ suc (length rs) = omega arith in (
                os,
                old.1,
                λ x. (
                  λ h. in_span-past f r rs x ((old.2 x).0 h),
                  λ h. has_back f (IsInSpan f (row_vectors os)) (span-subspace f (row_vectors os)) x h.0 v ((old.2 (less f x h.0 v)).1 h.1) own,
                ),
                m,
              )
          | inr p ↦
              let new : List (ℕ × (ℕ → K)) = inserted f os v p.0 in
              let n : length new ≡ suc (length os) = length-placed p.0 (scaled f p.0 (reduce f os v)) (cleared f p.0 (scaled f p.0 (reduce f os v)) os) ∙ ap suc (length-cleared p.0 (scaled f p.0 (reduce f os v)) os) in
              let m : length new ≤ suc (length rs) = omega arith in (
                new,
                inserted-reduced f os v p.0 old.1 p.1 p.2,
                λ x. (
                  λ h. let t = inserted-within f os v p.0 x h in (t.0, (old.2 (less f x t.0 v)).0 t.1),
                  λ h. inserted-has f os v p.0 p.1 x (h.0, (old.2 (less f x h.0 v)).1 h.1),
                ),
                m,
              )
        ]

    pivots-below : (rs : List (ℕ × (ℕ → K))) → IsReduced f rs → HasRows (IsWithin f w) (row_vectors rs) → PivotsBelow w rs
    pivots-below [] r a = tt
    pivots-below (x ∷ rs) r a =
        (elim (dec x.0 w) as (λ _. x.0 < w) [ inl l ↦ l | inr l ↦ absurd (unit-not-nought f (sym r.0.0 ∙ a.0 x.0 l)) ], pivots-below rs r.2 a.1)

module _ (f : ExactField) (act : Action) where
  row_images-length : (q : ℕ) (rs : List (ℕ → Value f)) → length (row_images f.laws act q rs) ≡ length rs
  row_images-length q [] = refl
  row_images-length q (r ∷ rs) = ap suc (row_images-length q rs)

  vectors-length : (rs : List (ℕ × (ℕ → Value f))) → length (row_vectors rs) ≡ length rs
  vectors-length [] = refl
  vectors-length (r ∷ rs) = ap suc (vectors-length rs)

  -- the equations of q U are no more than those of U
  pub image-length : (q : ℕ) (us xs : List (ℕ × (ℕ → Value f))) → IsForm f.laws act.dim xs →
      AreSame (Vanishes f.laws act.dim (row_vectors xs)) (moved (moves_of f.laws act) q (Vanishes f.laws act.dim (row_vectors us))) → length xs ≤ length us
  image-length q us xs r e =
      let rows : List (ℕ → Value f) = row_images f.laws act q (row_vectors us) in
      let inside : HasRows (IsWithin f.laws act.dim) rows = images-within f act q (row_vectors us) in
      let s = span-form f.laws act.dim rows inside in
      let ss : List (ℕ × (ℕ → Value f)) = s.0 in
      let within : HasRows (IsWithin f.laws act.dim) (row_vectors ss) =
      rows-mono f.laws (IsInSpan f.laws (row_vectors ss)) (IsWithin f.laws act.dim) (λ x k. span-least f.laws (IsWithin f.laws act.dim) (within-subspace f.laws act.dim) rows inside x ((s.2 x).0 k)) (row_vectors ss) (span-rows f.laws (row_vectors ss)) in
      let form : IsForm f.laws act.dim ss = record { reduced = s.1; pivots = pivots-below f.laws act.dim ss s.1 within; within = within } in
      let same : xs ≡ ss = form-unique f.laws act.dim xs ss r form (λ v. (
        λ h. vanishes-mono f.laws act.dim rows (row_vectors ss) (λ x k. (s.2 x).0 k) v ((images-vanish f act q (row_vectors us) v).1 ((e v).0 h)),
        λ h. (e v).1 ((images-vanish f act q (row_vectors us) v).0 (vanishes-mono f.laws act.dim (row_vectors ss) rows (λ x k. (s.2 x).1 k) v h)),
      )) in
      let n : length xs ≡ length ss = ap length same in
      let m : length ss ≤ length rows = s.3 in
      let k : length rows ≡ length us = row_images-length q (row_vectors us) ∙ vectors-length us in
      omega arith

  -- the equations of q U are as many as those of U
  pub conjugate-length : IsAction f.laws act → (q : ℕ) → q < act.group.order → (us xs : List (ℕ × (ℕ → Value f))) → IsForm f.laws act.dim us → IsForm f.laws act.dim xs →
      AreSame (Vanishes f.laws act.dim (row_vectors xs)) (moved (moves_of f.laws act) q (Vanishes f.laws act.dim (row_vectors us))) → length xs ≡ length us
  conjugate-length law q l us xs a b e =
      let g = moves_of f.laws act in
      let r : ℕ = act.group.inverse q in
      let U : (ℕ → Value f) → Type 0 = Vanishes f.laws act.dim (row_vectors us) in
      let undone : (v : ℕ → Value f) → g.move r (g.move (act.group.inverse r) v) ≡ v = move-back g (are-moves f act law) r (law.group.inverse_below q l) in
      let back : AreSame U (moved g r (Vanishes f.laws act.dim (row_vectors xs))) =
      λ v. (
        λ h. (e (g.move (act.group.inverse r) v)).1 (subst U (sym (undone v)) h),
        λ h. subst U (undone v) ((e (g.move (act.group.inverse r) v)).0 h),
      ) in
      let m : length xs ≤ length us = image-length q us xs b e in
      let n : length us ≤ length xs = image-length r xs us a back in
      omega arith
