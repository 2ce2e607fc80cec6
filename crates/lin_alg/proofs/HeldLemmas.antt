use Rattle.std.proofs.Common.{◌≡◌, inr, ℕ, Bool, true, false, refl, sym, ◌∙◌, ap, subst, List, ◌∷◌, ◌↔◌}
use Rattle.cyclo24.specs.ExactField.{ExactField, Value}
use Rattle.lin_alg.specs.declared.echelon.Grew.{Grew}
use Rattle.lin_alg.specs.declared.echelon.Grew.TheVariants.{Yes, No}
use Rattle.lin_alg.specs.Spans.{row_vectors, less, IsInSpan, AreSame}
use Rattle.lin_alg.specs.Reduced.{reduce, scaled, IsReduced, IsClear}
use Rattle.lin_alg.specs.Rows.{exact_rows, HaveWidth}
use Rattle.lin_alg.specs.Equations.{dot, Vanishes}
use Rattle.lin_alg.specs.SpanLaws.{in_span-past}
use Rattle.lin_alg.specs.InsertLaws.{span-subspace, has_back, reduce-member, member-reduce, inserted-reduced, inserted-within, inserted-has, reduce-clear, reduce-differs}
use Rattle.lin_alg.specs.FormLaws.{cut-vanishes}
use Rattle.lin_alg.specs.RowLaws.{width-form}
use Rattle.lin_alg.specs.Insertion.{IsInserted, IsLastColumn, IsWideClear, IsWideInsert}
use Rattle.lin_alg.specs.Echelon.{IsEchelon}

module _ {A : Type 0} (f : ExactField) (value : A → Value f) (old new : List (ℕ × List A)) (v : ℕ → Value f) where
  inserted_form : (b : Grew) → IsReduced f.laws (exact_rows f.laws value old) → IsInserted f.laws value old v b new → IsReduced f.laws (exact_rows f.laws value new)
  inserted_form Yes r i =
      subst (IsReduced f.laws) (sym i.2) (inserted-reduced f.laws (exact_rows f.laws value old) v i.0 r i.1.0 i.1.1)
  inserted_form No r i = subst (λ (z : List (ℕ × List A)). IsReduced f.laws (exact_rows f.laws value z)) (sym i.1) r

  pub inserted_span : (b : Grew) → IsInserted f.laws value old v b new → AreSame (IsInSpan f.laws (row_vectors (exact_rows f.laws value new))) (IsInSpan f.laws (v ∷ row_vectors (exact_rows f.laws value old)))
  inserted_span Yes i w = (
    λ h. inserted-within f.laws (exact_rows f.laws value old) v i.0 w (subst (λ (z : List (ℕ × (ℕ → Value f))). IsInSpan f.laws (row_vectors z) w) i.2 h),
    λ h. subst (λ (z : List (ℕ × (ℕ → Value f))). IsInSpan f.laws (row_vectors z) w) (sym i.2) (inserted-has f.laws (exact_rows f.laws value old) v i.0 i.1.0 w h),
  )
  inserted_span No i w =
      let rs = exact_rows f.laws value old in
      let own : IsInSpan f.laws (row_vectors rs) v = member-reduce f.laws rs v i.0 in (
        λ h. in_span-past f.laws v (row_vectors rs) w (subst (λ (z : List (ℕ × List A)). IsInSpan f.laws (row_vectors (exact_rows f.laws value z)) w) i.1 h),
        λ h. subst (λ (z : List (ℕ × List A)). IsInSpan f.laws (row_vectors (exact_rows f.laws value z)) w) (sym i.1)
            (has_back f.laws (IsInSpan f.laws (row_vectors rs)) (span-subspace f.laws (row_vectors rs)) w h.0 v h.1 own),
      )

  pub inserted_grew : (b : Grew) → IsReduced f.laws (exact_rows f.laws value old) → IsInserted f.laws value old v b new → (b ≡ Yes) ↔ (IsInSpan f.laws (row_vectors (exact_rows f.laws value old)) v → ⊥)
  inserted_grew Yes r i = (
    λ _ h.
        let z = reduce-member f.laws (exact_rows f.laws value old) v r h i.0 in
        let e : true ≡ false = sym f.laws.is_nought-nought ∙ ap f.laws.is_nought (sym z) ∙ i.1.0 in cc,
    λ _. refl,
  )
  inserted_grew No r i = (λ e. let e' : No ≡ Yes = e in cc, λ h. absurd (h (member-reduce f.laws (exact_rows f.laws value old) v i.0)))

  pub inserted_stays : (b : Grew) → IsInserted f.laws value old v b new → (b ≡ No) → new ≡ old
  inserted_stays Yes i e = let e' : Yes ≡ No = e in absurd cc
  inserted_stays No i e = i.1

  pub inserted_cut : (w : ℕ) (b : Grew) → IsInserted f.laws value old v b new → (u : ℕ → Value f) →
      Vanishes f.laws w (row_vectors (exact_rows f.laws value new)) u ↔ ((dot f.laws w v u ≡ f.laws.nought) × Vanishes f.laws w (row_vectors (exact_rows f.laws value old)) u)
  inserted_cut w b i u = cut-vanishes f.laws w (row_vectors (exact_rows f.laws value old)) (row_vectors (exact_rows f.laws value new)) v (inserted_span b i) u

  pub inserted_echelon : (w s t : ℕ) (whole : Bool) (b : Grew) → IsEchelon f.laws value (record { width = w; whole = whole; rows = old; spare = s }) → HaveWidth w new →
      IsInserted f.laws value old v b new → IsEchelon f.laws value (record { width = w; whole = whole; rows = new; spare = t })
  inserted_echelon w s t whole b e a i = record {
    shape = a;
    form = λ h. width-form f value w new a (inserted_form b (e.form h).reduced i);
  }

pub wide_echelon : {A : Type 0} (f : ExactField) (value : A → Value f) (rows : List (ℕ × List A)) (w t : ℕ) → HaveWidth w rows →
    IsEchelon f.laws value (record { width = w; whole = false; rows = rows; spare = t })
wide_echelon f value rows w t a = record { shape = a; form = λ h. let e : false ≡ true = h in absurd cc }

-- an insertion is wide where its fourth step is
pub wide_insert : (f : ExactField) (rs : List (ℕ × (ℕ → Value f))) (v r u : ℕ → Value f) (p : ℕ) → r ≡ reduce f.laws rs v → u ≡ scaled f.laws p r → IsLastColumn f.laws r p → IsWideClear f p u rs → IsWideInsert f rs v
wide_insert f rs v r u p e s l h =
    inr (p, subst (λ (z : ℕ → Value f). IsLastColumn f.laws z p) e l, inr (subst (λ (z : ℕ → Value f). IsWideClear f p z rs) (s ∙ ap (scaled f.laws p) e) h))

-- what is left of a row where a form takes it to 0 in its pivot columns
pub left_differs : (f : ExactField) (rs : List (ℕ × (ℕ → Value f))) (v r : ℕ → Value f) → r ≡ reduce f.laws rs v → IsInSpan f.laws (row_vectors rs) (less f.laws v f.laws.unit r)
left_differs f rs v r e = subst (λ (z : ℕ → Value f). IsInSpan f.laws (row_vectors rs) (less f.laws v f.laws.unit z)) (sym e) (reduce-differs f.laws rs v)

pub left_clear : (f : ExactField) (rs : List (ℕ × (ℕ → Value f))) (v r : ℕ → Value f) → IsReduced f.laws rs → r ≡ reduce f.laws rs v → IsClear f.laws rs r
left_clear f rs v r a e = subst (IsClear f.laws rs) (sym e) (reduce-clear f.laws rs v a)

pub left_member : (f : ExactField) (rs : List (ℕ × (ℕ → Value f))) (v r : ℕ → Value f) → r ≡ reduce f.laws rs v → ((j : ℕ) → r j ≡ f.laws.nought) → IsInSpan f.laws (row_vectors rs) v
left_member f rs v r e z = member-reduce f.laws rs v (λ j. sym (ap (λ (x : ℕ → Value f). x j) e) ∙ z j)

pub left_other : (f : ExactField) (rs : List (ℕ × (ℕ → Value f))) (v r : ℕ → Value f) (p : ℕ) → IsReduced f.laws rs → r ≡ reduce f.laws rs v → f.laws.is_nought (r p) ≡ false → IsInSpan f.laws (row_vectors rs) v → ⊥
left_other f rs v r p a e n h =
    let z : r p ≡ f.laws.nought = ap (λ (x : ℕ → Value f). x p) e ∙ reduce-member f.laws rs v a h p in
    let t : true ≡ false = sym f.laws.is_nought-nought ∙ ap f.laws.is_nought (sym z) ∙ n in absurd cc
