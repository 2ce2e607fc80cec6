-- What forms inside a space obey.
--
-- inside-whole: a form inside another, with no fewer rows, has its span
-- image-in-range: P's range has the images of P's columns
-- first-trace: the trace of P is as many times that of its first block as there are atoms
-- inside-range: a form inside the range of P that has as many rows as the rank is that of the range
use Rattle.std.proofs.Common.{◌≡◌, ℕ, suc, ◌+◌, ◌*◌, ◌<◌, ◌≤◌, inl, inr, refl, sym, ◌∙◌, ap, subst, arith, List, [], ◌∷◌, length, nat_eq, if◌then◌else◌, ◌*ℤ◌}
use Rattle.cyclo24.specs.FieldOn.{FieldOn}
use Rattle.cyclo24.specs.FieldLaws.{unit-times, nought-times}
use Rattle.cyclo24.specs.Numerals.{of_whole}
use Rattle.cyclo24.specs.NumeralLaws.{of-times}
use Rattle.cyclo24.specs.Sums.{total}
use Rattle.cyclo24.specs.SumLaws.{one-term, total-rows}
use Rattle.cyclo24.specs.TotalLaws.{total-same, total-swap}
use Rattle.lin_alg.specs.Echelon.{EchelonView}
use Rattle.lin_alg.specs.EquationLaws.{dec, dot-unit, eq-self, eq-other}
use Rattle.lin_alg.specs.Equations.{unit_vector}
use Rattle.lin_alg.specs.InsertLaws.{span-subspace, span-rows, rows-mono, reduce-has, reduce-clear, member-reduce}
use Rattle.lin_alg.specs.LengthLaws.{span-form}
use Rattle.lin_alg.specs.Matrices.{mul, apply, trace, unit_entry, IsClassFunction}
use Rattle.lin_alg.specs.Reduced.{IsReduced, IsPivot, IsClear, IsWithin, PivotsBelow, IsForm, reduce}
use Rattle.lin_alg.specs.Rows.{exact_rows}
use Rattle.lin_alg.specs.Solving.{plain_rows}
use Rattle.lin_alg.specs.SpanLaws.{unit-not-nought, clear-nought, last-pivot, pivot-past}
use Rattle.lin_alg.specs.Spans.{row_vectors, IsInSpan, HasRows, AreSame}
use Rattle.mode_project.specs.AtomSpace.{AtomSpace, size_of, matrix_of, IsAtomSpace}
use Rattle.mode_project.specs.AtomSpaceLaws.{column-below, of-total, unit-number}
use Rattle.mode_project.specs.ListLaws.{plain-each}
use Rattle.mode_project.specs.Parts.{image_row}
use Rattle.mode_project.specs.Projection.{projection, IsInRange, column_of, IsReducedFormOf}
use Rattle.mode_project.specs.ProjectionLaws.{apply-product, projection-commutes, other-column, cut-inside, cut-past, column-inside, column-past, range-columns}
use Rattle.mode_project.specs.Scaled.{IsRank, IsInside}
use Rattle.mode_project.proofs.ImageLemmas.{apply-block}

module _ {K : Type 0} (f : FieldOn K) where
  -- rows whose pivots are among those of others are no more than these
  fewer : (rs ss : List (ℕ × (ℕ → K))) → IsReduced f rs → IsReduced f ss → ((p : ℕ) → IsPivot p rs → IsPivot p ss) → length rs ≤ length ss
  fewer [] ss r s t = omega arith
  fewer (a ∷ rs) [] r s t = absurd (t a.0 (inl refl))
  fewer (a ∷ rs) (b ∷ ss) r s t =
      elim (t a.0 (inl refl)) [
        | inl e ↦
            let m : length rs ≤ length ss =
            fewer rs ss r.2 s.2 (λ p h. let past : a.0 < p = pivot-past f a.0 p rs r.1 h in elim (t p (inr h)) [ inl q ↦ absurd (omega (arith, past, e, q)) | inr k ↦ k ]) in
            omega (arith, m)
        | inr k ↦
            let above : b.0 < a.0 = pivot-past f b.0 a.0 ss s.1 k in
            let m : suc (length rs) ≤ length ss =
            fewer (a ∷ rs) ss r s.2 (λ p h. elim h [
              | inl e ↦ subst (λ (z : ℕ). IsPivot z ss) (sym e) k
              | inr i ↦ let past : a.0 < p = pivot-past f a.0 p rs r.1 i in elim (t p (inr i)) [ inl q ↦ absurd (omega (arith, past, above, q)) | inr j ↦ j ]
            ]) in
            omega (arith, m)
      ]

  -- where the others are no more, they have the same pivots
  same-pivots : (rs ss : List (ℕ × (ℕ → K))) → IsReduced f rs → IsReduced f ss → ((p : ℕ) → IsPivot p rs → IsPivot p ss) → length ss ≤ length rs → (p : ℕ) → IsPivot p ss → IsPivot p rs
  same-pivots rs [] r s t l p h = absurd h
  same-pivots [] (b ∷ ss) r s t l p h = absurd (omega (arith, l))
  same-pivots (a ∷ rs) (b ∷ ss) r s t l p h =
      elim (t a.0 (inl refl)) [
        | inl e ↦
            elim h [
              | inl q ↦ inl (q ∙ sym e)
              | inr k ↦
                  inr (same-pivots rs ss r.2 s.2
                  (λ q i. let past : a.0 < q = pivot-past f a.0 q rs r.1 i in elim (t q (inr i)) [ inl z ↦ absurd (omega (arith, past, e, z)) | inr j ↦ j ])
                  (omega (arith, l)) p k)
            ]
        | inr k ↦
            let above : b.0 < a.0 = pivot-past f b.0 a.0 ss s.1 k in
            let m : suc (length rs) ≤ length ss =
            fewer (a ∷ rs) ss r s.2 (λ q i. elim i [
              | inl e ↦ subst (λ (z : ℕ). IsPivot z ss) (sym e) k
              | inr j ↦ let past : a.0 < q = pivot-past f a.0 q rs r.1 j in elim (t q (inr j)) [ inl z ↦ absurd (omega (arith, past, above, z)) | inr y ↦ y ]
            ]) in
            absurd (omega (arith, l, m))
      ]

  clear-at : (rs : List (ℕ × (ℕ → K))) (v : ℕ → K) → IsClear f rs v → (p : ℕ) → IsPivot p rs → v p ≡ f.nought
  clear-at [] v c p h = absurd h
  clear-at (r ∷ rs) v c p h = elim h [ inl e ↦ ap v e ∙ c.0 | inr k ↦ clear-at rs v c.1 p k ]

  at-clear : (rs : List (ℕ × (ℕ → K))) (v : ℕ → K) → ((p : ℕ) → IsPivot p rs → v p ≡ f.nought) → IsClear f rs v
  at-clear [] v h = tt
  at-clear (r ∷ rs) v h = (h r.0 (inl refl), at-clear rs v (λ p k. h p (inr k)))

  pivots-inside : (rs ss : List (ℕ × (ℕ → K))) → IsReduced f rs → IsReduced f ss → HasRows (IsInSpan f (row_vectors ss)) (row_vectors rs) → (p : ℕ) → IsPivot p rs → IsPivot p ss
  pivots-inside [] ss r s a p h = absurd h
  pivots-inside (b ∷ rs) ss r s a p h =
      elim h [
        | inl e ↦ subst (λ (z : ℕ). IsPivot z ss) (sym e) (last-pivot f ss b.1 b.0 s a.0 (λ z. unit-not-nought f (sym r.0.0 ∙ z)) r.0.1)
        | inr k ↦ pivots-inside rs ss r.2 s a.1 p k
      ]

  pub inside-whole : (rs ss : List (ℕ × (ℕ → K))) → IsReduced f rs → IsReduced f ss → ((v : ℕ → K) → IsInSpan f (row_vectors rs) v → IsInSpan f (row_vectors ss) v)
      → length ss ≤ length rs → (v : ℕ → K) → IsInSpan f (row_vectors ss) v → IsInSpan f (row_vectors rs) v
  inside-whole rs ss r s t l v h =
      let rows = rows-mono f (IsInSpan f (row_vectors rs)) (IsInSpan f (row_vectors ss)) t (row_vectors rs) (span-rows f (row_vectors rs)) in
      let left = reduce f rs v in
      let own : IsInSpan f (row_vectors ss) left = reduce-has f (IsInSpan f (row_vectors ss)) (span-subspace f (row_vectors ss)) rs rows v h in
      let clear = reduce-clear f rs v r in
      let all = at-clear ss left (λ p k. clear-at rs left clear p (same-pivots rs ss r s (pivots-inside rs ss r s rows) l p k)) in
      member-reduce f rs v (clear-nought f ss left s own all)

  pivots-below : (d : ℕ) (rs : List (ℕ × (ℕ → K))) → IsReduced f rs → HasRows (IsWithin f d) (row_vectors rs) → PivotsBelow d rs
  pivots-below d [] r a = tt
  pivots-below d (x ∷ rs) r a =
      (elim (dec x.0 d) as (λ _. x.0 < d) [ inl l ↦ l | inr l ↦ absurd (unit-not-nought f (sym r.0.0 ∙ a.0 x.0 l)) ], pivots-below d rs r.2 a.1)

  -- a range has a reduced form
  pub range-form : (d : ℕ) (P : ℕ → ℕ → K) → (rs : List (ℕ × (ℕ → K))) × IsReducedFormOf f d (IsInRange f d P) rs
  range-form d P =
      let columns = plain_rows (column_of f d P) d in
      let t = span-form f d columns (plain-each (column_of f d P) (IsWithin f d) d (λ k l. column-past f d P k)) in
      let spans : AreSame (IsInSpan f (row_vectors t.0)) (IsInRange f d P) = λ v. (λ h. (range-columns f d P v).1 ((t.2 v).0 h), λ h. (t.2 v).1 ((range-columns f d P v).0 h)) in
      let within = rows-mono f (IsInSpan f (row_vectors t.0)) (IsWithin f d) (λ v h. ((spans v).0 h).0) (row_vectors t.0) (span-rows f (row_vectors t.0)) in
      (t.0, record { form = record { reduced = t.1; pivots = pivots-below d t.0 t.1 within; within = within }; spans = spans })

  exact-length : {A : Type 0} (value : A → K) (rs : List (ℕ × List A)) → length (exact_rows f value rs) ≡ length rs
  exact-length value [] = refl
  exact-length value (r ∷ rs) = ap suc (exact-length value rs)

  pub inside-range : {A : Type 0} (value : A → K) (d : ℕ) (P : ℕ → ℕ → K) (r : ℕ) (form : EchelonView A) → IsRank f d P r → IsInside f value d (IsInRange f d P) form → length form.rows ≡ r
      → IsReducedFormOf f d (IsInRange f d P) (exact_rows f value form.rows)
  inside-range value d P r form rank inside e =
      let rs = exact_rows f value form.rows in
      let own : IsForm f d rs = subst (λ (n : ℕ). IsForm f n rs) inside.width (inside.shape.form inside.whole) in
      let t = range-form d P in
      let ss = t.0 in
      let enough : length ss ≡ length rs = rank ss t.1 ∙ sym e ∙ sym (exact-length value form.rows) in
      let up : (v : ℕ → K) → IsInSpan f (row_vectors rs) v → IsInSpan f (row_vectors ss) v = λ v h. (t.1.spans v).1 (inside.inside v h) in
      record { form = own; spans = λ v. (inside.inside v, λ h. inside-whole rs ss own.reduced t.1.form.reduced up (omega (arith, enough)) v ((t.1.spans v).1 h)) }

  module _ (s : AtomSpace) (law : IsAtomSpace s) (w : ℕ → K) (class : IsClassFunction s.group w) where
    abbrev d : ℕ
    d = size_of s

    abbrev P : ℕ → ℕ → K
    P = projection f s w

    -- the range of P has the images of the columns of P
    pub image-in-range : (q b : ℕ) → q < s.group.order → b < d → IsInRange f d P (image_row f s q (column_of f d P b))
    image-in-range q b lq lb = (
      cut-past f d (apply f d (matrix_of f s q) (column_of f d P b)),
      (
        apply f d (matrix_of f s q) (unit_vector f b),
        λ i l.
            cut-inside f d (apply f d (matrix_of f s q) (column_of f d P b)) i l
            ∙ total-same f d _ _ (λ k m. ap (f.times (matrix_of f s q i k)) (column-inside f d P b k m ∙ sym (dot-unit f d (P k) b lb)))
            ∙ sym (projection-commutes f s law w class q lq (unit_vector f b) i l),
      ),
    )

    -- the matrix of q^-1 times that of q is the unit matrix
    turn-back : (q b e : ℕ) → q < s.group.order → b < s.each → e < s.each
        → mul f s.each (λ x y. of_whole f (s.turn (s.group.inverse q) x y)) (λ x y. of_whole f (s.turn q x y)) b e ≡ unit_entry f b e
    turn-back q b e lq lb le =
        let p = s.group.inverse q in
        let lp = law.group.inverse_below q lq in
        total-same f s.each _ _ (λ z l. sym (of-times f (s.turn p b z) (s.turn q z e)))
        ∙ sym (of-total f s.each (λ z. s.turn p b z *ℤ s.turn q z e))
        ∙ ap (of_whole f) (sym (law.product p q b e lp lq lb le) ∙ ap (λ z. s.turn z b e) (law.group.inverse-product q lq) ∙ law.unit b e lb le)
        ∙ unit-number f s law (nat_eq b e)

    -- each block on the diagonal of P has the same trace
    block-trace : (i : ℕ) → i < s.atoms → total f s.each (λ a. P (i * s.each + a) (i * s.each + a)) ≡ total f s.each (λ b. column_of f d P b b)
    block-trace i li =
        let c = s.each in
        let own = law.reached i li in
        let q = own.0 in
        let lq = own.1 in
        let p = s.group.inverse q in
        let T = (λ (x y : ℕ). of_whole f (s.turn q x y)) in
        let S = (λ (x y : ℕ). of_whole f (s.turn p x y)) in
        let C = (λ (b : ℕ). column_of f d P b) in
        let at : (b a : ℕ) → a < c → apply f d (matrix_of f s q) (C b) (i * c + a) ≡ apply f c T (C b) a =
        λ b a la. ap (λ z. apply f d (matrix_of f s q) (C b) (z * c + a)) (sym own.2) ∙ apply-block f s law q 0 a (C b) lq law.some la
        ∙ total-same f c _ _ (λ e le. let z : 0 * c + e ≡ e = omega arith in ap (λ y. f.times (T a e) (C b y)) z) in
        total-same f c _ _ (λ a la.
        other-column f s law w class q i a (i * c + a) lq li la (column-below s.atoms c i a li la) own.2
        ∙ total-same f c _ _ (λ b lb. ap (f.times (S b a)) (at b a la)))
        ∙ total-swap f c c (λ a b. f.times (S b a) (apply f c T (C b) a))
        ∙ total-same f c _ _ (λ b lb.
        sym (apply-product f c S T (C b) b)
        ∙ total-same f c _ _ (λ e le. ap (λ z. f.times z (C b e)) (turn-back q b e lq lb le))
        ∙ one-term f c b (λ e. f.times (unit_entry f b e) (C b e)) lb
        (λ e le n. ap (λ t. f.times (if t then f.unit else f.nought) (C b e)) (eq-other b e (λ k. n (sym k))) ∙ nought-times f (C b e))
        ∙ ap (λ t. f.times (if t then f.unit else f.nought) (C b b)) (eq-self b) ∙ unit-times f (C b b))

    pub first-trace : trace f d P ≡ total f s.atoms (λ _. total f s.each (λ b. column_of f d P b b))
    first-trace = total-rows f s.atoms s.each (λ k. P k k) ∙ total-same f s.atoms _ _ (λ i l. block-trace i l)
