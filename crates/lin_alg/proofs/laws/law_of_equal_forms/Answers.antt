use Rattle.std.proofs.Common.{◌≡◌, ℕ, List, sym, subst}
use Rattle.lin_alg.specs.Spans.{row_vectors, IsInSpan}
use Rattle.lin_alg.specs.SpanLaws.{reduced-unique}
use Rattle.lin_alg.specs.Rows.{exact_rows, HaveWidth}
use Rattle.lin_alg.specs.RowLaws.{equality-told}
use Rattle.lin_alg.specs.CompareLaws.{lines-equal, equal-lines}
use Rattle.lin_alg.proofs.laws.law_of_equal_forms.Goals as goal

pub returns-clause-rows : goal.returns-clause-rows
returns-clause-rows g c a b ea eb wa wb w =
    let f = g.F.Field.field in
    let v = g.F.Field.value in
    let tells = equality-told f v g.F.PartialEq.eq g.F.Ord.cmp g.met.F.Ord.matches_eq g.met.F.Field.value_cmp in (
      equal-lines f v g.F.PartialEq.eq tells a.rows b.rows (ea.form wa).reduced (eb.form wb).reduced,
      lines-equal f v g.F.PartialEq.eq tells a.width a.rows b.rows ea.shape (subst (λ (n : ℕ). HaveWidth n b.rows) (sym w) eb.shape),
    )

pub returns-clause-spans : goal.returns-clause-spans
returns-clause-spans g c a b ea eb wa wb w =
    let f = g.F.Field.field in
    let v = g.F.Field.value in
    let tells = equality-told f v g.F.PartialEq.eq g.F.Ord.cmp g.met.F.Ord.matches_eq g.met.F.Field.value_cmp in
    let ra = (ea.form wa).reduced in
    let rb = (eb.form wb).reduced in (
      λ h.
          let e : exact_rows f.laws v a.rows ≡ exact_rows f.laws v b.rows = equal-lines f v g.F.PartialEq.eq tells a.rows b.rows ra rb h in
          λ u. (λ m. subst (λ (z : List (ℕ × (ℕ → _))). IsInSpan f.laws (row_vectors z) u) e m, λ m. subst (λ (z : List (ℕ × (ℕ → _))). IsInSpan f.laws (row_vectors z) u) (sym e) m),
      λ s. lines-equal f v g.F.PartialEq.eq tells a.width a.rows b.rows ea.shape (subst (λ (n : ℕ). HaveWidth n b.rows) (sym w) eb.shape)
          (reduced-unique f.laws (exact_rows f.laws v a.rows) (exact_rows f.laws v b.rows) ra rb (λ u. (s u).0) (λ u. (s u).1)),
    )
