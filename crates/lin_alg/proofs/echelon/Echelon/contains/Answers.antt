use Rattle.std.proofs.Common.{◌≡◌, ℕ, List, map, ap, sym, ◌∙◌, subst, true, false, refl}
use Rattle.lin_alg.specs.Spans.{row_vectors, IsInSpan}
use Rattle.lin_alg.specs.Reduced.{reduce}
use Rattle.lin_alg.specs.Rows.{vector, exact_rows}
use Rattle.lin_alg.proofs.HeldLemmas.{left_member, left_other}
use Rattle.lin_alg.proofs.RowLemmas.{reduced-ended}
use Rattle.lin_alg.proofs.echelon.Echelon.contains.Goals as goal

pub reduce_row-requires-clause-ended : goal.reduce_row-requires-clause-ended
reduce_row-requires-clause-ended g c =
    let f = g.F.Field.field in
    let v = g.F.Field.value in
    let old : List (ℕ × List _) = map (λ r. (r.0, r.1.items)) c.self.inside.lines.items in
    let whole : c.self.inside.whole ≡ true = ap (λ z. z.whole) c.self.view_is ∙ c.requires.whole in
    rw c.deref.ensures.value (reduced-ended f v old (c.self.invariant.2.form whole).reduced)

pub returns-in-None-clause-member : goal.returns-in-None-clause-member
returns-in-None-clause-member g c =
    let f = g.F.Field.field in
    let v = g.F.Field.value in
    let old : List (ℕ × List _) = map (λ r. (r.0, r.1.items)) c.self.inside.lines.items in
    let e : vector f.laws v c.reduce_row.new.row ≡ reduce f.laws (exact_rows f.laws v old) (vector f.laws v c.args.row.now) = rw (c.deref.ensures.value) at c.in_ok-reduce_row.ensures.exact in
    let h : IsInSpan f.laws (row_vectors (exact_rows f.laws v old)) (vector f.laws v c.args.row.now) = left_member f (exact_rows f.laws v old) (vector f.laws v c.args.row.now) (vector f.laws v c.reduce_row.new.row) e c.in-None.ensures in
    (λ _. subst (λ (z : List (ℕ × List _)). IsInSpan f.laws (row_vectors (exact_rows f.laws v z)) (vector f.laws v c.args.row.now)) (ap (λ z. z.rows) c.self.view_is) h, λ _. refl)

pub returns-in-Some-clause-member : goal.returns-in-Some-clause-member
returns-in-Some-clause-member g c =
    let f = g.F.Field.field in
    let v = g.F.Field.value in
    let old : List (ℕ × List _) = map (λ r. (r.0, r.1.items)) c.self.inside.lines.items in
    let whole : c.self.inside.whole ≡ true = ap (λ z. z.whole) c.self.view_is ∙ c.requires.whole in
    let e : vector f.laws v c.reduce_row.new.row ≡ reduce f.laws (exact_rows f.laws v old) (vector f.laws v c.args.row.now) = rw (c.deref.ensures.value) at c.in_ok-reduce_row.ensures.exact in (
      λ t. let t' : false ≡ true = t in absurd cc,
      λ h. absurd (left_other f (exact_rows f.laws v old) (vector f.laws v c.args.row.now) (vector f.laws v c.reduce_row.new.row) c.in-Some.field-0 (c.self.invariant.2.form whole).reduced e c.in-Some.ensures.1.0
          (subst (λ (z : List (ℕ × List _)). IsInSpan f.laws (row_vectors (exact_rows f.laws v z)) (vector f.laws v c.args.row.now)) (sym (ap (λ z. z.rows) c.self.view_is)) h)),
    )
