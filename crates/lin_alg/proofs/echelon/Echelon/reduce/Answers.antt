use Rattle.std.proofs.Common.{◌≡◌, ℕ, List, map, ap, ◌∙◌, subst, true}
use Rattle.lin_alg.specs.Spans.{row_vectors, less, IsInSpan}
use Rattle.lin_alg.specs.Reduced.{reduce, IsClear}
use Rattle.lin_alg.specs.Rows.{vector, exact_rows}
use Rattle.lin_alg.proofs.HeldLemmas.{left_differs, left_clear}
use Rattle.lin_alg.proofs.RowLemmas.{reduced-ended}
use Rattle.lin_alg.proofs.echelon.Echelon.reduce.Goals as goal

pub reduce_row-requires-clause-ended : goal.reduce_row-requires-clause-ended
reduce_row-requires-clause-ended g c =
    let f = g.F.Field.field in
    let v = g.F.Field.value in
    let old : List (ℕ × List _) = map (λ r. (r.0, r.1.items)) c.self.inside.lines.items in
    let whole : c.self.inside.whole ≡ true = ap (λ z. z.whole) c.self.view_is ∙ c.requires.whole in
    rw c.deref.ensures.value (reduced-ended f v old (c.self.invariant.2.form whole).reduced)

pub returns-clause-differs : goal.returns-clause-differs
returns-clause-differs g c =
    let f = g.F.Field.field in
    let v = g.F.Field.value in
    let old : List (ℕ × List _) = map (λ r. (r.0, r.1.items)) c.self.inside.lines.items in
    let e : vector f.laws v c.reduce_row.new.row ≡ reduce f.laws (exact_rows f.laws v old) (vector f.laws v c.args.row.now) = rw (c.deref.ensures.value) at c.in_ok-reduce_row.ensures.exact in
    subst (λ (z : List (ℕ × List _)). IsInSpan f.laws (row_vectors (exact_rows f.laws v z)) (less f.laws (vector f.laws v c.args.row.now) f.laws.unit (vector f.laws v c.reduce_row.new.row))) (ap (λ z. z.rows) c.self.view_is)
    (left_differs f (exact_rows f.laws v old) (vector f.laws v c.args.row.now) (vector f.laws v c.reduce_row.new.row) e)

pub returns-clause-clear : goal.returns-clause-clear
returns-clause-clear g c =
    let f = g.F.Field.field in
    let v = g.F.Field.value in
    let old : List (ℕ × List _) = map (λ r. (r.0, r.1.items)) c.self.inside.lines.items in
    let whole : c.self.inside.whole ≡ true = ap (λ z. z.whole) c.self.view_is ∙ c.requires.whole in
    let e : vector f.laws v c.reduce_row.new.row ≡ reduce f.laws (exact_rows f.laws v old) (vector f.laws v c.args.row.now) = rw (c.deref.ensures.value) at c.in_ok-reduce_row.ensures.exact in
    subst (λ (z : List (ℕ × List _)). IsClear f.laws (exact_rows f.laws v z) (vector f.laws v c.reduce_row.new.row)) (ap (λ z. z.rows) c.self.view_is)
    (left_clear f (exact_rows f.laws v old) (vector f.laws v c.args.row.now) (vector f.laws v c.reduce_row.new.row) (c.self.invariant.2.form whole).reduced e)
