use Rattle.std.proofs.Common.{ℕ, ◌<◌}
use Rattle.lin_alg.specs.Fixed.{mover}
use Rattle.lin_alg.specs.Rows.{exact_rows}
use Rattle.lin_alg.specs.Spans.{row_vectors, IsInSpan}
use Rattle.class_list.proofs.fixing.fixes_all.Given as goal

abbrev pub invariant-loop-i : goal.invariant-loop-i
invariant-loop-i g l = (k : ℕ) → k < l.i → IsInSpan g.F.Field.field.laws (row_vectors (exact_rows g.F.Field.field.laws g.F.Field.value l.equations.rows)) (mover g.F.Field.field.laws (g.G.Acts.action l.acts) l.q k)
