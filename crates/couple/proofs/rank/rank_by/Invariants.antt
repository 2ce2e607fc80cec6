use Rattle.std.proofs.Common.{◌≡◌, true, vec_len}
use Rattle.lin_alg.specs.Spans.{IsInSpan, AreSame}
use Rattle.lin_alg.specs.Echelon.{IsEchelon, IsSpanned}
use Rattle.lin_alg.specs.Matrix.{entry}
use Rattle.lin_alg.specs.Solving.{plain_rows}
use Rattle.couple.proofs.rank.rank_by.Given as goal

abbrev pub invariant-loop-i : goal.invariant-loop-i
invariant-loop-i g l =
    let f = g.F.Field.field in
    let v = g.F.Field.value in
    (l.form.width ≡ l.rows.cols) × (l.form.whole ≡ true) × IsEchelon f.laws v l.form
    × AreSame (IsSpanned f.laws v l.form) (IsInSpan f.laws (plain_rows (entry f.laws v l.rows) l.i))
    × (vec_len l.row ≡ l.rows.cols)
