use Rattle.lin_alg.specs.Rows.{vector}
use Rattle.class_list.proofs.RowLemmas.{HasTerms}
use Rattle.class_list.proofs.image.image_row.Given as goal

abbrev pub invariant-loop-i : goal.invariant-loop-i
invariant-loop-i g l =
    let f = g.F.Field.field in
    let v = g.F.Field.value in
    HasTerms f v (g.G.Acts.action l.acts) l.q (vector f.laws v l.e) l.into l.i
