use Rattle.std.proofs.Common.{arith, sym, ◌∙◌}
use Rattle.lin_alg.specs.Rows.{vector}
use Rattle.mode_project.proofs.ScaleLemmas.{no-term}
use Rattle.mode_project.proofs.VectorLemmas.{vector-at}
use Rattle.mode_project.proofs.scale.add_term.Goals as goal

pub returns-then-is_zero : goal.returns-then-is_zero
returns-then-is_zero g c =
    let f = g.F.Field.field in
    let value = g.F.Field.value in
    let w = vector f.laws value c.args.weights.now in
    let group = g.S.OfSpace.space.group in
    no-term f.laws (value c.args.sum) (value c.index-weights-a.result) (w (group.product (group.inverse c.args.a) c.args.q)) (w c.args.a) (sym c.is_zero.ensures ∙ c.if-is_zero.true)
    (vector-at f value c.args.weights.now c.args.a c.index-weights-a.result (let l = c.requires.term in let e = c.requires.weights in omega (arith, l, e)) c.index-weights-a.is)
