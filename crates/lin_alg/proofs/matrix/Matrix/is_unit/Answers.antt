use Rattle.std.proofs.Common.{◌≡◌, ◌∙◌, sym, subst, true, ◌/◌, ◌%◌}
use Rattle.lin_alg.specs.Matrix.{entry}
use Rattle.lin_alg.specs.Matrices.{unit_entry}
use Rattle.lin_alg.proofs.SquareLemmas.{equal-more}
use Rattle.lin_alg.proofs.matrix.Matrix.is_unit.Goals as goal

pub loop-e-preserved : goal.loop-e-preserved
loop-e-preserved g c =
    let f = g.F.Field.field in
    let a = entry f.laws g.F.Field.value c.args.self.now in
    let t : c.are_equal.result ≡ true = c.if-not-are_equal.false in
    equal-more c.args.self.now.rows a (unit_entry f.laws) c.loop-e.e c.loop-e.invariant
    (subst (λ n. a (c.loop-e.e / n) (c.loop-e.e % n) ≡ unit_entry f.laws (c.loop-e.e / n) (c.loop-e.e % n)) c.rows-size.ensures.value (sym c.get.ensures ∙ c.are_equal.ensures.yes t ∙ c.unit_at.ensures))
