use Rattle.std.proofs.Common.{◌≡◌, ap, subst, ℕ, ◌<◌, ◌+◌, ◌*◌, ◌/◌, length}
use Rattle.small_rep.specs.SmallRep.{phased}
use Rattle.induce.specs.declared.tables.Tables.{Tables}
use Rattle.induce.specs.Tables.{size_in, dimension_in, matrix_in}
use Rattle.induce.specs.InducedView.{InducedView}
use Rattle.induce.proofs.induced.Induced.phase.Goals as goal

pub returns-clause-matrix : goal.returns-clause-matrix
returns-clause-matrix c =
    let q = c.args.quotient.now in
    subst
    (λ (t : Tables).
    (r a b : ℕ) → r < length q.parent.ops → a < dimension_in t → b < dimension_in t → a / size_in t ≡ c.args.j
    → matrix_in q t (r * length q.translations + c.args.t) a b ≡ phased c.phase_at.result (matrix_in q t (r * length q.translations) a b))
    (ap (λ (v : InducedView). v.tables) c.self.view_is) c.phase_at.ensures.matrix
