use Rattle.std.proofs.Common.{◌∙◌, subst, ℕ, ◌<◌, ℤ, List, length, MatchOption}
use Rattle.space_ops.specs.Op.{vector_of}
use Rattle.kstar.specs.WaveVector.{HasPhase}
use Rattle.kstar.specs.Star.{IsFirstBad, row_in}
use Rattle.kstar.proofs.phase.bad_phase.Goals as goal

pub returns : goal.returns
returns c =
    subst (λ (cs : List (List ℤ)). MatchOption c.first_bad.result ((i : ℕ) → i < length cs → HasPhase (vector_of c.args.row) (row_in cs i)) (λ f. IsFirstBad cs (vector_of c.args.row) f))
    (c.as_slice.ensures.value ∙ c.centrings.ensures) c.first_bad.ensures
