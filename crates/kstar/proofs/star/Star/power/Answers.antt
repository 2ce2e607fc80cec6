use Rattle.std.proofs.Common.{◌≡◌, ◌∙◌, ap, sym, subst, pos, ◌<◌, ◌*◌, ◌+◌, ◌%◌, ◌+ℤ◌}
use Rattle.space_ops.specs.Op.{vector_of}
use Rattle.algebra.specs.Whole.{whole}
use Rattle.space_ops.specs.Matrix.{vector_sum}
use Rattle.kstar.specs.Star.{WaveStar}
use Rattle.algebra.specs.Multiples.{IsMultiple}
use Rattle.kstar.specs.WaveVector.{row_value, HasPhases, phase_of}
use Rattle.kstar.specs.WaveVectorLaws.{phases-lattice}
use Rattle.kstar.specs.PhaseLaws.{phase_of-below, phase_of-is, phase_of-sum}
use Rattle.kstar.proofs.star.Star.power.Goals as goal

phases : (c : goal.After-phase) → HasPhases c.args.self.now.lattice c.args.self.now.row
phases c = subst (λ (s : WaveStar). HasPhases s.lattice s.row) c.self.view_is c.self.invariant.phases

phase-is : (c : goal.After-phase) → c.phase.result ≡ phase_of c.args.self.now.row (vector_of c.args.t)
phase-is c = c.phase.ensures ∙ ap (λ (s : WaveStar). phase_of s.row (vector_of c.args.t)) c.self.view_is

pub returns-clause-below : goal.returns-clause-below
returns-clause-below c = subst (λ n. n < 24) (sym (phase-is c)) (phase_of-below c.args.self.now.row (vector_of c.args.t))

pub returns-clause-turn : goal.returns-clause-turn
returns-clause-turn c =
    let k = c.args.self.now.row in
    let t = vector_of c.args.t in
    subst (λ n. IsMultiple 144 (pos (6 * n) +ℤ row_value k t)) (sym (phase-is c)) (phase_of-is k t (phases-lattice c.args.self.now.lattice k (phases c) t c.requires))

pub returns-clause-sum : goal.returns-clause-sum
returns-clause-sum c s h =
    let k = c.args.self.now.row in
    let t = vector_of c.args.t in
    let on = phases-lattice c.args.self.now.lattice k (phases c) in
    subst (λ n. phase_of k (vector_sum whole t s) ≡ (n + phase_of k s) % 24) (sym (phase-is c)) (phase_of-sum k t s (on t c.requires) (on s h))
