use Rattle.mode_project.specs.AmplitudeLaws.{modes-basis, amplitudes-unique}
use Rattle.mode_project.proofs.laws.law_of_amplitudes.Goals as goal

pub returns-clause-basis : goal.returns-clause-basis
returns-clause-basis g c = modes-basis g.F.Field.field.laws

pub returns-clause-one : goal.returns-clause-one
returns-clause-one g c d ms sites v a b h k l = amplitudes-unique g.F.Field.field.laws d ms sites h v b a l k
