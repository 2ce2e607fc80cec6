use Rattle.kstar.specs.WaveVectorLaws.{phases-lattice}
use Rattle.kstar.specs.PhaseLaws.{phase_of-zero, phase_of-minus, phase_of-image, phase_of-unique}
use Rattle.kstar.proofs.laws.law_of_phases.Goals as goal

pub returns-clause-zero : goal.returns-clause-zero
returns-clause-zero c = phase_of-zero

pub returns-clause-minus : goal.returns-clause-minus
returns-clause-minus c = phase_of-minus

pub returns-clause-arm : goal.returns-clause-arm
returns-clause-arm c = phase_of-image

pub returns-clause-only : goal.returns-clause-only
returns-clause-only c = phase_of-unique

pub returns-clause-every : goal.returns-clause-every
returns-clause-every c = phases-lattice
