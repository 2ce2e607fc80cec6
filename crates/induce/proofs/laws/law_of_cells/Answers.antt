use Rattle.induce.specs.CellPhaseLaws.{multipliers-whole, arms-whole, phase_of-cell}
use Rattle.induce.proofs.laws.law_of_cells.Goals as goal

pub returns-clause-multipliers : goal.returns-clause-multipliers
returns-clause-multipliers c ops dens d = multipliers-whole ops dens d

pub returns-clause-arms : goal.returns-clause-arms
returns-clause-arms c p h d = arms-whole p h d

pub returns-clause-phase : goal.returns-clause-phase
returns-clause-phase c d k t = phase_of-cell d k t
