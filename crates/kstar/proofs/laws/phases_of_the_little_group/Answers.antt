use Rattle.kstar.specs.LittleLaws.{phase-little}
use Rattle.kstar.proofs.laws.phases_of_the_little_group.Goals as goal

pub returns : goal.returns
returns c p h k t a = phase-little p h k t a
