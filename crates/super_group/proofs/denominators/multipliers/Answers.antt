use Rattle.super_group.proofs.MultiplierLemmas.{multipliers_are, multipliers-supercell}
use Rattle.super_group.proofs.denominators.multipliers.Goals as goal

pub returns-clause-multipliers : goal.returns-clause-multipliers
returns-clause-multipliers c =
    multipliers_are c.args.group.now.ops c.args.dens.now c.first_axes-firsts.result c.first_axes-firsts.ensures c.least_multiple.result c.least_multiple-2.result
    c.least_multiple-3.result c.least_multiple.ensures c.least_multiple-2.ensures c.least_multiple-3.ensures

pub returns-clause-supercell : goal.returns-clause-supercell
returns-clause-supercell c =
    multipliers-supercell c.args.group.now.ops c.args.dens.now c.first_axes-firsts.result c.first_axes-firsts.ensures c.least_multiple.result c.least_multiple-2.result
    c.least_multiple-3.result c.least_multiple.ensures c.least_multiple-2.ensures c.least_multiple-3.ensures
