use Rattle.cyclo24.specs.Short4Laws.{lowest-rational, rational_narrow}
use Rattle.cyclo24.proofs.short4.lowest_rational.Goals as goal

pub returns-clause-lowest : goal.returns-clause-lowest
returns-clause-lowest c =
    lowest-rational c.args.n.n c.args.d.n c.common-common.result c.divided.result c.divided-2.result c.widened.result c.widened-2.result c.requires.positive c.common-common.ensures.value c.divided.ensures.value c.widened.ensures.value c.divided-2.ensures.value c.widened-2.ensures.value

pub returns-clause-narrow : goal.returns-clause-narrow
returns-clause-narrow c = rational_narrow c.widened.result c.widened-2.result c.widened.ensures.narrow c.widened-2.ensures.narrow
