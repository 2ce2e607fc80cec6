use Rattle.cyclo24.specs.Z24.{exact_z24}
use Rattle.induce.proofs.KindLemmas.{whole_term}
use Rattle.induce.proofs.kinds.whole_number.Goals as goal

pub returns : goal.returns
returns c = whole_term c.args.n c.whole_term.result c.whole_term.ensures.num c.whole_term.ensures.den c.whole_term.ensures.unit (exact_z24 c.one_term.result) c.one_term.ensures
