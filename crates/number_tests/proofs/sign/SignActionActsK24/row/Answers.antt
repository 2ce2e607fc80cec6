use Rattle.cyclo24.specs.ExactK24.{k24}
use Rattle.cyclo24.specs.K24.{exact24}
use Rattle.number_tests.specs.SignActionLaws.{sign_row}
use Rattle.number_tests.proofs.sign.SignActionActsK24.row.Goals as goal

pub returns-clause-exact : goal.returns-clause-exact
returns-clause-exact c = sign_row k24 exact24 c.args.self.now.minus c.args.q c.args._i c.number.result c.args.into.now c.requires.room c.number.ensures
