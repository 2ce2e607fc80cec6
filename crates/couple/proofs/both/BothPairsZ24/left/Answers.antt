use Rattle.std.proofs.Common.{sym, ◌∙◌}
use Rattle.cyclo24.specs.ExactZ24.{z24}
use Rattle.induce.specs.Tables.{matrix_in}
use Rattle.couple.specs.Listed.{lift-list}
use Rattle.couple.proofs.both.BothPairsZ24.left.Goals as goal

pub returns : goal.returns
returns c = c.entry.ensures ∙ sym (lift-list z24 (matrix_in c.args.self.now.quotient.now c.args.self.now.left.now.tables c.args.q c.args.a c.args.i))
