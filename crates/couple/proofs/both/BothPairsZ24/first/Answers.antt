use Rattle.std.proofs.Common.{◌∙◌}
use Rattle.cyclo24.specs.ExactZ24.{z24}
use Rattle.induce.specs.Tables.{matrix_in}
use Rattle.couple.specs.Listed.{lift-list}
use Rattle.couple.proofs.both.BothPairsZ24.first.Goals as goal

pub returns-clause-reached : goal.returns-clause-reached
returns-clause-reached c i l =
    let r = c.first_rows.ensures.reached i l in
    (r.0, r.1, λ a m n. lift-list z24 (matrix_in c.args.self.now.quotient.now c.args.self.now.left.now.tables r.0 a i) ∙ r.2 a m n)
