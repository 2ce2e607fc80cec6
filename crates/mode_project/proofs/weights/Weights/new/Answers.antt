use Rattle.std.proofs.Common.{◌∙◌}
use Rattle.mode_project.proofs.WeightLemmas.{next-list, all-lists, all-weights}
use Rattle.mode_project.specs.Parts.{rows_in}
use Rattle.mode_project.proofs.weights.Weights.new.Goals as goal

pub loop-one-preserved : goal.loop-one-preserved
loop-one-preserved c =
    next-list c.args.induced.now c.loop-one.lists.items c.push.new.self.items c.loop-one.one-index c.in_ok-list.list c.one-item.result c.loop-one-test.true c.one-item.is c.in-Ok.ensures.items
    (c.in_ok-list.ensures.items ∙ c.weights.ensures) c.loop-one.invariant

pub returns-clause-of : goal.returns-clause-of
returns-clause-of c g h = all-weights g c.args.induced.now (rows_in c.loop-one.lists.items) (all-lists c.args.induced.now (rows_in c.loop-one.lists.items) c.loop-one.one-index c.loop-one-test.false c.loop-one.invariant) h
