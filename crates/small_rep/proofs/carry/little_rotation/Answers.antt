use Rattle.std.proofs.Common.{sym, ◌∙◌}
use Rattle.small_rep.proofs.CarryLemmas.{little_op, not_little, not_listed}
use Rattle.small_rep.proofs.carry.little_rotation.Goals as goal

pub returns-then-contains-clause-rotation : goal.returns-then-contains-clause-rotation
returns-then-contains-clause-rotation c =
    little_op c.args.group.now c.in-Some.ensures.group c.args.star.now c.args.op c.in-Some.rotation (c.contains.ensures.yes c.if-not-contains.false) c.in-Some.ensures.place.0 c.in-Some.ensures.place.1 c.little.result.now c.little.ensures.value
    (sym c.contains-in-Some.ensures.value ∙ c.if-contains.true)

pub returns-else-contains-clause-rotation : goal.returns-else-contains-clause-rotation
returns-else-contains-clause-rotation c =
    not_little c.args.group.now c.in-Some.ensures.group c.args.star.now c.args.op c.in-Some.rotation c.in-Some.ensures.place.0 c.in-Some.ensures.place.1 c.little.result.now c.little.ensures.value
    (sym c.contains-in-Some.ensures.value ∙ c.if-contains.false)

pub returns-in-None-clause-rotation : goal.returns-in-None-clause-rotation
returns-in-None-clause-rotation c = not_listed c.args.group.now c.in-None.ensures.group c.args.star.now c.args.op c.in-None.ensures.place
