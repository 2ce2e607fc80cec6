use Rattle.std.proofs.Common.{refl}
use Rattle.space_ops.specs.GroupLaws.{parent-not_many, parent-not_extra}
use Rattle.space_ops.proofs.OrderLemmas.{parent_of}
use Rattle.space_ops.proofs.group.Group.close.Goals as goal

pub invariant_of-result : goal.invariant_of-result
invariant_of-result c =
    parent_of c.args.generators.now c.copied-generators.result.items c.args.lattice c.in_ok-ops.ops.items c.sort_after_first.new.ops.items c.copied-generators.ensures c.requires c.in_ok-ops.ensures.ok c.in_ok-sort_after_first.ensures.ok

pub returns-clause-group : goal.returns-clause-group
returns-clause-group c =
    parent_of c.args.generators.now c.copied-generators.result.items c.args.lattice c.in_ok-ops.ops.items c.sort_after_first.new.ops.items c.copied-generators.ensures c.requires c.in_ok-ops.ensures.ok c.in_ok-sort_after_first.ensures.ok

pub returns-clause-few : goal.returns-clause-few
returns-clause-few c =
    parent-not_many (record { ops = c.sort_after_first.new.ops.items; lattice = c.args.lattice; generators = c.args.generators.now })
    (parent_of c.args.generators.now c.args.generators.now c.args.lattice c.in_ok-ops.ops.items c.sort_after_first.new.ops.items refl c.requires c.in_ok-ops.ensures.ok c.in_ok-sort_after_first.ensures.ok)

pub returns-clause-pure : goal.returns-clause-pure
returns-clause-pure c =
    parent-not_extra (record { ops = c.sort_after_first.new.ops.items; lattice = c.args.lattice; generators = c.args.generators.now })
    (parent_of c.args.generators.now c.args.generators.now c.args.lattice c.in_ok-ops.ops.items c.sort_after_first.new.ops.items refl c.requires c.in_ok-ops.ensures.ok c.in_ok-sort_after_first.ensures.ok)
