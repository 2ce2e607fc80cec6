use Rattle.std.proofs.Common.{subst, below_more}
use Rattle.std.proofs.lemmas.List.{get_or_default}
use Rattle.space_ops.specs.declared.op.Op.{Op}
use Rattle.space_ops.specs.Op.{seitz_of, identity_op}
use Rattle.space_ops.specs.Closing.{KeepsLattice, LosesLattice}
use Rattle.space_ops.proofs.keeping.all_keep_lattice.Goals as goal

pub returns-then-not-keeps_lattice-clause-no : goal.returns-then-not-keeps_lattice-clause-no
returns-then-not-keeps_lattice-clause-no c e = (
  c.loop-op.op-index,
  c.loop-op-test.true,
  subst (λ (o : Op). LosesLattice c.args.lattice (seitz_of o).rot) (get_or_default c.args.ops.now c.loop-op.op-index _ identity_op c.loop-op-test.true) (c.keeps_lattice.ensures.no c.if-not-keeps_lattice.true),
)

pub loop-op-preserved : goal.loop-op-preserved
loop-op-preserved c =
    below_more _ _ c.loop-op.invariant
    (subst (λ (o : Op). KeepsLattice c.args.lattice (seitz_of o).rot) (get_or_default c.args.ops.now c.loop-op.op-index _ identity_op c.loop-op-test.true) (c.keeps_lattice.ensures.yes c.if-not-keeps_lattice.false))
