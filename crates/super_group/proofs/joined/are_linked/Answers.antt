use Rattle.std.proofs.Common.{ℕ, ◌<◌, below_more, subst, arith}
use Rattle.space_ops.specs.declared.op.Op.{Op}
use Rattle.space_ops.specs.Op.{matrix_of}
use Rattle.space_ops.specs.Words.{op_at}
use Rattle.super_group.specs.FirstAxes.{AreZero}
use Rattle.super_group.proofs.joined.are_linked.Goals as goal

pub loop-r-preserved : goal.loop-r-preserved
loop-r-preserved c =
    below_more (λ (r : ℕ). AreZero (op_at c.args.group.now.ops r).rot c.args.i c.args.j) c.loop-r.r c.loop-r.invariant
    (subst (λ (o : Op). AreZero (matrix_of o.rot) c.args.i c.args.j) c.op.ensures.value (c.has_link.ensures.no c.if-has_link.false))

pub returns-clause-no : goal.returns-clause-no
returns-clause-no c = λ _ h. let l : h.place < c.loop-r.r = omega (arith, h.listed) in h.nonzero (c.loop-r.invariant h.place l)
