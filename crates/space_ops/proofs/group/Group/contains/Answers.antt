use Rattle.std.proofs.Common.{sym, subst}
use Rattle.space_ops.specs.declared.op.Op.{Op}
use Rattle.space_ops.specs.Op.{vector_of}
use Rattle.space_ops.specs.Words.{op_at, vector_difference, IsLatticeVector}
use Rattle.space_ops.specs.Group.{Parent, IsParentGroup}
use Rattle.space_ops.proofs.MemberLemmas.{member_yes, member_no, member_unlisted}
use Rattle.space_ops.proofs.group.Group.contains.Goals as goal

pub returns-in-Some-clause-yes : goal.returns-in-Some-clause-yes
returns-in-Some-clause-yes c t =
    member_yes c.args.self.now (subst IsParentGroup c.self.view_is c.self.invariant) c.args.op c.in-Some.i c.in-Some.ensures.place.0 c.in-Some.ensures.place.1
    (subst (λ (p : Parent). IsLatticeVector p.lattice (vector_difference (vector_of c.args.op.shift) (op_at c.args.self.now.ops c.in-Some.i).shift)) c.self.view_is
    (subst (λ (o : Op). IsLatticeVector c.self.inside.lattice (vector_difference (vector_of c.args.op.shift) (vector_of o.shift))) c.op.ensures.value (c.differ_by_translation.ensures.yes t)))

pub returns-in-Some-clause-no : goal.returns-in-Some-clause-no
returns-in-Some-clause-no c t =
    member_no c.args.self.now (subst IsParentGroup c.self.view_is c.self.invariant) c.args.op c.in-Some.i c.in-Some.ensures.place.0 c.in-Some.ensures.place.1
    (λ k. c.differ_by_translation.ensures.no t
    (subst (λ (o : Op). IsLatticeVector c.self.inside.lattice (vector_difference (vector_of c.args.op.shift) (vector_of o.shift))) (sym c.op.ensures.value)
    (subst (λ (p : Parent). IsLatticeVector p.lattice (vector_difference (vector_of c.args.op.shift) (op_at c.args.self.now.ops c.in-Some.i).shift)) (sym c.self.view_is) k)))

pub returns-in-None-clause-no : goal.returns-in-None-clause-no
returns-in-None-clause-no c e = member_unlisted c.args.self.now (subst IsParentGroup c.self.view_is c.self.invariant) c.args.op c.in-None.ensures.place
