use Rattle.std.proofs.Common.{sym, ◌∙◌, subst, ◌<◌, length}
use Rattle.std.proofs.lemmas.List.{get_or_default}
use Rattle.space_ops.specs.Op.{identity_op}
use Rattle.space_ops.specs.Group.{Parent}
use Rattle.space_ops.specs.GroupView.{view_of}
use Rattle.space_ops.specs.MemberLaws.{listed-small, listed-near, listed-unimodular}
use Rattle.space_ops.proofs.group.Group.op.Goals as goal

pub returns-clause-small : goal.returns-clause-small
returns-clause-small c =
    let l = subst (λ (p : Parent). c.args.i < length p.ops) (sym c.self.view_is) c.requires in
    listed-small (view_of c.self.inside) c.self.invariant c.args.i l c.index.result.now (c.index.ensures ∙ get_or_default c.self.inside.ops.items c.args.i c.index.result.now identity_op l)

pub returns-clause-near : goal.returns-clause-near
returns-clause-near c =
    let l = subst (λ (p : Parent). c.args.i < length p.ops) (sym c.self.view_is) c.requires in
    listed-near (view_of c.self.inside) c.self.invariant c.args.i l c.index.result.now (c.index.ensures ∙ get_or_default c.self.inside.ops.items c.args.i c.index.result.now identity_op l)

pub returns-clause-unimodular : goal.returns-clause-unimodular
returns-clause-unimodular c =
    let l = subst (λ (p : Parent). c.args.i < length p.ops) (sym c.self.view_is) c.requires in
    listed-unimodular (view_of c.self.inside) c.self.invariant c.args.i l c.index.result.now
    (c.index.ensures ∙ get_or_default c.self.inside.ops.items c.args.i c.index.result.now identity_op l)
