use Rattle.std.proofs.Common.{◌≡◌, sym, subst}
use Rattle.space_ops.specs.Op.{matrix_of, seitz_of}
use Rattle.space_ops.specs.GroupLaws.{place_of}
use Rattle.super_group.specs.Quotient.{SupercellGroup, IsMember}
use Rattle.super_group.specs.NumberingView.{view_of}
use Rattle.super_group.specs.QuotientLaws.{rotation-is, rotation-at}
use Rattle.super_group.proofs.numbering.Numbering.rotation_number.Goals as goal

pub unreachable-requires : goal.unreachable-requires
unreachable-requires c =
    let m = subst (λ (s : SupercellGroup). IsMember s (seitz_of c.args.op)) (sym c.self.view_is) c.requires in
    let r = rotation-is (view_of c.self.inside) c.self.invariant.quotient (seitz_of c.args.op) m in
    c.in-None.ensures.place _ r.0 r.1

pub returns-clause-place : goal.returns-clause-place
returns-clause-place c =
    subst (λ (s : SupercellGroup). c.in-Some.rotation ≡ place_of s.parent.ops (matrix_of c.args.op.rot)) c.self.view_is
    (sym (rotation-at (view_of c.self.inside) c.self.invariant.quotient c.in-Some.rotation c.in-Some.ensures.place.0 (seitz_of c.args.op) (sym c.in-Some.ensures.place.1)))
