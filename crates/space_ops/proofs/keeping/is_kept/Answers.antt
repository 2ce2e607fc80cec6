use Rattle.std.proofs.Common.{◌≡◌, ap, ◌∙◌, sym, subst, true, false}
use Rattle.space_ops.specs.Op.{vector_of}
use Rattle.space_ops.specs.Words.{IsLatticeVector}
use Rattle.space_ops.proofs.Bounds.{rotation_more}
use Rattle.space_ops.proofs.KeepLemmas.{kept_yes, kept_no}
use Rattle.space_ops.proofs.keeping.is_kept.Goals as goal

pub moved-requires-clause-left : goal.moved-requires-clause-left
moved-requires-clause-left c = rotation_more c.args.rot c.requires.small

pub returns-clause-yes : goal.returns-clause-yes
returns-clause-yes c h =
    subst (IsLatticeVector c.args.lattice) (ap vector_of c.moved.ensures.value)
    (kept_yes c.args.lattice (vector_of c.moved.result) (vector_of c.least_shift.result) c.least_shift.ensures.translation (c.is_same_shift.ensures.0 h))

pub returns-clause-no : goal.returns-clause-no
returns-clause-no c e k =
    let h : c.is_same_shift.result ≡ true =
    c.is_same_shift.ensures.1
    (kept_no c.args.lattice (vector_of c.moved.result) (vector_of c.least_shift.result) c.least_shift.ensures.translation (subst (IsLatticeVector c.args.lattice) (sym (ap vector_of c.moved.ensures.value)) k)) in
    let d : false ≡ true = sym e ∙ h in
    cc
