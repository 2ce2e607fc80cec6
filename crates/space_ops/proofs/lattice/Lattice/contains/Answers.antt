use Rattle.std.proofs.Common.{◌≡◌, ap, ◌∙◌, sym, subst, true, false}
use Rattle.space_ops.specs.Op.{vector_of}
use Rattle.space_ops.specs.Words.{IsLatticeVector}
use Rattle.space_ops.proofs.KeepLemmas.{kept_yes, kept_no}
use Rattle.space_ops.proofs.ReducedLemmas.{reduced-in, reduced-out}
use Rattle.space_ops.proofs.lattice.Lattice.contains.Goals as goal

pub returns-clause-yes : goal.returns-clause-yes
returns-clause-yes c h =
    reduced-out c.args.self (vector_of c.args.shift)
    (subst (IsLatticeVector c.args.self) (ap vector_of c.reduced_shift.ensures.value)
    (kept_yes c.args.self (vector_of c.reduced_shift.result) (vector_of c.least_shift.result) c.least_shift.ensures.translation (c.is_same_shift.ensures.0 h)))

pub returns-clause-no : goal.returns-clause-no
returns-clause-no c e k =
    let h : c.is_same_shift.result ≡ true =
    c.is_same_shift.ensures.1
    (kept_no c.args.self (vector_of c.reduced_shift.result) (vector_of c.least_shift.result) c.least_shift.ensures.translation
    (subst (IsLatticeVector c.args.self) (sym (ap vector_of c.reduced_shift.ensures.value)) (reduced-in c.args.self (vector_of c.args.shift) k))) in
    let d : false ≡ true = sym e ∙ h in
    cc
