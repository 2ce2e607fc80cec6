use Rattle.std.proofs.Common.{◌≡◌, ap, ◌∙◌, sym, subst}
use Rattle.algebra.specs.Whole.{whole}
use Rattle.space_ops.specs.Matrix.{vector_sum}
use Rattle.space_ops.specs.Op.{vector_of}
use Rattle.space_ops.specs.Words.{vector_difference, IsLatticeVector}
use Rattle.space_ops.specs.LeastShift.{reduced_vector}
use Rattle.space_ops.proofs.ReducedLemmas.{reduced-differ-in, reduced-differ-out}
use Rattle.space_ops.proofs.group.differ_by_translation.Goals as goal

pub returns-clause-yes : goal.returns-clause-yes
returns-clause-yes c h =
    let rest : vector_of c.shift_sum.result ≡ vector_difference (reduced_vector (vector_of c.args.s)) (vector_of c.args.t) =
    ap vector_of c.shift_sum.ensures.value ∙ (λ i. vector_sum whole (vector_of (c.reduced_shift.ensures.value i)) (vector_of (c.negative_shift.ensures.value i))) in
    reduced-differ-out c.args.lattice (vector_of c.args.s) (vector_of c.args.t) (subst (IsLatticeVector c.args.lattice) rest (c.contains.ensures.yes h))

pub returns-clause-no : goal.returns-clause-no
returns-clause-no c h k =
    let rest : vector_of c.shift_sum.result ≡ vector_difference (reduced_vector (vector_of c.args.s)) (vector_of c.args.t) =
    ap vector_of c.shift_sum.ensures.value ∙ (λ i. vector_sum whole (vector_of (c.reduced_shift.ensures.value i)) (vector_of (c.negative_shift.ensures.value i))) in
    c.contains.ensures.no h (subst (IsLatticeVector c.args.lattice) (sym rest) (reduced-differ-in c.args.lattice (vector_of c.args.s) (vector_of c.args.t) k))
