use Rattle.std.proofs.Common.{refl, sym, subst, ℤ, List}
use Rattle.space_ops.specs.Op.{vector_of}
use Rattle.space_ops.specs.Words.{vector_difference, IsLatticeVector}
use Rattle.space_ops.specs.LatticeLaws.{differ-refl}
use Rattle.space_ops.proofs.ReducedLemmas.{reduced-differ-in}
use Rattle.space_ops.proofs.op.Op.reduced.Goals as goal

pub returns-clause-same : goal.returns-clause-same
returns-clause-same c lattice =
    let t = vector_of c.args.self.shift in
    record {
      rotation = refl;
      translation = subst (λ (s : List ℤ). IsLatticeVector lattice (vector_difference (vector_of s) t)) (sym c.reduced_shift-shift.ensures.value)
          (reduced-differ-in lattice t t (differ-refl lattice t));
    }
