use Rattle.std.proofs.Common.{subst, sym, ℤ, List, below_more}
use Rattle.space_ops.specs.Op.{vector_of}
use Rattle.kstar.specs.WaveVector.{AreEquivalent}
use Rattle.kstar.specs.Star.{row_in}
use Rattle.kstar.proofs.numbers.is_first.Goals as goal

pub loop-s-preserved : goal.loop-s-preserved
loop-s-preserved c =
    below_more _ _ c.loop-s.invariant
    (λ h.
    c.are_equivalent.ensures.no c.if-are_equivalent.false
    (subst (λ (a : List ℤ). AreEquivalent c.args.lattice (vector_of a) (vector_of c.row_at-in-loop-s.result)) (sym c.row_at.ensures)
    (subst (λ (b : List ℤ). AreEquivalent c.args.lattice (row_in c.args.images.now c.loop-s.s) (vector_of b)) (sym c.row_at-in-loop-s.ensures) h)))
