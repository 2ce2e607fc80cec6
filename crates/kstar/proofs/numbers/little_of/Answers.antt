use Rattle.std.proofs.Common.{subst, sym, ℤ, List}
use Rattle.space_ops.specs.Op.{vector_of}
use Rattle.kstar.specs.WaveVector.{AreEquivalent}
use Rattle.kstar.specs.Star.{row_in}
use Rattle.algebra.specs.RisingListLaws.{list-grows}
use Rattle.kstar.proofs.numbers.little_of.Goals as goal

pub loop-r-preserved : goal.loop-r-preserved
loop-r-preserved c =
    let on = λ (a : List ℤ). AreEquivalent c.args.lattice (vector_of a) (vector_of c.args.row) in
    list-grows c.are_equivalent-is_little.result c.loop-r.r (λ r. AreEquivalent c.args.lattice (row_in c.args.images.now r) (vector_of c.args.row))
    c.loop-r.little.items c.add.new.numbers.items c.loop-r.invariant c.in_ok-add.ensures.yes c.in_ok-add.ensures.no
    (λ e. subst on c.row_at.ensures (c.are_equivalent-is_little.ensures.yes e))
    (λ e h. c.are_equivalent-is_little.ensures.no e (subst on (sym c.row_at.ensures) h))
