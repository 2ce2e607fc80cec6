use Rattle.std.proofs.Common.{subst, sym}
use Rattle.space_ops.specs.Op.{vector_of}
use Rattle.kstar.specs.Star.{WaveStar}
use Rattle.kstar.specs.Rows.{AreNear, AreAllImages}
use Rattle.kstar.proofs.Stars.{star-is, ok_same}
use Rattle.kstar.proofs.star.star_of.Goals as goal

pub star_of_rows-requires-clause-images : goal.star_of_rows-requires-clause-images
star_of_rows-requires-clause-images c = subst AreNear (sym c.deref.ensures.value) c.in-Ok.ensures.within

pub returns-clause-star : goal.returns-clause-star
returns-clause-star c =
    let p = c.args.group.now in
    let k = vector_of c.args.row in
    ok_same c.star_of_rows.result
    (λ (s : WaveStar). star-is p k c.deref.result.now (subst (AreAllImages p k _) (sym c.deref.ensures.value) c.in-Ok.ensures.value) c.lattice.result s c.lattice.ensures.value) c.star_of_rows.ensures
