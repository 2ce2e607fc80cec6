use Rattle.kstar.specs.Rows.{AreAllImages, AreNear}
use Rattle.space_ops.specs.Op.{vector_of}
use Rattle.kstar.proofs.image.images.Given as goal

abbrev pub invariant-loop-i : goal.invariant-loop-i
invariant-loop-i l = record {
  images : AreAllImages l.group (vector_of l.row) l.i l.images.items;
  near : AreNear l.images.items;
}
