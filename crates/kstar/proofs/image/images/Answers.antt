use Rattle.kstar.proofs.Appends.{images-more, near-more}
use Rattle.kstar.proofs.image.images.Goals as goal

pub loop-i-preserved : goal.loop-i-preserved
loop-i-preserved c = record {
  images = images-more c.args.group.now _ c.loop-i.i c.loop-i.images.items c.add.new.rows.items c.image.result c.in_ok-add.ensures c.image.ensures.value c.loop-i.invariant.images;
  near = near-more c.loop-i.images.items c.add.new.rows.items c.image.result c.in_ok-add.ensures c.image.ensures.within c.loop-i.invariant.near;
}
