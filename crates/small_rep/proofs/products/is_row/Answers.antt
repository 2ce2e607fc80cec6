use Rattle.std.proofs.Common.{below_more, ap, Ok}
use Rattle.small_rep.specs.Products.{IsEntry}
use Rattle.small_rep.proofs.products.is_row.Goals as goal

pub loop-j-preserved : goal.loop-j-preserved
loop-j-preserved g c =
    below_more (IsEntry g.F.Field.field g.F.Field.value c.args.a.now.cols (g.F.Field.value c.args.factor) c.args.a.now c.args.b.now c.args.c.now c.args.i) c.loop-j.j c.loop-j.invariant
    (c.in-Ok-true.ensures.yes (ap Ok c.in-Ok-true.field-0-test))
