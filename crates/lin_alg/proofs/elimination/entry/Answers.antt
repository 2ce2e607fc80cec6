use Rattle.std.proofs.Common.{sym}
use Rattle.lin_alg.proofs.VectorLemmas.{vector-at}
use Rattle.lin_alg.proofs.elimination.entry.Goals as goal

pub returns : goal.returns
returns g c = sym (vector-at g.F.Field.field g.F.Field.value c.args.row.now c.args.p c.index-row-p.result c.requires c.index-row-p.is)
