use Rattle.std.proofs.Common.{rules, arith}
use Rattle.space_ops.specs.WithinLaws.{within_product}
use Rattle.kstar.proofs.Bounds.{passed_product}
use Rattle.kstar.proofs.wave_vector.times.Goals as goal

pub returns-clause-within : goal.returns-clause-within
returns-clause-within c =
    passed_product c.args.num c.args.twelfths (search rules) (search rules) 288 (omega arith) (within_product 24 12 c.args.num c.args.twelfths c.requires.num c.requires.twelfths)
