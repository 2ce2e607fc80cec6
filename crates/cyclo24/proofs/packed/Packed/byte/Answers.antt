use Rattle.cyclo24.specs.LongLaws.{byte_below}
use Rattle.cyclo24.proofs.packed.Packed.byte.Goals as goal

pub returns-clause-short : goal.returns-clause-short
returns-clause-short c = byte_below c.args.n c.ranges.n
