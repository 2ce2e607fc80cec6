use Rattle.std.proofs.Common.{vec_len}
use Rattle.lin_alg.proofs.MemoryLemmas.{vector-filled}
use Rattle.lin_alg.proofs.memory.zeros.Goals as goal

pub returns-in-Ok-clause-zero : goal.returns-in-Ok-clause-zero
returns-in-Ok-clause-zero g c j =
    vector-filled g.F.Field.field g.F.Field.value c.resize.new.self.items c.in_ok-row.row.items c.args.len (vec_len c.in_ok-row.row) c.zero.result c.in_ok-row.ensures.items c.in_ok-row.ensures.len c.in-Ok.ensures.items c.zero.ensures j
