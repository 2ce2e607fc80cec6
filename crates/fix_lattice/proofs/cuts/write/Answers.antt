use Rattle.std.proofs.Common.{ℕ, Vec, Global}
use Rattle.fix_lattice.proofs.CutRowLemmas.{rows-written}
use Rattle.fix_lattice.proofs.cuts.write.Goals as goal

pub returns : goal.returns
returns c =
    rows-written (λ (r : Vec ℕ Global). r.items) c.args.cuts.now.items c.args.i c.index_mut.result.now c.requires.row c.index_mut.ensures.value
    c.write_entry.new.row c.args.k c.args.x c.write_entry.ensures
