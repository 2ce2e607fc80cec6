use Rattle.std.proofs.Common.{ℕ, List, map, Vec, Global}
use Rattle.fix_lattice.proofs.CutRowLemmas.{made-then}
use Rattle.fix_lattice.proofs.cuts.make_row.Goals as goal

abbrev items : Vec ℕ Global → List ℕ
items r = r.items

pub returns-clause-made : goal.returns-clause-made
returns-clause-made c =
    made-then c.args.n (map items c.args.cuts.now.items) (map items c.add_rows.new.cuts.items) (map items c.fill_row.new.cuts.items) c.add_rows.ensures.made c.fill_row.ensures.made
