use Rattle.std.proofs.Common.{sym, subst}
use Rattle.induce.specs.Tables.{AreTablesOf}
use Rattle.induce.specs.InducedView.{InducedView}
use Rattle.induce.proofs.induced.Induced.entry.Goals as goal

pub entry_of-requires-clause-tables : goal.entry_of-requires-clause-tables
entry_of-requires-clause-tables c = subst (λ (v : InducedView). AreTablesOf c.args.quotient.now v.tables) (sym c.self.view_is) c.requires.of.tables
