use Rattle.std.proofs.Common.{rules}
use Rattle.induce.proofs.TurnLemmas.{term_within}
use Rattle.induce.proofs.turned.term.Goals as goal

pub returns-clause-within : goal.returns-clause-within
returns-clause-within c = term_within c.args.a c.args.x c.from.result (search rules) (search rules) (search rules) c.from.ensures c.requires.left c.requires.right
