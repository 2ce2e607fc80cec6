use Rattle.std.proofs.Common.{w64, arith}
use Rattle.algebra.specs.MultipleLaws.{rem-multiple, multiple-rem}
use Rattle.kstar.proofs.Remainders.{rem_yes, rem_no}
use Rattle.kstar.proofs.equivalence.is_whole.Goals as goal

pub returns-clause-yes : goal.returns-clause-yes
returns-clause-yes c e = rem-multiple 144 (omega arith) c.args.x (rem_yes w64 c.args.x c.gross_remainder.result 144 c.ranges.x c.gross_remainder.ensures e)

pub returns-clause-no : goal.returns-clause-no
returns-clause-no c e h = rem_no w64 c.args.x c.gross_remainder.result 144 c.ranges.x c.gross_remainder.ensures e (multiple-rem 144 (omega arith) c.args.x h)
