use Rattle.std.proofs.Common.{w32, arith}
use Rattle.algebra.specs.MultipleLaws.{rem-multiple, multiple-rem}
use Rattle.kstar.proofs.Remainders.{rem_yes, rem_no}
use Rattle.kstar.proofs.equivalence.is_dozen.Goals as goal

pub returns-clause-yes : goal.returns-clause-yes
returns-clause-yes c e = rem-multiple 12 (omega arith) c.args.x (rem_yes w32 c.args.x c.dozen_remainder.result 12 c.ranges.x c.dozen_remainder.ensures e)

pub returns-clause-no : goal.returns-clause-no
returns-clause-no c e h = rem_no w32 c.args.x c.dozen_remainder.result 12 c.ranges.x c.dozen_remainder.ensures e (multiple-rem 12 (omega arith) c.args.x h)
