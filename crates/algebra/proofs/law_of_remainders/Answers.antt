use Rattle.algebra.specs.MultipleLaws.{rem-within, rem-differs, rem-unique, rem-multiple, multiple-rem}
use Rattle.algebra.proofs.law_of_remainders.Goals as goal

pub returns-clause-is : goal.returns-clause-is
returns-clause-is c n x l = record { within = rem-within n l x; differs = rem-differs n l x }

pub returns-clause-only : goal.returns-clause-only
returns-clause-only c = rem-unique

pub returns-clause-zero : goal.returns-clause-zero
returns-clause-zero c n x l = (rem-multiple n l x, multiple-rem n l x)
