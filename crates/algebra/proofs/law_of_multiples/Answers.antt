use Rattle.algebra.specs.MultipleLaws.{multiple_zero, multiple_sum, multiple_minus, multiple_times}
use Rattle.algebra.proofs.law_of_multiples.Goals as goal

pub returns : goal.returns
returns c n = record { zero = multiple_zero n; sum = multiple_sum n; minus = multiple_minus n; times = multiple_times n }
