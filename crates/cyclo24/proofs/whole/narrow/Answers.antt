use Rattle.std.proofs.Common.{arith}
use Rattle.std.proofs.lemmas.Int.{to_z-of_z}
use Rattle.cyclo24.specs.CheckedLaws.{narrow_answer, wide_answer_by_size}
use Rattle.cyclo24.proofs.whole.narrow.Goals as goal

pub returns-then-unsigned_abs-lt-LEAST_WIDE : goal.returns-then-unsigned_abs-lt-LEAST_WIDE
returns-then-unsigned_abs-lt-LEAST_WIDE c = grind (arith, to_z-of_z, narrow_answer)

pub returns-else-unsigned_abs-lt-LEAST_WIDE : goal.returns-else-unsigned_abs-lt-LEAST_WIDE
returns-else-unsigned_abs-lt-LEAST_WIDE c = grind (arith, to_z-of_z, wide_answer_by_size)
