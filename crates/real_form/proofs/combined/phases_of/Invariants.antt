use Rattle.std.proofs.Common.{length}
use Rattle.induce.specs.Tables.{dimension_in, matrix_in, size_in}
use Rattle.real_form.specs.Sparse.{ArePhases}
use Rattle.real_form.proofs.combined.phases_of.Given as goal

abbrev pub invariant-loop-d : goal.invariant-loop-d
invariant-loop-d l = ArePhases (length l.quotient.parent.ops) (length l.quotient.translations) (dimension_in l.induced.tables) (size_in l.induced.tables) (matrix_in l.quotient l.induced.tables) l.phases.items l.d
