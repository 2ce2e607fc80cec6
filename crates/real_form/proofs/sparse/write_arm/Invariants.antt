use Rattle.std.proofs.Common.{◌*◌}
use Rattle.cyclo24.specs.K24.{exact24}
use Rattle.cyclo24.specs.Z24.{exact_z24}
use Rattle.cyclo24.specs.ExactK24.{k24}
use Rattle.cyclo24.specs.ExactZ24.{z24_laws}
use Rattle.lin_alg.specs.Rows.{vector}
use Rattle.induce.specs.Tables.{dimension_in, matrix_in, size_in}
use Rattle.real_form.specs.Parts.{orbit}
use Rattle.real_form.specs.Complexes.{z24_parts}
use Rattle.real_form.proofs.SparseLemmas.{AreRight}
use Rattle.real_form.proofs.sparse.write_arm.Given as goal

abbrev pub invariant-loop-a : goal.invariant-loop-a
invariant-loop-a l =
    AreRight k24 exact24 (orbit z24_parts (dimension_in l.induced.tables) (matrix_in l.quotient l.induced.tables) (vector z24_laws exact_z24 l.w) l.q) (dimension_in l.induced.tables) (l.arm * size_in l.induced.tables) l.a l.fn.row l.row
