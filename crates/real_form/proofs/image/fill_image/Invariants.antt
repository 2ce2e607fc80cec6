use Rattle.cyclo24.specs.K24.{exact24}
use Rattle.cyclo24.specs.Z24.{exact_z24}
use Rattle.cyclo24.specs.ExactK24.{k24}
use Rattle.cyclo24.specs.ExactZ24.{z24_laws}
use Rattle.lin_alg.specs.Rows.{vector}
use Rattle.induce.specs.Tables.{dimension_in, matrix_in}
use Rattle.real_form.specs.Parts.{orbit}
use Rattle.real_form.specs.Complexes.{z24_parts}
use Rattle.real_form.proofs.ImageLemmas.{IsFilled}
use Rattle.real_form.proofs.image.fill_image.Given as goal

abbrev pub invariant-loop-i : goal.invariant-loop-i
invariant-loop-i l = IsFilled k24 exact24 (orbit z24_parts (dimension_in l.induced.tables) (matrix_in l.quotient l.induced.tables) (vector z24_laws exact_z24 l.w) l.q) (dimension_in l.induced.tables) l.row l.i
