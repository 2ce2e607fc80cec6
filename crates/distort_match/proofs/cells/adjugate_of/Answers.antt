use Rattle.std.proofs.Common.{ap, ◌∙◌, ℤ, List, w32, rules}
use Rattle.std.proofs.lemmas.Int.{to_z-of_z}
use Rattle.algebra.specs.Whole.{whole}
use Rattle.space_ops.specs.Matrix.{adjugate}
use Rattle.space_ops.specs.MatrixLaws.{same_matrix}
use Rattle.space_ops.specs.Op.{number_at, matrix_of}
use Rattle.distort_match.proofs.cells.adjugate_of.Goals as goal

pub returns-clause-value : goal.returns-clause-value
returns-clause-value c =
    let e = c.cross-first.ensures.value in
    let f = c.cross-second.ensures.value in
    let g = c.cross-third.ensures.value in
    same_matrix _ (adjugate whole (matrix_of c.args.rows))
    (to_z-of_z w32 (number_at c.cross-first.result 0) (search rules) ∙ ap (λ (v : List ℤ). number_at v 0) e)
    (to_z-of_z w32 (number_at c.cross-second.result 0) (search rules) ∙ ap (λ (v : List ℤ). number_at v 0) f)
    (to_z-of_z w32 (number_at c.cross-third.result 0) (search rules) ∙ ap (λ (v : List ℤ). number_at v 0) g)
    (to_z-of_z w32 (number_at c.cross-first.result 1) (search rules) ∙ ap (λ (v : List ℤ). number_at v 1) e)
    (to_z-of_z w32 (number_at c.cross-second.result 1) (search rules) ∙ ap (λ (v : List ℤ). number_at v 1) f)
    (to_z-of_z w32 (number_at c.cross-third.result 1) (search rules) ∙ ap (λ (v : List ℤ). number_at v 1) g)
    (to_z-of_z w32 (number_at c.cross-first.result 2) (search rules) ∙ ap (λ (v : List ℤ). number_at v 2) e)
    (to_z-of_z w32 (number_at c.cross-second.result 2) (search rules) ∙ ap (λ (v : List ℤ). number_at v 2) f)
    (to_z-of_z w32 (number_at c.cross-third.result 2) (search rules) ∙ ap (λ (v : List ℤ). number_at v 2) g)
