use Rattle.std.proofs.Common.{◌∙◌, w64, rules}
use Rattle.std.proofs.lemmas.Int.{to_z-of_z}
use Rattle.space_ops.specs.Op.{number_at, row_at, vector_of, matrix_of}
use Rattle.space_ops.specs.WithinLaws.{shift_more}
use Rattle.distort_match.proofs.CarriedLemmas.{carried_by, carried_x, carried_y, carried_z, none_carried, carried_passed}
use Rattle.distort_match.proofs.frame.carried.Goals as goal

pub dot-requires-in-Some-clause-row : goal.dot-requires-in-Some-clause-row
dot-requires-in-Some-clause-row c = shift_more 288 165888 (row_at c.args.frame.now.rows 1) (search rules) c.requires.rows.1

pub dot-requires-in-Some-after-clause-row : goal.dot-requires-in-Some-after-clause-row
dot-requires-in-Some-after-clause-row c = shift_more 288 165888 (row_at c.args.frame.now.rows 2) (search rules) c.requires.rows.2

pub returns-in-None-clause-value : goal.returns-in-None-clause-value
returns-in-None-clause-value c x h =
    none_carried _ (number_at c.args.frame.now.origin 0) _ _ (to_z-of_z w64 (number_at c.args.frame.now.origin 0) (search rules)) (to_z-of_z w64 c.dot.result (search rules) ∙ c.dot.ensures.value) c.in-None.ensures.value x.x
    (carried_x (matrix_of c.args.frame.now.rows) (vector_of c.args.frame.now.origin) (vector_of c.args.y) x h)

pub returns-in-None-after-clause-value : goal.returns-in-None-after-clause-value
returns-in-None-after-clause-value c x h =
    none_carried _ (number_at c.args.frame.now.origin 1) _ _ (to_z-of_z w64 (number_at c.args.frame.now.origin 1) (search rules)) (to_z-of_z w64 c.dot-in-Some.result (search rules) ∙ c.dot-in-Some.ensures.value) c.in-None-after.ensures.value x.y
    (carried_y (matrix_of c.args.frame.now.rows) (vector_of c.args.frame.now.origin) (vector_of c.args.y) x h)

pub returns-in-None-after-2-clause-value : goal.returns-in-None-after-2-clause-value
returns-in-None-after-2-clause-value c x h =
    none_carried _ (number_at c.args.frame.now.origin 2) _ _ (to_z-of_z w64 (number_at c.args.frame.now.origin 2) (search rules)) (to_z-of_z w64 c.dot-in-Some-after.result (search rules) ∙ c.dot-in-Some-after.ensures.value) c.in-None-after-2.ensures.value x.z
    (carried_z (matrix_of c.args.frame.now.rows) (vector_of c.args.frame.now.origin) (vector_of c.args.y) x h)

pub returns-in-Some-after-2-clause-value : goal.returns-in-Some-after-2-clause-value
returns-in-Some-after-2-clause-value c =
    carried_by (matrix_of c.args.frame.now.rows) (vector_of c.args.frame.now.origin) (vector_of c.args.y) _
    (carried_passed _ (number_at c.args.frame.now.origin 0) _ _ (to_z-of_z w64 (number_at c.args.frame.now.origin 0) (search rules)) (to_z-of_z w64 c.dot.result (search rules) ∙ c.dot.ensures.value) c.in-Some.along_x _ (to_z-of_z w64 c.in-Some.along_x (search rules)) c.in-Some.ensures.value)
    (carried_passed _ (number_at c.args.frame.now.origin 1) _ _ (to_z-of_z w64 (number_at c.args.frame.now.origin 1) (search rules)) (to_z-of_z w64 c.dot-in-Some.result (search rules) ∙ c.dot-in-Some.ensures.value) c.in-Some-after.along_y _ (to_z-of_z w64 c.in-Some-after.along_y (search rules)) c.in-Some-after.ensures.value)
    (carried_passed _ (number_at c.args.frame.now.origin 2) _ _ (to_z-of_z w64 (number_at c.args.frame.now.origin 2) (search rules)) (to_z-of_z w64 c.dot-in-Some-after.result (search rules) ∙ c.dot-in-Some-after.ensures.value) c.in-Some-after-2.along_z _ (to_z-of_z w64 c.in-Some-after-2.along_z (search rules)) c.in-Some-after-2.ensures.value)
