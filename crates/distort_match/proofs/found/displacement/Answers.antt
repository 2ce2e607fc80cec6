use Rattle.std.proofs.Common.{refl, sym, ap, ◌*◌, w64, rules, arith}
use Rattle.std.proofs.lemmas.Int.{to_z-of_z}
use Rattle.space_ops.specs.Op.{number_at, vector_of}
use Rattle.distort_match.proofs.AlongLemmas.{displaced, along_x, along_y, along_z, along_passed, none_passed, multiplier_at, positive_at, few_at}
use Rattle.distort_match.proofs.found.displacement.Goals as goal

pub displacement_along-requires-in-Some-clause-positive :
    goal.displacement_along-requires-in-Some-clause-positive
displacement_along-requires-in-Some-clause-positive c = positive_at c.args.d (search rules) c.requires.positive 1 (omega arith)

pub displacement_along-requires-in-Some-clause-few :
    goal.displacement_along-requires-in-Some-clause-few
displacement_along-requires-in-Some-clause-few c = few_at c.args.d (search rules) c.requires.few 1 (omega arith)

pub displacement_along-requires-in-Some-displacement_along-clause-positive :
    goal.displacement_along-requires-in-Some-displacement_along-clause-positive
displacement_along-requires-in-Some-displacement_along-clause-positive c = positive_at c.args.d (search rules) c.requires.positive 2 (omega arith)

pub displacement_along-requires-in-Some-displacement_along-clause-few :
    goal.displacement_along-requires-in-Some-displacement_along-clause-few
displacement_along-requires-in-Some-displacement_along-clause-few c = few_at c.args.d (search rules) c.requires.few 2 (omega arith)

pub returns-in-None : goal.returns-in-None
returns-in-None c v h =
    none_passed _ _ _ _ _ _ _ _ (ap (λ n. 12000000 * n) (multiplier_at c.args.d (search rules) 0 (omega arith))) (to_z-of_z w64 c.args.tolerance c.ranges.tolerance) (to_z-of_z w64 (number_at c.args.x 0) (search rules)) (to_z-of_z w64 (number_at c.args.a 0) (search rules))
    c.in-None.ensures v.x (along_x c.args.d c.args.tolerance (vector_of c.args.x) (vector_of c.args.a) v h)

pub returns-in-None-displacement_along : goal.returns-in-None-displacement_along
returns-in-None-displacement_along c v h =
    none_passed _ _ _ _ _ _ _ _ (ap (λ n. 12000000 * n) (multiplier_at c.args.d (search rules) 1 (omega arith))) (to_z-of_z w64 c.args.tolerance c.ranges.tolerance) (to_z-of_z w64 (number_at c.args.x 1) (search rules)) (to_z-of_z w64 (number_at c.args.a 1) (search rules))
    c.in-None-displacement_along.ensures v.y (along_y c.args.d c.args.tolerance (vector_of c.args.x) (vector_of c.args.a) v h)

pub returns-in-None-displacement_along-2 : goal.returns-in-None-displacement_along-2
returns-in-None-displacement_along-2 c v h =
    none_passed _ _ _ _ _ _ _ _ (ap (λ n. 12000000 * n) (multiplier_at c.args.d (search rules) 2 (omega arith))) (to_z-of_z w64 c.args.tolerance c.ranges.tolerance) (to_z-of_z w64 (number_at c.args.x 2) (search rules)) (to_z-of_z w64 (number_at c.args.a 2) (search rules))
    c.in-None-displacement_along-2.ensures v.z (along_z c.args.d c.args.tolerance (vector_of c.args.x) (vector_of c.args.a) v h)

pub returns-in-Some-displacement_along-2 : goal.returns-in-Some-displacement_along-2
returns-in-Some-displacement_along-2 c = (
  displaced c.args.d c.args.tolerance (vector_of c.args.x) (vector_of c.args.a) _
      (along_passed _ _ _ _ _ _ _ _ (ap (λ n. 12000000 * n) (multiplier_at c.args.d (search rules) 0 (omega arith))) (to_z-of_z w64 c.args.tolerance c.ranges.tolerance) (to_z-of_z w64 (number_at c.args.x 0) (search rules)) (to_z-of_z w64 (number_at c.args.a 0) (search rules)) c.in-Some.along_x _
      (sym (to_z-of_z w64 c.in-Some.along_x (search rules))) c.in-Some.ensures)
      (along_passed _ _ _ _ _ _ _ _ (ap (λ n. 12000000 * n) (multiplier_at c.args.d (search rules) 1 (omega arith))) (to_z-of_z w64 c.args.tolerance c.ranges.tolerance) (to_z-of_z w64 (number_at c.args.x 1) (search rules)) (to_z-of_z w64 (number_at c.args.a 1) (search rules)) c.in-Some-displacement_along.along_y _
      (sym (to_z-of_z w64 c.in-Some-displacement_along.along_y (search rules))) c.in-Some-displacement_along.ensures)
      (along_passed _ _ _ _ _ _ _ _ (ap (λ n. 12000000 * n) (multiplier_at c.args.d (search rules) 2 (omega arith))) (to_z-of_z w64 c.args.tolerance c.ranges.tolerance) (to_z-of_z w64 (number_at c.args.x 2) (search rules)) (to_z-of_z w64 (number_at c.args.a 2) (search rules)) c.in-Some-displacement_along-2.along_z _
      (sym (to_z-of_z w64 c.in-Some-displacement_along-2.along_z (search rules))) c.in-Some-displacement_along-2.ensures),
  refl,
)
