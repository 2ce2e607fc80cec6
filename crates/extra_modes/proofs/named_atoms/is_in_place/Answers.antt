use Rattle.std.proofs.Common.{◌≡◌, subst, false, true, w64, rules, arith}
use Rattle.std.proofs.lemmas.Int.{to_z-of_z}
use Rattle.std.specs.Prelude.{IsTrue}
use Rattle.space_ops.specs.Op.{number_at, vector_of}
use Rattle.extra_modes.proofs.PlaceLemmas.{along_passed, positive_at, in_place, same_x, same_y, same_z}
use Rattle.extra_modes.proofs.named_atoms.is_in_place.Goals as goal

pub returns-then-not-is_same_along : goal.returns-then-not-is_same_along
returns-then-not-is_same_along c = (
  λ t. absurd (let e : false ≡ true = t in cc),
  λ p.
      subst IsTrue c.if-not-is_same_along.true
      ((along_passed c.is_same_along.result c.args.d 0 _ _ _ _ (to_z-of_z w64 (number_at c.args.x 0) (search rules)) (to_z-of_z w64 (number_at c.args.a 0) (search rules)) c.is_same_along.ensures).1
      (same_x c.args.d (search rules) (vector_of c.args.x) (vector_of c.args.a) p)),
)

pub returns-then-not-is_same_along-2 : goal.returns-then-not-is_same_along-2
returns-then-not-is_same_along-2 c = (
  λ t. absurd (let e : false ≡ true = t in cc),
  λ p.
      subst IsTrue c.if-not-is_same_along-2.true
      ((along_passed c.is_same_along-2.result c.args.d 1 _ _ _ _ (to_z-of_z w64 (number_at c.args.x 1) (search rules)) (to_z-of_z w64 (number_at c.args.a 1) (search rules)) c.is_same_along-2.ensures).1
      (same_y c.args.d (search rules) (vector_of c.args.x) (vector_of c.args.a) p)),
)

pub is_same_along-requires-3-clause-positive : goal.is_same_along-requires-3-clause-positive
is_same_along-requires-3-clause-positive c = positive_at c.args.d (search rules) c.requires.positive 2 (omega arith)

pub returns : goal.returns
returns c =
    let x = along_passed c.is_same_along.result c.args.d 0 _ _ _ _ (to_z-of_z w64 (number_at c.args.x 0) (search rules)) (to_z-of_z w64 (number_at c.args.a 0) (search rules)) c.is_same_along.ensures in
    let y = along_passed c.is_same_along-2.result c.args.d 1 _ _ _ _ (to_z-of_z w64 (number_at c.args.x 1) (search rules)) (to_z-of_z w64 (number_at c.args.a 1) (search rules)) c.is_same_along-2.ensures in
    let z = along_passed c.is_same_along-3.result c.args.d 2 _ _ _ _ (to_z-of_z w64 (number_at c.args.x 2) (search rules)) (to_z-of_z w64 (number_at c.args.a 2) (search rules)) c.is_same_along-3.ensures in (
      λ t. in_place c.args.d (search rules) (vector_of c.args.x) (vector_of c.args.a) (x.0 c.if-not-is_same_along.false) (y.0 c.if-not-is_same_along-2.false) (z.0 t),
      λ p. z.1 (same_z c.args.d (search rules) (vector_of c.args.x) (vector_of c.args.a) p),
    )
