use Rattle.std.proofs.Common.{◌<◌, ℕ, inl, refl}
use Rattle.cyclo24.specs.ExactZ24.{z24, z24_laws}
use Rattle.cyclo24.specs.Z24.{exact_z24}
use Rattle.lin_alg.specs.Matrix.{entry}
use Rattle.couple.specs.Found.{pair_of}
use Rattle.couple.specs.LinkLaws.{only-zero}
use Rattle.couple.specs.Links.{IsPair, IsZero, IsLink, average}
use Rattle.couple.specs.Wide.{IsWideAverages}
use Rattle.couple.proofs.FoundLemmas.{induced-pair, raised, lowered}
use Rattle.couple.proofs.linking.found_matrix.Goals as goal

pub first_average-requires-clause-lawful : goal.first_average-requires-clause-lawful
first_average-requires-clause-lawful c =
    let q = c.args.quotient.now in
    raised z24 (λ p. IsPair z24_laws p) (pair_of q c.args.left.now c.args.right.now)
    (induced-pair q c.args.left.now c.args.right.now c.dim-n.result c.dim-m.result c.order-order.ensures.group
    c.dim-n.ensures.value (c.dim-n.ensures.multiplies q c.requires.left) (c.dim-n.ensures.identity q c.requires.left)
    c.dim-m.ensures.value (c.dim-m.ensures.multiplies q c.requires.right) (c.dim-m.ensures.identity q c.requires.right))

pub first_average-requires-clause-zero : goal.first_average-requires-clause-zero
first_average-requires-clause-zero c a b la lb = c.in-Ok.ensures.zero a b

pub returns-in-Ok-true-clause-found : goal.returns-in-Ok-true-clause-found
returns-in-Ok-true-clause-found c =
    lowered z24 (λ p. IsLink z24_laws p (entry z24_laws exact_z24 c.first_average.new.sums)) (pair_of c.args.quotient.now c.args.left.now c.args.right.now) (c.in-Ok-true.ensures.found c.in-Ok-true.field-0-test)

pub returns-in-Ok-false-clause-none : goal.returns-in-Ok-false-clause-none
returns-in-Ok-false-clause-none c =
    let q = c.args.quotient.now in
    only-zero z24 (pair_of q c.args.left.now c.args.right.now)
    (induced-pair q c.args.left.now c.args.right.now c.dim-n.result c.dim-m.result c.order-order.ensures.group
    c.dim-n.ensures.value (c.dim-n.ensures.multiplies q c.requires.left) (c.dim-n.ensures.identity q c.requires.left)
    c.dim-m.ensures.value (c.dim-m.ensures.multiplies q c.requires.right) (c.dim-m.ensures.identity q c.requires.right))
    (lowered z24 (λ p. (i j : ℕ) → i < p.rows → j < p.cols → IsZero z24_laws p (average z24_laws p i j)) (pair_of q c.args.left.now c.args.right.now) (c.in-Ok-false.ensures.none c.in-Ok-false.field-0-test))

pub returns-in-Err-first_average-clause-cause : goal.returns-in-Err-first_average-clause-cause
returns-in-Err-first_average-clause-cause c =
    (refl, inl (lowered z24 (λ p. IsWideAverages z24 p) (pair_of c.args.quotient.now c.args.left.now c.args.right.now) c.in-Err-first_average.ensures.wide))
