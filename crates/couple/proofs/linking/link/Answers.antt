use Rattle.couple.proofs.FoundLemmas.{some-of, induced-pair, rank-link, rank-cause}
use Rattle.couple.proofs.linking.link.Goals as goal

pub returns-in-Ok-Some-clause-link : goal.returns-in-Ok-Some-clause-link
returns-in-Ok-Some-clause-link c =
    let q = c.args.quotient.now in
    rank-link q c.args.left.now c.args.right.now
    (induced-pair q c.args.left.now c.args.right.now c.dim-rows.result c.dim-cols.result c.order-order.ensures.group
    c.dim-rows.ensures.value (c.dim-rows.ensures.multiplies q c.requires.left) (c.dim-rows.ensures.identity q c.requires.left)
    c.dim-cols.ensures.value (c.dim-cols.ensures.multiplies q c.requires.right) (c.dim-cols.ensures.identity q c.requires.right))
    c.in-Ok-Some.matrix
    (some-of c.in-Ok-Some.field-0 c.in-Ok-Some.matrix _ c.in-Ok-Some.field-0-is c.in-Ok-Some.ensures.rows)
    (some-of c.in-Ok-Some.field-0 c.in-Ok-Some.matrix _ c.in-Ok-Some.field-0-is c.in-Ok-Some.ensures.cols)
    (some-of c.in-Ok-Some.field-0 c.in-Ok-Some.matrix _ c.in-Ok-Some.field-0-is c.in-Ok-Some.ensures.found)
    c.with_rank.result c.with_rank.ensures.found

pub returns-in-Ok-Some-clause-cause : goal.returns-in-Ok-Some-clause-cause
returns-in-Ok-Some-clause-cause c =
    let q = c.args.quotient.now in
    rank-cause q c.args.left.now c.args.right.now
    (induced-pair q c.args.left.now c.args.right.now c.dim-rows.result c.dim-cols.result c.order-order.ensures.group
    c.dim-rows.ensures.value (c.dim-rows.ensures.multiplies q c.requires.left) (c.dim-rows.ensures.identity q c.requires.left)
    c.dim-cols.ensures.value (c.dim-cols.ensures.multiplies q c.requires.right) (c.dim-cols.ensures.identity q c.requires.right))
    c.in-Ok-Some.matrix
    (some-of c.in-Ok-Some.field-0 c.in-Ok-Some.matrix _ c.in-Ok-Some.field-0-is c.in-Ok-Some.ensures.rows)
    (some-of c.in-Ok-Some.field-0 c.in-Ok-Some.matrix _ c.in-Ok-Some.field-0-is c.in-Ok-Some.ensures.cols)
    (some-of c.in-Ok-Some.field-0 c.in-Ok-Some.matrix _ c.in-Ok-Some.field-0-is c.in-Ok-Some.ensures.found)
    c.with_rank.result c.with_rank.ensures.cause
