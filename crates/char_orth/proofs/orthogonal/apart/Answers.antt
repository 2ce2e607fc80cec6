use Rattle.std.proofs.Common.{◌∙◌}
use Rattle.cyclo24.specs.ExactK24.{k24}
use Rattle.cyclo24.specs.K24.{exact24}
use Rattle.super_group.specs.Quotient.{order_of, quotient_group}
use Rattle.super_group.specs.QuotientLaws.{quotient-lawful}
use Rattle.induce.specs.Apart.{weights_by}
use Rattle.char_orth.specs.Wide.{IsWideApart}
use Rattle.char_orth.proofs.ApartLemmas.{on-err, given-sum, given-wide, decided, wide-apart}
use Rattle.char_orth.proofs.InducedLemmas.{weights-decide, weights-even}
use Rattle.char_orth.proofs.orthogonal.apart.Goals as goal

pub returns-in_err-sum-clause-wide : goal.returns-in_err-sum-clause-wide
returns-in_err-sum-clause-wide c =
    let q = c.args.quotient.now in
    let v = c.args.left.now in
    let u = c.args.right.now in
    let law = quotient-lawful q c.requires.left.tables.inducible.on.quotient in
    on-err c.from_residual.result (IsWideApart k24 (quotient_group q) (weights_by v) (weights_by u))
    (wide-apart k24 (quotient_group q) law (weights_by v) (weights_by u) (weights-even q u c.requires.right)
    (given-wide k24 exact24 v.weights u.weights c.weights.result.now c.weights-2.result.now c.weights.ensures c.weights-2.ensures (order_of q) c.requires.left.count c.in_err-sum.ensures.wide))

pub returns-clause-exact : goal.returns-clause-exact
returns-clause-exact c =
    let q = c.args.quotient.now in
    let v = c.args.left.now in
    let u = c.args.right.now in
    let law = quotient-lawful q c.requires.left.tables.inducible.on.quotient in
    decided k24 (quotient_group q) law (weights_by v) (weights_by u) (weights-even q u c.requires.right) c.is_zero.result (exact24 c.in_ok-sum.sum) c.is_zero.ensures
    (c.in_ok-sum.ensures.exact ∙ given-sum k24 exact24 v.weights u.weights c.weights.result.now c.weights-2.result.now c.weights.ensures c.weights-2.ensures (order_of q) c.requires.left.count)
    (weights-even q v c.requires.left) (weights-decide q v u c.requires.left c.requires.right)
