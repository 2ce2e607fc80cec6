use Rattle.std.proofs.Common.{◌≡◌, ◌<◌, ◌∙◌, ap, sym, subst, ℕ, rules}
use Rattle.cyclo24.specs.Z24.{exact_z24}
use Rattle.super_group.specs.Quotient.{order_of}
use Rattle.induce.specs.Induced.{squares_of}
use Rattle.induce.specs.Tables.{size_in, matrices_in}
use Rattle.induce.specs.Wide.{IsWideIndicator}
use Rattle.induce.proofs.CharacterLemmas.{on_err, squares_more, squares_wide}
use Rattle.induce.proofs.indicator.indicator.Goals as goal

pub loop-q-init : goal.loop-q-init
loop-q-init c = c.zero-sum.ensures

pub bounds-characters-square : goal.bounds-characters-square
bounds-characters-square c = subst (λ (n : ℕ). c.square.result < n) (sym c.requires.count) c.square.ensures.below

pub returns-in_err-sum-clause-wide : goal.returns-in_err-sum-clause-wide
returns-in_err-sum-clause-wide c =
    on_err c.from_residual.result (IsWideIndicator c.args.quotient.now c.args.tables.now.star (size_in c.args.tables.now) (matrices_in c.args.tables.now))
    (squares_wide c.args.quotient.now c.args.tables.now c.args.characters.now c.requires c.loop-q.q c.square.result c.index-characters-square.result (exact_z24 c.loop-q.sum) c.square.ensures.below c.square.ensures.value c.index-characters-square.is c.loop-q.invariant
    (subst (λ (n : ℕ). c.loop-q.q < n) c.order-q-end.ensures.value c.loop-q-test.true) c.in_err-sum.ensures.wide)

pub loop-q-preserved : goal.loop-q-preserved
loop-q-preserved c =
    squares_more c.args.quotient.now c.args.tables.now c.args.characters.now c.requires c.loop-q.q c.square.result c.index-characters-square.result (exact_z24 c.loop-q.sum) c.square.ensures.below c.square.ensures.value c.index-characters-square.is c.loop-q.invariant (exact_z24 c.in_ok-sum.sum)
    c.in_ok-sum.ensures.exact

pub returns-clause-exact : goal.returns-clause-exact
returns-clause-exact c =
    let e : c.loop-q.q ≡ order_of c.args.quotient.now = search rules in
    c.loop-q.invariant ∙ ap (squares_of c.args.quotient.now c.args.tables.now.star (size_in c.args.tables.now) (matrices_in c.args.tables.now)) e
