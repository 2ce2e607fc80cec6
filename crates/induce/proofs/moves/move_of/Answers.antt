use Rattle.std.proofs.Common.{◌≡◌, ◌<◌, ◌≤◌, ◌*◌, ◌∙◌, ap, sym, subst, ℕ, false, length, below_more, rules, arith}
use Rattle.super_group.specs.Quotient.{order_of, quotient_group, number_of, element_of}
use Rattle.induce.specs.Induced.{is_block, representative}
use Rattle.induce.proofs.ArmLemmas.{forth_below}
use Rattle.induce.proofs.MoveLemmas.{operation_below, no_block}
use Rattle.induce.proofs.moves.move_of.Goals as goal

pub overflow_mul-number : goal.overflow_mul-number
overflow_mul-number c =
    let l : c.args.r * length c.args.quotient.now.translations < order_of c.args.quotient.now = operation_below c.args.quotient.now c.args.star.now c.requires.star c.args.r c.requires.operation in
    let m : c.args.r * length c.translations.result.now < order_of c.args.quotient.now = subst (λ (n : ℕ). c.args.r * n < order_of c.args.quotient.now) (sym (ap length c.translations.ensures)) l in
    search rules

pub product-moved-requires-clause-left : goal.product-moved-requires-clause-left
product-moved-requires-clause-left c =
    subst (λ (n : ℕ). c.args.r * n < order_of c.args.quotient.now) (sym (ap length c.translations.ensures)) (operation_below c.args.quotient.now c.args.star.now c.requires.star c.args.r c.requires.operation)

pub product-moved-requires-clause-right : goal.product-moved-requires-clause-right
product-moved-requires-clause-right c = forth_below c.args.quotient.now c.requires.star.quotient c.args.star.now c.requires.star.star c.args.arms.now c.requires.arms c.args.i c.requires.column

pub loop-j-preserved : goal.loop-j-preserved
loop-j-preserved c =
    let n : c.args.r * length c.translations.result.now ≡ c.args.r * length c.args.quotient.now.translations = ap (λ k. c.args.r * k) (ap length c.translations.ensures) in
    let m : c.product-moved.result ≡ (quotient_group c.args.quotient.now).product (c.args.r * length c.args.quotient.now.translations) (number_of c.args.quotient.now (representative c.args.quotient.now.parent c.args.star.now c.args.i)) =
    c.product-moved.ensures.product ∙ (λ t. (quotient_group c.args.quotient.now).product (n t) (c.requires.arms.forth c.args.i c.requires.column t)) in
    below_more (λ k. is_block c.args.quotient.now.parent c.args.star.now (element_of c.args.quotient.now (c.args.r * length c.args.quotient.now.translations)) k c.args.i ≡ false) c.loop-j.j c.loop-j.invariant
    (c.in_default.ensures (c.args.r * length c.args.quotient.now.translations) c.args.i (operation_below c.args.quotient.now c.args.star.now c.requires.star c.args.r c.requires.operation) c.requires.column m)

pub returns-in-Some : goal.returns-in-Some
returns-in-Some c =
    let n : c.args.r * length c.translations.result.now ≡ c.args.r * length c.args.quotient.now.translations = ap (λ k. c.args.r * k) (ap length c.translations.ensures) in
    let m : c.product-moved.result ≡ (quotient_group c.args.quotient.now).product (c.args.r * length c.args.quotient.now.translations) (number_of c.args.quotient.now (representative c.args.quotient.now.parent c.args.star.now c.args.i)) =
    c.product-moved.ensures.product ∙ (λ t. (quotient_group c.args.quotient.now).product (n t) (c.requires.arms.forth c.args.i c.requires.column t)) in
    (c.in-Some.ensures (c.args.r * length c.args.quotient.now.translations) c.args.i (operation_below c.args.quotient.now c.args.star.now c.requires.star c.args.r c.requires.operation) c.requires.column m).1

pub unreachable-requires : goal.unreachable-requires
unreachable-requires c =
    no_block c.args.quotient.now c.args.star.now c.requires.star c.args.r c.args.i c.requires.operation c.requires.column
    (λ j lj. c.loop-j.invariant j (let e : length c.args.star.now.by ≤ c.loop-j.j = search rules in omega (arith, lj, e)))
