use Rattle.std.proofs.Common.{◌∙◌, ◌<◌, ap, sym, subst}
use Rattle.std.proofs.lemmas.List.{get_or_default}
use Rattle.super_group.specs.Quotient.{SupercellGroup, order_of, quotient_group}
use Rattle.super_group.proofs.quotient.Quotient.square.Goals as goal

pub returns-clause-value : goal.returns-clause-value
returns-clause-value c =
    let l = subst (λ (s : SupercellGroup). c.args.q < order_of s) (sym c.self.view_is) c.requires in
    let m = subst (λ n. c.args.q < n) (sym c.self.invariant.count) l in
    c.from.ensures ∙ c.index.ensures ∙ get_or_default c.self.inside.squares.items c.args.q c.index.result.now 0 m ∙ c.self.invariant.each c.args.q l
    ∙ ap (λ (s : SupercellGroup). (quotient_group s).product c.args.q c.args.q) c.self.view_is

pub returns-clause-below : goal.returns-clause-below
returns-clause-below c =
    subst (λ n. n < order_of c.args.self.now) (sym (returns-clause-value c)) (c.order-order.ensures.group.product_below c.args.q c.args.q c.requires c.requires)
