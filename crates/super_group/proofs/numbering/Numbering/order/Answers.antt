use Rattle.std.proofs.Common.{◌≡◌, ◌*◌, ◌≤◌, ◌∙◌, sym, subst, rules}
use Rattle.super_group.specs.Quotient.{SupercellGroup, IsQuotient, order_of}
use Rattle.super_group.specs.QuotientLaws.{quotient-numbered, quotient-lawful}
use Rattle.super_group.specs.CountLaws.{order-cells}
use Rattle.super_group.proofs.numbering.Numbering.order.Goals as goal

pub returns-clause-numbered : goal.returns-clause-numbered
returns-clause-numbered c = quotient-numbered c.args.self.now (subst IsQuotient c.self.view_is c.self.invariant.quotient)

pub returns-clause-group : goal.returns-clause-group
returns-clause-group c = quotient-lawful c.args.self.now (subst IsQuotient c.self.view_is c.self.invariant.quotient)

pub returns-clause-cells : goal.returns-clause-cells
returns-clause-cells c =
    let value : c.len.result * c.len-2.result ≡ order_of c.args.self.now = search rules in
    value ∙ order-cells c.args.self.now (subst IsQuotient c.self.view_is c.self.invariant.quotient)

pub returns-clause-few : goal.returns-clause-few
returns-clause-few c =
    let value : c.len.result * c.len-2.result ≡ order_of c.args.self.now = search rules in
    subst (λ n. n ≤ 6144) (sym value) (subst (λ (s : SupercellGroup). order_of s ≤ 6144) c.self.view_is c.self.invariant.few)
