use Rattle.std.proofs.Common.{◌≡◌, ◌<◌, ◌/◌, sym, subst, length, rules}
use Rattle.space_ops.specs.GroupLaws.{rotation_group}
use Rattle.super_group.specs.Quotient.{SupercellGroup, order_of}
use Rattle.super_group.specs.NumberingView.{view_of}
use Rattle.super_group.proofs.TableLemmas.{table_entry}
use Rattle.super_group.proofs.numbering.Numbering.rotation_product.Goals as goal

pub returns-clause-place : goal.returns-clause-place
returns-clause-place c =
    let count : c.len-count.result ≡ length c.self.inside.translations.items = search rules in
    let l = subst (λ (s : SupercellGroup). c.args.a < order_of s) (sym c.self.view_is) c.requires.left in
    let m = subst (λ (s : SupercellGroup). c.args.b < order_of s) (sym c.self.view_is) c.requires.right in
    subst (λ (s : SupercellGroup). c.from.result ≡ (rotation_group s.parent.ops).product (c.args.a / length s.translations) (c.args.b / length s.translations)) c.self.view_is
    (table_entry (view_of c.self.inside) c.self.invariant.quotient c.self.inside.products c.self.invariant.products c.args.a c.args.b l m c.len-count.result count c.from.result c.from.ensures).0

pub returns-clause-below : goal.returns-clause-below
returns-clause-below c =
    let count : c.len-count.result ≡ length c.self.inside.translations.items = search rules in
    let l = subst (λ (s : SupercellGroup). c.args.a < order_of s) (sym c.self.view_is) c.requires.left in
    let m = subst (λ (s : SupercellGroup). c.args.b < order_of s) (sym c.self.view_is) c.requires.right in
    subst (λ (s : SupercellGroup). c.from.result < length s.parent.ops) c.self.view_is
    (table_entry (view_of c.self.inside) c.self.invariant.quotient c.self.inside.products c.self.invariant.products c.args.a c.args.b l m c.len-count.result count c.from.result c.from.ensures).1
