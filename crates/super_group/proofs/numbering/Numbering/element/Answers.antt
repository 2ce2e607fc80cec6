use Rattle.std.proofs.Common.{◌≡◌, sym, ◌∙◌, subst, ◌<◌, ◌%◌, [], length, rules}
use Rattle.space_ops.specs.declared.op.Op.{Op}
use Rattle.space_ops.specs.Op.{op_of}
use Rattle.super_group.specs.Quotient.{SupercellGroup, IsQuotient, order_of, element_of}
use Rattle.super_group.specs.NumberingView.{view_of}
use Rattle.super_group.specs.SupercellLaws.{member-inverse}
use Rattle.super_group.specs.QuotientLaws.{element-member}
use Rattle.std.proofs.lemmas.List.{get_or_default}
use Rattle.super_group.proofs.ElementLemmas.{listed_within, translation_within, element_is, element_small, element_near, element_unimodular, rotation_below, translation_below}
use Rattle.super_group.proofs.numbering.Numbering.element.Goals as goal

pub sum_inside-shift-requires-clause-left : goal.sum_inside-shift-requires-clause-left
sum_inside-shift-requires-clause-left c =
    let count : c.len-count.result ≡ length c.self.inside.translations.items = search rules in
    let l = subst (λ (s : SupercellGroup). c.args.q < order_of s) (sym c.self.view_is) c.requires in
    listed_within (view_of c.self.inside) c.self.invariant.quotient _
    (rotation_below (view_of c.self.inside) c.self.invariant.quotient c.args.q l c.len-count.result count) c.op-listed.result c.op-listed.ensures.value

pub sum_inside-shift-requires-clause-right : goal.sum_inside-shift-requires-clause-right
sum_inside-shift-requires-clause-right c =
    let count : c.len-count.result ≡ length c.self.inside.translations.items = search rules in
    let l = subst (λ (s : SupercellGroup). c.args.q < order_of s) (sym c.self.view_is) c.requires in
    let m = translation_below (view_of c.self.inside) c.self.invariant.quotient c.args.q l c.len-count.result count in
    translation_within (view_of c.self.inside) c.self.invariant.quotient (c.args.q % c.len-count.result) m c.index.result.now
    (c.index.ensures ∙ get_or_default c.self.inside.translations.items (c.args.q % c.len-count.result) c.index.result.now [] m)

pub returns-clause-element : goal.returns-clause-element
returns-clause-element c =
    let count : c.len-count.result ≡ length c.self.inside.translations.items = search rules in
    let l = subst (λ (s : SupercellGroup). c.args.q < order_of s) (sym c.self.view_is) c.requires in
    let m = translation_below (view_of c.self.inside) c.self.invariant.quotient c.args.q l c.len-count.result count in
    subst (λ (s : SupercellGroup). (let o : Op = record { rot = c.op-listed.result.rot; shift = c.sum_inside-shift.result } in o) ≡ op_of (element_of s c.args.q)) c.self.view_is
    (element_is (view_of c.self.inside) c.self.invariant.quotient c.args.q l c.len-count.result count c.op-listed.result c.op-listed.ensures.value c.index.result.now
    (c.index.ensures ∙ get_or_default c.self.inside.translations.items (c.args.q % c.len-count.result) c.index.result.now [] m) c.sum_inside-shift.result c.sum_inside-shift.ensures)

pub returns-clause-member : goal.returns-clause-member
returns-clause-member c = element-member c.args.self.now (subst IsQuotient c.self.view_is c.self.invariant.quotient) c.args.q c.requires

pub returns-clause-back : goal.returns-clause-back
returns-clause-back c =
    member-inverse c.args.self.now (subst IsQuotient c.self.view_is c.self.invariant.quotient) (element_of c.args.self.now c.args.q) (returns-clause-member c)

pub returns-clause-small : goal.returns-clause-small
returns-clause-small c =
    element_small c.args.self.now (subst IsQuotient c.self.view_is c.self.invariant.quotient) c.args.q c.requires (record { rot = c.op-listed.result.rot; shift = c.sum_inside-shift.result })
    (returns-clause-element c)

pub returns-clause-near : goal.returns-clause-near
returns-clause-near c =
    element_near c.args.self.now (subst IsQuotient c.self.view_is c.self.invariant.quotient) c.args.q (record { rot = c.op-listed.result.rot; shift = c.sum_inside-shift.result })
    (returns-clause-element c)

pub returns-clause-unimodular : goal.returns-clause-unimodular
returns-clause-unimodular c =
    element_unimodular c.args.self.now (subst IsQuotient c.self.view_is c.self.invariant.quotient) c.args.q c.requires (record { rot = c.op-listed.result.rot; shift = c.sum_inside-shift.result })
    (returns-clause-element c)
