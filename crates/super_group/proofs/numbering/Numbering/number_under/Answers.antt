use Rattle.std.proofs.Common.{◌≡◌, sym, ap, ◌∙◌, subst, ◌<◌, ◌+◌, ◌*◌, ℤ, List, length, rules}
use Rattle.space_ops.specs.Op.{seitz_of, matrix_of, vector_of}
use Rattle.space_ops.specs.GroupLaws.{place_of}
use Rattle.super_group.specs.Supercell.{IsSameElement}
use Rattle.super_group.specs.Quotient.{SupercellGroup, IsMember, place_among, element_of, number_of}
use Rattle.super_group.specs.NumberingView.{view_of}
use Rattle.super_group.specs.QuotientParts.{IsRisingList, IsAmong}
use Rattle.super_group.specs.PlaceLaws.{translations-rising}
use Rattle.super_group.proofs.ElementLemmas.{listed_within, rest_among, number_is, number_same}
use Rattle.super_group.proofs.numbering.Numbering.number_under.Goals as goal

pub rest_inside-rest-requires-clause-other : goal.rest_inside-rest-requires-clause-other
rest_inside-rest-requires-clause-other c =
    listed_within (view_of c.self.inside) c.self.invariant.quotient c.args.rotation
    (subst (λ (s : SupercellGroup). c.args.rotation < length s.parent.ops) (sym c.self.view_is) c.requires.below)
    c.op-listed.result c.op-listed.ensures.value

pub place_in-requires-clause-rising : goal.place_in-requires-clause-rising
place_in-requires-clause-rising c =
    let t = c.self.invariant.quotient.translations in
    subst IsRisingList (sym c.deref.ensures.value) (translations-rising c.self.inside.group.lattice c.self.inside.d c.self.inside.translations.items t)

pub place_in-requires-clause-listed : goal.place_in-requires-clause-listed
place_in-requires-clause-listed c =
    let m = subst (λ (s : SupercellGroup). IsMember s (seitz_of c.args.op)) (sym c.self.view_is) c.requires.member in
    let r = subst (λ (s : SupercellGroup). c.args.rotation ≡ place_of s.parent.ops (matrix_of c.args.op.rot)) (sym c.self.view_is) c.requires.place in
    subst (λ (ts : List (List ℤ)). IsAmong ts (vector_of c.rest_inside-rest.result)) (sym c.deref.ensures.value)
    (rest_among (view_of c.self.inside) c.self.invariant.quotient c.args.op m c.args.rotation r c.op-listed.result c.op-listed.ensures.value c.rest_inside-rest.result
    c.rest_inside-rest.ensures)

pub returns-clause-number : goal.returns-clause-number
returns-clause-number c =
    let count : c.len.result ≡ length c.self.inside.translations.items = search rules in
    let m = subst (λ (s : SupercellGroup). IsMember s (seitz_of c.args.op)) (sym c.self.view_is) c.requires.member in
    let r = subst (λ (s : SupercellGroup). c.args.rotation ≡ place_of s.parent.ops (matrix_of c.args.op.rot)) (sym c.self.view_is) c.requires.place in
    subst (λ (s : SupercellGroup). c.args.rotation * c.len.result + c.place_in.result ≡ number_of s (seitz_of c.args.op)) c.self.view_is
    (number_is (view_of c.self.inside) c.self.invariant.quotient c.args.op m c.args.rotation r c.op-listed.result c.op-listed.ensures.value c.rest_inside-rest.result
    c.rest_inside-rest.ensures c.len.result c.place_in.result count
    (c.place_in.ensures.value ∙ ap (λ (ts : List (List ℤ)). place_among ts (vector_of c.rest_inside-rest.result)) c.deref.ensures.value))

pub returns-clause-same : goal.returns-clause-same
returns-clause-same c =
    let count : c.len.result ≡ length c.self.inside.translations.items = search rules in
    let m = subst (λ (s : SupercellGroup). IsMember s (seitz_of c.args.op)) (sym c.self.view_is) c.requires.member in
    let r = subst (λ (s : SupercellGroup). c.args.rotation ≡ place_of s.parent.ops (matrix_of c.args.op.rot)) (sym c.self.view_is) c.requires.place in
    subst (λ (s : SupercellGroup). IsSameElement s.d (element_of s (c.args.rotation * c.len.result + c.place_in.result)) (seitz_of c.args.op)) c.self.view_is
    (number_same (view_of c.self.inside) c.self.invariant.quotient c.args.op m c.args.rotation r c.op-listed.result c.op-listed.ensures.value c.rest_inside-rest.result
    c.rest_inside-rest.ensures c.len.result c.place_in.result count
    (c.place_in.ensures.value ∙ ap (λ (ts : List (List ℤ)). place_among ts (vector_of c.rest_inside-rest.result)) c.deref.ensures.value))
