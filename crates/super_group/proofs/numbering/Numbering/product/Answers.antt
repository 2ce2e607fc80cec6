use Rattle.std.proofs.Common.{sym, ap, ◌∙◌, subst}
use Rattle.space_ops.specs.WordLaws.{word-product}
use Rattle.space_ops.specs.GroupLaws.{place_of}
use Rattle.super_group.specs.Supercell.{IsSameElement}
use Rattle.super_group.specs.Quotient.{IsMember, element_of, number_of}
use Rattle.super_group.proofs.ElementLemmas.{composed_is, composed_rotation}
use Rattle.super_group.proofs.numbering.Numbering.product.Goals as goal

pub number_under-requires-clause-member : goal.number_under-requires-clause-member
number_under-requires-clause-member c =
    subst (IsMember c.args.self.now)
    (sym (composed_is (element_of c.args.self.now c.args.a) (element_of c.args.self.now c.args.b) c.element-left.result c.element-right.result c.compose.result c.element-left.ensures.element c.element-right.ensures.element c.compose.ensures.product))
    (word-product c.args.self.now.parent.generators c.args.self.now.parent.lattice (element_of c.args.self.now c.args.a) (element_of c.args.self.now c.args.b) c.element-left.ensures.member c.element-right.ensures.member)

pub number_under-requires-clause-place : goal.number_under-requires-clause-place
number_under-requires-clause-place c =
    c.rotation_product.ensures.place
    ∙ ap (place_of c.args.self.now.parent.ops)
    (sym (composed_rotation c.args.self.now c.args.a c.args.b c.element-left.result c.element-right.result c.compose.result c.element-left.ensures.element c.element-right.ensures.element
    c.compose.ensures.product))

pub returns-clause-product : goal.returns-clause-product
returns-clause-product c =
    c.number_under.ensures.number
    ∙ ap (number_of c.args.self.now)
    (composed_is (element_of c.args.self.now c.args.a) (element_of c.args.self.now c.args.b) c.element-left.result c.element-right.result c.compose.result c.element-left.ensures.element c.element-right.ensures.element c.compose.ensures.product)

pub returns-clause-same : goal.returns-clause-same
returns-clause-same c =
    subst (IsSameElement c.args.self.now.d (element_of c.args.self.now c.number_under.result))
    (composed_is (element_of c.args.self.now c.args.a) (element_of c.args.self.now c.args.b) c.element-left.result c.element-right.result c.compose.result c.element-left.ensures.element c.element-right.ensures.element c.compose.ensures.product)
    c.number_under.ensures.same
