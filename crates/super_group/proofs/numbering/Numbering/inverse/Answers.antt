use Rattle.std.proofs.Common.{sym, ap, ◌∙◌, subst}
use Rattle.super_group.specs.Supercell.{IsSameElement}
use Rattle.super_group.specs.Quotient.{IsMember, element_of, number_of}
use Rattle.super_group.proofs.ElementLemmas.{inverted_is}
use Rattle.super_group.proofs.numbering.Numbering.inverse.Goals as goal

pub number-requires : goal.number-requires
number-requires c =
    subst (IsMember c.args.self.now)
    (sym (inverted_is (element_of c.args.self.now c.args.a) c.element-element.result c.inverse.result c.element-element.ensures.element c.inverse.ensures.inverse))
    c.element-element.ensures.back

pub returns-clause-inverse : goal.returns-clause-inverse
returns-clause-inverse c =
    c.number.ensures.number
    ∙ ap (number_of c.args.self.now)
    (inverted_is (element_of c.args.self.now c.args.a) c.element-element.result c.inverse.result c.element-element.ensures.element c.inverse.ensures.inverse)

pub returns-clause-same : goal.returns-clause-same
returns-clause-same c =
    subst (IsSameElement c.args.self.now.d (element_of c.args.self.now c.number.result))
    (inverted_is (element_of c.args.self.now c.args.a) c.element-element.result c.inverse.result c.element-element.ensures.element c.inverse.ensures.inverse)
    c.number.ensures.same
