use Rattle.std.proofs.Common.{◌≡◌, ℕ, sym, ap, ◌∙◌, subst, [], ◌<◌, List, map, length, get_or}
use Rattle.std.proofs.lemmas.List.{take_all}
use Rattle.space_ops.specs.declared.op.Op.{Op}
use Rattle.space_ops.specs.Op.{seitz_of}
use Rattle.algebra.specs.NumberedGroup.{IsGenerated}
use Rattle.super_group.specs.Quotient.{SupercellGroup, IsQuotient, IsMember, order_of, number_of, quotient_group, generators_of}
use Rattle.super_group.specs.GeneratorLaws.{generators-below, generators-generate}
use Rattle.super_group.specs.QuotientParts.{motion_ops}
use Rattle.super_group.proofs.MotionLemmas.{motion-member, numbers-motions}
use Rattle.super_group.proofs.numbering.Numbering.generators.Goals as goal

pub number-requires : goal.number-requires
number-requires c =
    let e : c.as_slice-motion-items.result.now ≡ motion_ops c.args.self.now.parent =
    c.as_slice-motion-items.ensures.value ∙ c.motions_in-motions.ensures ∙ ap (λ (s : SupercellGroup). motion_ops s.parent) c.self.view_is in
    let none : Op = record { rot = []; shift = [] } in
    subst (λ (ops : List Op). IsMember c.args.self.now (seitz_of (get_or ops c.loop-motion.motion-index none))) (sym e)
    (motion-member c.args.self.now c.loop-motion.motion-index none (subst (λ (ops : List Op). c.loop-motion.motion-index < length ops) e c.loop-motion-test.true))

pub returns : goal.returns
returns c =
    let e : c.as_slice-motion-items.result.now ≡ motion_ops c.args.self.now.parent =
    c.as_slice-motion-items.ensures.value ∙ c.motions_in-motions.ensures ∙ ap (λ (s : SupercellGroup). motion_ops s.parent) c.self.view_is in
    let listed : c.loop-motion.numbers.items ≡ generators_of c.args.self.now =
    c.loop-motion.invariant ∙ ap (map (λ op. number_of c.args.self.now (seitz_of op))) (take_all c.loop-motion.motion-index c.as_slice-motion-items.result.now c.loop-motion-test.false ∙ e) ∙ numbers-motions c.args.self.now in
    record {
      numbers = listed;
      below = subst (λ (is : List ℕ). (i : ℕ) → i < length is → get_or is i 0 < order_of c.args.self.now) (sym listed)
          (generators-below c.args.self.now (subst IsQuotient c.self.view_is c.self.invariant.quotient));
      generate = subst (λ (is : List ℕ). IsGenerated (quotient_group c.args.self.now) (length is) (λ i. get_or is i 0)) (sym listed) (generators-generate c.args.self.now (subst IsQuotient c.self.view_is c.self.invariant.quotient));
    }
