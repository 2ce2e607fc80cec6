use Rattle.std.proofs.Common.{◌≡◌, subst, ap, ◌∙◌, ℕ, ◌<◌, List, length, get_or, arith}
use Rattle.std.proofs.lemmas.List.{get_or_default}
use Rattle.space_ops.specs.declared.op.Op.{Op}
use Rattle.algebra.specs.Whole.{whole}
use Rattle.space_ops.specs.Seitz.{seitz_product}
use Rattle.space_ops.specs.Op.{seitz_of, identity_op, IsSmallMatrix}
use Rattle.space_ops.specs.Words.{op_at}
use Rattle.space_ops.specs.LeastShift.{IsInCell, IsLeastOp}
use Rattle.space_ops.specs.Closing.{IsClosing}
use Rattle.space_ops.proofs.ClosingLemmas.{next, many, row-done}
use Rattle.space_ops.proofs.closing.hold_products.Goals as goal

pub least_product-product-requires-clause-right : goal.least_product-product-requires-clause-right
least_product-product-requires-clause-right c =
    let k = c.loop-step.step-index in
    subst (λ (o : Op). IsSmallMatrix (seitz_of o).rot) (get_or_default c.args.steps.now k identity_op _ c.loop-step-test.true) (c.requires.small k c.loop-step-test.true)

pub least_product-product-requires-clause-right_cell : goal.least_product-product-requires-clause-right_cell
least_product-product-requires-clause-right_cell c =
    let k = c.loop-step.step-index in
    subst (λ (o : Op). IsInCell (seitz_of o).shift) (get_or_default c.args.steps.now k identity_op _ c.loop-step-test.true) (c.requires.in_cell k c.loop-step-test.true)

-- the product that was formed is that of a held operation and a step
formed : (H D S : List Op) (n k : ℕ) (h x d : Op) (L : _) → D ≡ H → h ≡ get_or D n identity_op → k < length S
    → IsLeastOp L (seitz_product whole (seitz_of h) (seitz_of (get_or S k d))) x → IsLeastOp L (seitz_product whole (op_at H n) (op_at S k)) x
formed H D S n k h x d L p q l f =
    subst (λ g. IsLeastOp L g x)
    (λ i. seitz_product whole (seitz_of ((q ∙ ap (λ (xs : List Op). get_or xs n identity_op) p) i)) (seitz_of (get_or_default S k d identity_op l i))) f

pub returns-in-Err-clause-many : goal.returns-in-Err-clause-many
returns-in-Err-clause-many c e =
    let H = c.loop-step.held.items in
    let k = c.loop-step.step-index in
    let l : c.args.next < length H = omega (arith, c.requires.place, c.loop-step.invariant.grown) in
    many c.args.steps.now c.args.lattice H c.loop-step.conflicts c.args.next k c.least_product-product.result c.loop-step.invariant.closing l c.loop-step-test.true
    (formed H _ c.args.steps.now c.args.next k c.op_in.result c.least_product-product.result _ c.args.lattice c.deref.ensures.value c.op_in.ensures c.loop-step-test.true c.least_product-product.ensures.least)
    (c.in-Err.ensures.many e)

pub loop-step-preserved : goal.loop-step-preserved
loop-step-preserved c =
    let H = c.loop-step.held.items in
    let k = c.loop-step.step-index in
    let l : c.args.next < length H = omega (arith, c.requires.place, c.loop-step.invariant.grown) in
    let m =
    next c.args.steps.now c.args.lattice c.requires.unimodular H c.hold.new.held.items c.loop-step.conflicts c.in-Ok.differs c.either-conflicts.result c.args.next k c.least_product-product.result
    c.either-conflicts.ensures.no c.either-conflicts.ensures.yes c.loop-step.invariant.closing l c.loop-step-test.true
    (formed H _ c.args.steps.now c.args.next k c.op_in.result c.least_product-product.result _ c.args.lattice c.deref.ensures.value c.op_in.ensures c.loop-step-test.true c.least_product-product.ensures.least)
    c.least_product-product.ensures.shaped c.in-Ok.ensures.ok in
    record { closing = m.0; grown = omega (arith, m.1, c.loop-step.invariant.grown) }

pub returns-clause-ok : goal.returns-clause-ok
returns-clause-ok c =
    let e : c.loop-step.step-index ≡ length c.args.steps.now = omega (arith, c.loop-step-test.false, c.loop-step.auto.step-index-end) in (
      row-done c.args.steps.now c.args.lattice c.loop-step.held.items c.loop-step.conflicts c.args.next
          (subst (λ k. IsClosing c.args.steps.now c.args.lattice c.loop-step.held.items c.loop-step.conflicts c.args.next k) e c.loop-step.invariant.closing),
      c.loop-step.invariant.grown,
    )
