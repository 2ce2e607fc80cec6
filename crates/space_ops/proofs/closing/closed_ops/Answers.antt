use Rattle.std.proofs.Common.{◌≡◌, sym, ap, ◌∙◌, subst, false, ℕ, ◌<◌, Err, List, length}
use Rattle.std.proofs.lemmas.Result.{err_from_is_err_and}
use Rattle.space_ops.specs.declared.op.Op.{Op}
use Rattle.space_ops.specs.declared.lattice.Lattice.{Lattice}
use Rattle.space_ops.specs.Words.{op_at}
use Rattle.space_ops.specs.Closing.{AreStepOps, IsClosing, KeepsLattice, LosesLattice}
use Rattle.space_ops.proofs.ClosingLemmas.{identity-start}
use Rattle.space_ops.proofs.ClosedLemmas.{cause-over, not-many, conflict-extra, loses-extra, closed-list}
use Rattle.space_ops.proofs.closing.closed_ops.Goals as goal
use Rattle.space_ops.proofs.closing.closed_ops.Goals.{then-conflict-via-then-conflict, then-conflict-via-else-conflict+then-not-all_keep_lattice}

on_slice : (G : List Op) (L : Lattice) (S S' : List Op) → S' ≡ S → AreStepOps G L (length G) S → AreStepOps G L (length G) S'
on_slice G L S S' e h = subst (AreStepOps G L (length G)) (sym e) h

abbrev Lost : Lattice → List Op → Type 0
Lost L H = (i : ℕ) × (i < length H) × LosesLattice L (op_at H i).rot

lost : (L : Lattice) (D H : List Op) → D ≡ H → Lost L D → Lost L H
lost L D H e k = subst (Lost L) e k

pub hold_all-requires-clause-closing : goal.hold_all-requires-clause-closing
hold_all-requires-clause-closing c =
    subst (λ (H : List Op). IsClosing c.as_slice.result.now c.args.lattice H false 0 0) (sym c.in_ok-ops.ensures.ok) (identity-start c.as_slice.result.now c.args.lattice)

pub returns-in_err-conflict-clause-err : goal.returns-in_err-conflict-clause-err
returns-in_err-conflict-clause-err c =
    let p = err_from_is_err_and c.from_residual-in_err-conflict.result c.from_residual-in_err-conflict.ensures.1 in
    let s = on_slice c.args.generators.now c.args.lattice _ c.as_slice.result.now c.as_slice.ensures.value c.in_ok-steps.ensures.ok in
    rw (p.1, p.2) (cause-over c.args.generators.now c.args.lattice c.as_slice.result.now c.in_err-conflict.field-0.0 c.requires.unimodular s
    (λ e. c.hold_all.ensures.many (c.in_err-conflict.was ∙ ap Err e)) (λ e. c.hold_all.ensures.extra (c.in_err-conflict.was ∙ ap Err e)))

pub returns-then-conflict-clause-err : goal.returns-then-conflict-clause-err
returns-then-conflict-clause-err c =
    let s = on_slice c.args.generators.now c.args.lattice _ c.as_slice.result.now c.as_slice.ensures.value c.in_ok-steps.ensures.ok in (
      not-many c.args.generators.now c.args.lattice c.as_slice.result.now c.hold_all.new.held.items s c.in_ok-conflict.conflict c.in_ok-conflict.ensures.ok,
      elim c.then-conflict.branch [
        | then-conflict-via-then-conflict w ↦
            conflict-extra c.args.generators.now c.args.lattice c.as_slice.result.now c.hold_all.new.held.items s c.in_ok-conflict.conflict c.in_ok-conflict.ensures.ok c.requires.unimodular w.if-conflict.true
        | then-conflict-via-else-conflict+then-not-all_keep_lattice w ↦
            let k = lost c.args.lattice w.deref.result.now c.hold_all.new.held.items w.deref.ensures.value (w.all_keep_lattice.ensures.no w.if-not-all_keep_lattice.true) in
            loses-extra c.args.generators.now c.args.lattice c.as_slice.result.now c.hold_all.new.held.items s c.in_ok-conflict.conflict c.in_ok-conflict.ensures.ok c.requires.unimodular k.0 k.1 k.2
      ],
    )

pub returns-clause-ok : goal.returns-clause-ok
returns-clause-ok c =
    let s = on_slice c.args.generators.now c.args.lattice _ c.as_slice.result.now c.as_slice.ensures.value c.in_ok-steps.ensures.ok in
    closed-list c.args.generators.now c.args.lattice c.as_slice.result.now c.hold_all.new.held.items s c.in_ok-conflict.conflict c.in_ok-conflict.ensures.ok c.if-conflict.false
    (subst (λ (H : List Op). (i : ℕ) → i < length H → KeepsLattice c.args.lattice (op_at H i).rot) c.deref.ensures.value (c.all_keep_lattice.ensures.yes c.if-not-all_keep_lattice.false))
    c.requires.unimodular
