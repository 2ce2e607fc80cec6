use Rattle.std.proofs.Common.{All, Err, ◌∙◌, sym, ap, subst}
use Rattle.super_group.specs.Multipliers.{AreDenominators}
use Rattle.iso_text.specs.Ranges.{IsBlock}
use Rattle.report_steps.specs.declared.refusal.Refusal.TheVariants as refusal
use Rattle.report_steps.specs.Contexts.{Parented, Divided}
use Rattle.report_steps.specs.Held.{IsStarHeld}
use Rattle.report_steps.specs.IrrepSteps.{Each}
use Rattle.report_steps.specs.Stages.{RefusesOrder, IsDivided}
use Rattle.report_steps.proofs.HeldLemmas.{stars-blocks, is-too-large, is-divided, are-celled}
use Rattle.report_steps.proofs.WaveLemmas.{dens_of, are-denominators}
use Rattle.report_steps.proofs.division.divide.Goals as goal

pub denominators_of-requires : goal.denominators_of-requires
denominators_of-requires c =
    let p = c.args.starred.parented in
    subst (All IsBlock) (sym (c.irreps.ensures ∙ ap (λ (x : Parented). x.file.irreps) c.parented.view_is)) (stars-blocks p.parent p.file.irreps c.args.starred.stars.items c.requires)

pub multipliers-d-requires : goal.multipliers-d-requires
multipliers-d-requires c =
    let p = c.args.starred.parented in
    let listed = c.deref.ensures.value ∙ c.in_ok-dens.ensures ∙ ap dens_of (c.irreps.ensures ∙ ap (λ (x : Parented). x.file.irreps) c.parented.view_is) in
    subst AreDenominators (sym listed) (are-denominators p.file.irreps (stars-blocks p.parent p.file.irreps c.args.starred.stars.items c.requires))

pub returns-in-Ok : goal.returns-in-Ok
returns-in-Ok c =
    let file = c.parented.inside.document in
    let group = c.parented.inside.group in
    let q = c.in-Ok.quotient in
    let stars = c.args.starred.stars.items in
    let dens = c.deref.result.now in
    let d = c.multipliers-d.result in
    let listed = c.deref.ensures.value ∙ c.in_ok-dens.ensures ∙ ap dens_of c.irreps.ensures in
    let m = c.multipliers-d.ensures.multipliers in
    let new = c.in-Ok.ensures in
    let H : Parented → Type 0 = λ p. Each (IsStarHeld p.parent) p.file.irreps stars in
    let held = subst H (sym c.parented.view_is) c.requires in
    let divided : Divided = record { file = file; quotient = q } in
    let P : Parented → Type 0 = λ p. IsDivided p divided in
    (subst P c.parented.view_is (is-divided file group dens d q listed m new.group new.d new.quotient new.small), are-celled file group dens d q listed m new.group new.d new.quotient stars held)

pub returns-in-Err-TooLargeGroup : goal.returns-in-Err-TooLargeGroup
returns-in-Err-TooLargeGroup c =
    let file = c.parented.inside.document in
    let group = c.parented.inside.group in
    let order = c.in-Err-TooLargeGroup.order in
    let listed = c.deref.ensures.value ∙ c.in_ok-dens.ensures ∙ ap dens_of c.irreps.ensures in
    let large = c.in-Err-TooLargeGroup.ensures.large order (ap Err c.in-Err-TooLargeGroup.field-0-is) in
    let P : Parented → Type 0 = λ p. RefusesOrder p (refusal.TooLargeGroup order) in
    subst P c.parented.view_is (is-too-large file group c.deref.result.now c.multipliers-d.result order listed c.multipliers-d.ensures.multipliers large.0 large.1)
