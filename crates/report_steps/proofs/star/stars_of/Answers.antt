use Rattle.std.proofs.Common.{All, ◌∙◌, refl, sym, ap, subst}
use Rattle.iso_text.specs.Ranges.{IsBlock}
use Rattle.report_steps.specs.Contexts.{Parented}
use Rattle.report_steps.specs.Held.{IsStarHeld}
use Rattle.report_steps.proofs.EachLemmas.{each-moved}
use Rattle.report_steps.proofs.HeldLemmas.{stars-phases}
use Rattle.report_steps.proofs.star.stars_of.Goals as goal

pub all_stars-requires : goal.all_stars-requires
all_stars-requires c = subst (All IsBlock) (sym (c.irreps.ensures ∙ ap (λ (p : Parented). p.file.irreps) c.parented.view_is)) c.requires.irreps.each

pub returns-in-Passed : goal.returns-in-Passed
returns-in-Passed c =
    let p = c.args.parented in
    let stars = c.in-Passed.stars.items in
    let all = rw c.in-Passed.is at c.in_ok-stars.ensures in
    let held = each-moved IsStarHeld c.parented.inside.group p.parent c.irreps.result.now p.file.irreps stars (ap (λ (x : Parented). x.parent) c.parented.view_is)
    (c.irreps.ensures ∙ ap (λ (x : Parented). x.file.irreps) c.parented.view_is) all in
    ((stars-phases p.parent p.file.irreps stars held, refl), held)
