use Rattle.std.proofs.Common.{◌≡◌, ◌∙◌, ℕ, ◌+◌, ◌-◌, ◌<◌, ◌++◌, List, ap, sym, subst, slice_get}
use Rattle.std.specs.Prelude.{codes}
use Rattle.std.proofs.lemmas.Option.{same_Some}
use Rattle.cyclo24.specs.ExactK24.{k24_laws}
use Rattle.lin_alg.specs.Equations.{unit_vector}
use Rattle.mode_report.specs.ModesReport.{mode_text_by}
use Rattle.mode_report.proofs.mode_pieces.site_mode.Goals as goal

pub push_site-requires : goal.push_site-requires
push_site-requires c = subst (λ n. c.site-column.result < n) c.requires.size c.site-column.ensures.below

pub returns : goal.returns
returns c k s =
    let f = mode_text_by c.args.entries c.args.atoms in
    let column = c.site-column.result in
    let place = ap (λ n. slice_get c.args.found.now.sites (c.args.m - n)) (sym c.irrep_modes-irrep.ensures) in
    let same : column ≡ k = same_Some column k (sym c.site-column.ensures.column ∙ sym place ∙ s) in
    c.in_ok-push_site.ensures ∙ ap (λ (t : List ℕ). t ++ f (c.args.m + 1, (codes "site", unit_vector k24_laws column))) c.new-text.ensures
    ∙ ap (λ n. f (c.args.m + 1, (codes "site", unit_vector k24_laws n))) same
