use Rattle.std.proofs.Common.{◌≡◌, true, false, sym, ◌∙◌}
use Rattle.mode_project.proofs.PivotLemmas.{walk-site, walk-column}
use Rattle.mode_project.proofs.pivots.add_column.Goals as goal

pub returns-then-is_site : goal.returns-then-is_site
returns-then-is_site c =
    let h = c.is_site.ensures.0 c.if-is_site.true in
    walk-site c.args.sites.now c.requires.rising c.args.j c.args.next c.args.columns.now.items c.requires.walk h.0 h.1

pub returns-in-Ok : goal.returns-in-Ok
returns-in-Ok c =
    walk-column c.args.sites.now c.requires.rising c.args.j c.args.next c.args.columns.now.items c.requires.walk
    (λ h. let e : true ≡ false = sym (c.is_site.ensures.1 h) ∙ c.if-is_site.false in absurd cc) c.push.new.self.items c.in-Ok.ensures.items
