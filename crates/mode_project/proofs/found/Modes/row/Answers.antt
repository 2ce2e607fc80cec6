use Rattle.std.proofs.Common.{◌<◌, ◌∙◌, ap, sym, subst, length}
use Rattle.mode_project.specs.ModesView.{ModesView}
use Rattle.mode_project.proofs.FoundLemmas.{held-long}
use Rattle.mode_project.proofs.found.Modes.row.Goals as goal

pub returns-clause-long : goal.returns-clause-long
returns-clause-long c =
    let s = c.self.inside in
    ap length c.deref.ensures.value
    ∙ held-long s.size s.rows.items c.args.m c.index.result.now (subst (λ (v : ModesView). c.args.m < length v.rows) (sym c.self.view_is) c.requires) c.self.invariant.long c.index.ensures
    ∙ ap (λ (v : ModesView). v.size) c.self.view_is
