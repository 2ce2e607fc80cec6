use Rattle.std.proofs.Common.{◌∙◌, ap}
use Rattle.mode_report.specs.AllModes.{name_at}
use Rattle.amp_report.proofs.TextLemmas.{irrep-name, site-name}
use Rattle.amp_report.proofs.orbit_text.mode_name.Goals as goal

pub returns-in-Some : goal.returns-in-Some
returns-in-Some c =
    let found = c.args.found.now in
    let k = c.in-Some.ensures in
    c.name_of.ensures ∙ ap (name_at c.args.irreps.now) k.1 ∙ irrep-name c.args.irreps.now found.rows found.sites c.args.m k.0

pub returns-in-None : goal.returns-in-None
returns-in-None c = site-name c.args.irreps.now c.args.found.now.rows c.args.found.now.sites c.args.m c.in-None.ensures c.requires
