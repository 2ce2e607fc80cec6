use Rattle.std.proofs.Common.{◌∙◌, ap, ◌++◌, append_assoc, []}
use Rattle.std.specs.Prelude.{codes, decimal}
use Rattle.std.proofs.lemmas.Result.{on_ok_weaker}
use Rattle.cyclo24.specs.ExactK24.{k24_laws}
use Rattle.iso_text.specs.Lines.{line}
use Rattle.lin_alg.specs.Equations.{unit_vector}
use Rattle.mode_report.specs.ModesReport.{moves_by}
use Rattle.mode_report.proofs.mode_text.push_site.Goals as goal

pub returns : goal.returns
returns c =
    let head = line (codes "mode " ++ decimal c.args.number ++ codes " " ++ codes "site") [] in
    on_ok_weaker c.push_unit.result
    (λ e. e ∙ ap (λ t. t ++ moves_by c.args.entries c.args.atoms (unit_vector k24_laws c.args.column)) c.in_ok-push_mode_head.ensures
    ∙ append_assoc c.args.text.now head (moves_by c.args.entries c.args.atoms (unit_vector k24_laws c.args.column))) c.push_unit.ensures
