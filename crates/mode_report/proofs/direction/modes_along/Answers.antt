use Rattle.std.proofs.Common.{◌∙◌, ap}
use Rattle.iso_text.specs.FileValue.{File}
use Rattle.mode_report.proofs.DirectionFormLemmas.{choice-next}
use Rattle.mode_report.proofs.direction.modes_along.Goals as goal

pub returns-in-Some : goal.returns-in-Some
returns-in-Some c =
    let irreps = c.irreps.ensures ∙ ap (λ (x : File). x.irreps) c.document.ensures in
    choice-next c.args.wanted c.args.number c.args.file.divided c.irreps.result.now irreps c.in-Some.k c.in-Some.ensures c.after_choice.result c.after_choice.ensures
