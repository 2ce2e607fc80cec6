use Rattle.std.proofs.Common.{◌∙◌, ap}
use Rattle.iso_text.specs.FileValue.{File}
use Rattle.demo_report.proofs.ChoiceLemmas.{choice-next}
use Rattle.demo_report.proofs.found.demo_found.Goals as goal

pub returns-in-Some : goal.returns-in-Some
returns-in-Some c =
    let irreps = c.irreps.ensures ∙ ap (λ (x : File). x.irreps) c.document.ensures in
    choice-next c.args.number c.args.file.divided c.irreps.result.now irreps c.in-Some.k c.in-Some.ensures c.after_choice.result c.after_choice.ensures
