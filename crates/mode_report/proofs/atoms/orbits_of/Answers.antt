use Rattle.std.proofs.Common.{◌∙◌, ap}
use Rattle.iso_text.specs.FileValue.{File}
use Rattle.mode_report.proofs.FoundLemmas.{orbits-held}
use Rattle.mode_report.proofs.atoms.orbits_of.Goals as goal

pub returns-in-Ok : goal.returns-in-Ok
returns-in-Ok c =
    orbits-held c.args.file.now.divided c.quotient.result.now c.atoms.result.now c.in-Ok.orbits c.quotient.ensures (c.atoms.ensures ∙ ap (λ (f : File). f.atoms) c.document.ensures) c.in-Ok.ensures.orbits
    c.in-Ok.ensures.accepted
