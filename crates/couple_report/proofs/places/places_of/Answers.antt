use Rattle.std.proofs.Common.{◌∙◌, ap}
use Rattle.iso_text.specs.FileValue.{File}
use Rattle.couple_report.proofs.PairLemmas.{first-none, first-place}
use Rattle.couple_report.proofs.places.places_of.Goals as goal

pub with_other-requires : goal.with_other-requires
with_other-requires c =
    first-place c.args.wanted c.args.other c.args.file.now.divided c.irreps.result.now (c.irreps.ensures ∙ ap (λ (x : File). x.irreps) c.document.ensures) c.in-Some.k c.in-Some.ensures

pub returns-in-None : goal.returns-in-None
returns-in-None c =
    first-none c.args.wanted c.args.other c.args.file.now.divided c.irreps.result.now (c.irreps.ensures ∙ ap (λ (x : File). x.irreps) c.document.ensures) c.in-None.ensures
