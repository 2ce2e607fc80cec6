use Rattle.std.proofs.Common.{◌∙◌, ap}
use Rattle.iso_text.specs.FileValue.{File}
use Rattle.couple_report.proofs.PairLemmas.{other-none, both-places}
use Rattle.couple_report.proofs.places.with_other.Goals as goal

pub returns-in-Some : goal.returns-in-Some
returns-in-Some c =
    both-places c.args.wanted c.args.other c.args.file.now.divided c.irreps.result.now (c.irreps.ensures ∙ ap (λ (x : File). x.irreps) c.document.ensures) c.args.k c.requires c.in-Some.l c.in-Some.ensures

pub returns-in-None : goal.returns-in-None
returns-in-None c =
    other-none c.args.wanted c.args.other c.args.file.now.divided c.irreps.result.now (c.irreps.ensures ∙ ap (λ (x : File). x.irreps) c.document.ensures) c.args.k c.requires c.in-None.ensures
