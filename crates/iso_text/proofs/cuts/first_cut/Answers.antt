use Rattle.iso_text.specs.Cuts.{is_sign}
use Rattle.iso_text.proofs.CutLemmas.{cut_at-first}
use Rattle.iso_text.proofs.cuts.first_cut.Goals as goal

pub returns-clause-cut : goal.returns-clause-cut
returns-clause-cut c =
    let cut = cut_at-first is_sign c.args.text.now c.mark_at-at.result c.requires (cc) (cc) in cc
