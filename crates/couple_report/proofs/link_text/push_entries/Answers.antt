use Rattle.cyclo24.specs.ExactZ24.{z24_laws}
use Rattle.cyclo24.specs.Z24.{exact_z24}
use Rattle.lin_alg.specs.Matrix.{entry}
use Rattle.couple_report.specs.LinkReport.{entry_text}
use Rattle.couple_report.proofs.TextLemmas.{table-more}
use Rattle.couple_report.proofs.link_text.push_entries.Goals as goal

pub loop-j-preserved : goal.loop-j-preserved
loop-j-preserved c =
    table-more entry_text (entry z24_laws exact_z24 c.args.matrix.now c.args.i) c.loop-j.j c.args.text.now c.loop-j.text c.push_entry.new.text c.loop-j.invariant c.in_ok-push_entry.ensures
