use Rattle.std.proofs.Common.{◌≡◌, ◌∙◌, ◌+◌, ◌≤◌, suc, length, ap, sym, arith}
use Rattle.couple.specs.declared.links.Link.{Link}
use Rattle.couple_report.specs.LinkPieces.{line_pieces}
use Rattle.couple_report.proofs.JoinLemmas.{lines-count}
use Rattle.couple_report.proofs.link_text.line_count.Goals as goal

pub returns-in-Found : goal.returns-in-Found
returns-in-Found c =
    let m = c.in-Found.matrix in
    let few : m.rows ≤ 288 = rw c.in-Found.is at c.requires in
    let n : c.rows.result + 1 ≡ suc m.rows = omega (arith, c.rows.ensures.value) in
    record { value = n ∙ sym (lines-count m c.in-Found.rank) ∙ sym (ap (λ (x : Link). length (line_pieces x)) c.in-Found.is); few = omega (arith, few, c.rows.ensures.value) }
