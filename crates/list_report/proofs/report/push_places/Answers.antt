use Rattle.std.proofs.Common.{◌∙◌, sym, ap, ◌+◌, ◌++◌, ◌<◌, ◌≤◌, ℕ, List, length, flat_map, append_assoc, arith}
use Rattle.std.specs.List.{enumerate_from}
use Rattle.cyclo24.specs.ExactK24.{k24_laws}
use Rattle.cyclo24.specs.K24.{exact24}
use Rattle.class_list.specs.Pages.{directions_at}
use Rattle.class_list.specs.Seen.{direction_of, directions_of}
use Rattle.list_report.specs.ListReport.{direction_text}
use Rattle.list_report.proofs.ListReportLemmas.{at-place, page-more}
use Rattle.list_report.proofs.report.push_places.Goals as goal

pub loop-i-preserved : goal.loop-i-preserved
loop-i-preserved c =
    let ds = c.args.listing.now in
    let i = c.loop-i.i in
    let f = direction_text c.args.quotient.now c.args.dim in
    let g = direction_of k24_laws exact24 in
    let part = flat_map f (enumerate_from (c.args.first + 1) (directions_of k24_laws exact24 (directions_at ds (c.args.first, i)))) in
    let from : c.args.first ≤ i = omega arith in
    let within : i < length ds = omega arith in
    let d = at-place ds i within in
    let piece = f (i + 1, g d.0) in
    c.in_ok-push_place.ensures d.0 d.1 ∙ ap (λ (t : List ℕ). t ++ piece) c.loop-i.invariant ∙ append_assoc c.args.text.now part piece
    ∙ ap (λ (t : List ℕ). c.args.text.now ++ t) (sym (page-more f g c.args.first i ds d.0 from d.1))
