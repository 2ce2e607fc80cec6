use Rattle.std.proofs.Common.{◌≡◌, sym, subst, ℕ, ◌+◌, ◌++◌, List, OnOk, flat_map}
use Rattle.cyclo24.specs.ExactK24.{Exact24}
use Rattle.class_list.specs.Directions.{Direction}
use Rattle.cyclo24.specs.ExactK24.{k24_laws}
use Rattle.cyclo24.specs.K24.{exact24}
use Rattle.class_list.specs.Pages.{directions_at}
use Rattle.class_list.specs.Seen.{direction_of}
use Rattle.list_report.specs.ListReport.{direction_text}
use Rattle.list_report.proofs.ListReportLemmas.{page-of}
use Rattle.list_report.proofs.report.push_page.Goals as goal

pub returns : goal.returns
returns c =
    let ds = c.args.listing.now in
    let p = c.page-first.result in
    let f = direction_text c.args.quotient.now c.args.dim in
    let g = direction_of k24_laws exact24 in
    let pages = page-of g c.args.after c.args.count ds (p.0 + 1) (directions_at ds p) c.page-first.ensures.directions in
    let P : List (ℕ × Direction Exact24) → Type 0 = λ z. OnOk c.push_places.result (c.push_places.new.text ≡ c.args.text.now ++ flat_map f z) in
    subst P (sym pages) c.push_places.ensures
