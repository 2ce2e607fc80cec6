use Rattle.std.proofs.Common.{◌≡◌, sym, subst, ℕ, ◌+◌, List, IfOk, map}
use Rattle.cyclo24.specs.ExactK24.{Exact24, k24_laws}
use Rattle.cyclo24.specs.K24.{exact24}
use Rattle.class_list.specs.Directions.{Direction}
use Rattle.class_list.specs.Pages.{directions_at}
use Rattle.class_list.specs.Seen.{direction_of}
use Rattle.list_report.specs.Telling.{notice_of}
use Rattle.list_report.proofs.ListReportLemmas.{page-of}
use Rattle.list_report.proofs.telling.notices.Goals as goal

pub returns : goal.returns
returns c =
    let l = c.args.listed.now in
    let p = c.page-first.result in
    let pages = page-of (direction_of k24_laws exact24) l.after l.count l.listing (p.0 + 1) (directions_at l.listing p) c.page-first.ensures.directions in
    let P : List (ℕ × Direction Exact24) → Type 0 = λ z. IfOk c.notices_between.result (λ v. v.items ≡ map (notice_of l.quotient l.dim) z) in
    subst P (sym pages) c.notices_between.ensures
