use Rattle.std.proofs.Common.{◌∙◌, sym, ap, ◌++◌, List, ℕ, flat_map}
use Rattle.std.specs.Prelude.{codes, decimal}
use Rattle.std.proofs.lemmas.List.{length-map}
use Rattle.cyclo24.specs.ExactK24.{k24_laws}
use Rattle.cyclo24.specs.K24.{exact24}
use Rattle.class_list.specs.Pages.{page}
use Rattle.class_list.specs.Seen.{direction_of, directions_of}
use Rattle.list_report.specs.ListReport.{listing_head, direction_text}
use Rattle.list_report.proofs.ListReportLemmas.{head-behind}
use Rattle.list_report.proofs.report.listing_report.Goals as goal

pub returns : goal.returns
returns c =
    let ds = c.args.listing.now in
    let f = direction_text c.args.quotient.now c.args.dim in
    let g = direction_of k24_laws exact24 in
    let body = flat_map f (page c.args.after c.args.count (directions_of k24_laws exact24 ds)) in
    let total = c.len.ensures.value ∙ sym (length-map ds g) in
    let order = c.order-order.ensures.value in
    c.in_ok-push_page.ensures ∙ ap (λ (t : List ℕ). t ++ body) c.in_ok-text.ensures
    ∙ head-behind (codes "isodist " ++ decimal c.args.format ++ codes " list")
    (codes "irrep " ++ c.args.name.now ++ codes " dim " ++ decimal c.args.dim ++ codes " order " ++ decimal c.order-order.result) (codes "total " ++ decimal c.len.result) body
    ∙ (λ j. listing_head c.args.format c.args.name.now c.args.dim (order j) (total j) body)
