use Rattle.std.proofs.Common.{◌∙◌, ℕ, ◌+◌, ◌-◌, ◌<◌, ◌++◌, List, length, ap, sym, subst, arith, Some}
use Rattle.cyclo24.specs.ExactK24.{k24_laws}
use Rattle.cyclo24.specs.K24.{exact24}
use Rattle.class_list.specs.Seen.{direction_of}
use Rattle.list_report.specs.ListReport.{direction_text}
use Rattle.list_report.proofs.ListReportLemmas.{at-place}
use Rattle.list_report.proofs.PageLemmas.{AreWithin, page-at, page-length, within}
use Rattle.list_report.proofs.page_pieces.page_piece.Goals as goal

pub overflow_add-place : goal.overflow_add-place
overflow_add-place c =
    let ds = c.args.listing.now in
    let p = c.page-first.result in
    let inside : AreWithin (length ds) p = subst (λ q. AreWithin (length ds) q) (sym c.page-first.ensures.places) (within (length ds) c.args.after c.args.count) in
    let count = page-length (direction_of k24_laws exact24) c.args.after c.args.count ds p c.page-first.ensures.directions inside.last in
    let l : c.args.number < p.1 - p.0 = subst (λ (n : ℕ). c.args.number < n) count c.requires.place in
    omega (arith, l, inside.last, c.len-len.ensures.few)

pub overflow_add-place-2 : goal.overflow_add-place-2
overflow_add-place-2 c =
    let ds = c.args.listing.now in
    let p = c.page-first.result in
    let inside : AreWithin (length ds) p = subst (λ q. AreWithin (length ds) q) (sym c.page-first.ensures.places) (within (length ds) c.args.after c.args.count) in
    let count = page-length (direction_of k24_laws exact24) c.args.after c.args.count ds p c.page-first.ensures.directions inside.last in
    let l : c.args.number < p.1 - p.0 = subst (λ (n : ℕ). c.args.number < n) count c.requires.place in
    omega (arith, l, inside.last, c.len-len.ensures.few)

pub push_place-requires-clause-place : goal.push_place-requires-clause-place
push_place-requires-clause-place c =
    let ds = c.args.listing.now in
    let p = c.page-first.result in
    let inside : AreWithin (length ds) p = subst (λ q. AreWithin (length ds) q) (sym c.page-first.ensures.places) (within (length ds) c.args.after c.args.count) in
    let count = page-length (direction_of k24_laws exact24) c.args.after c.args.count ds p c.page-first.ensures.directions inside.last in
    let l : c.args.number < p.1 - p.0 = subst (λ (n : ℕ). c.args.number < n) count c.requires.place in
    omega (arith, l, inside.last)

pub returns : goal.returns
returns c =
    let ds = c.args.listing.now in
    let p = c.page-first.result in
    let k = c.args.number in
    let f = direction_text c.args.quotient.now c.args.dim in
    let g = direction_of k24_laws exact24 in
    let inside : AreWithin (length ds) p = subst (λ q. AreWithin (length ds) q) (sym c.page-first.ensures.places) (within (length ds) c.args.after c.args.count) in
    let count = page-length g c.args.after c.args.count ds p c.page-first.ensures.directions inside.last in
    let l : k < p.1 - p.0 = subst (λ (n : ℕ). k < n) count c.requires.place in
    let below : p.0 + k < p.1 = omega (arith, l) in
    let d = at-place ds (p.0 + k) (omega (arith, below, inside.last)) in
    let text = c.in_ok-push_place.ensures d.0 d.1 ∙ ap (λ (t : List ℕ). t ++ f (p.0 + k + 1, g d.0)) c.new-text.ensures in
    page-at f g c.args.after c.args.count ds p k d.0 c.page-first.ensures.directions d.1 below ∙ ap (λ t. Some t) (sym text)
