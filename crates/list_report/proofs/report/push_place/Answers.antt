use Rattle.std.proofs.Common.{◌≡◌, sym, subst, ◌<◌, ◌≤◌, ℕ, List, All, length, slice_get}
use Rattle.std.proofs.lemmas.Result.{on_ok_weaker}
use Rattle.cyclo24.specs.ExactK24.{k24_laws}
use Rattle.cyclo24.specs.K24.{exact24}
use Rattle.cyclo24.specs.declared.k24.K24.{K24}
use Rattle.class_list.specs.Seen.{DirectionView, direction_of}
use Rattle.super_group.specs.Quotient.{order_of}
use Rattle.list_report.specs.ListReport.{direction_text}
use Rattle.list_report.proofs.ListReportLemmas.{of-all, same-some, text-of}
use Rattle.list_report.proofs.report.push_place.Goals as goal

pub push_direction-requires-clause-few : goal.push_direction-requires-clause-few
push_direction-requires-clause-few c =
    let w = of-all (λ d. d.equations.width ≡ c.args.dim) c.args.listing.now c.args.i c.get.result.now c.requires.reportable.widths c.get.ensures in
    subst (λ (n : ℕ). n ≤ 24) (sym w) c.requires.few

pub push_direction-requires-clause-members : goal.push_direction-requires-clause-members
push_direction-requires-clause-members c =
    of-all (λ d. All (λ a. a < order_of c.args.quotient.now) d.stabiliser) c.args.listing.now c.args.i c.get.result.now c.requires.reportable.members c.get.ensures

pub push_direction-requires-clause-some : goal.push_direction-requires-clause-some
push_direction-requires-clause-some c = of-all (λ d. 0 < length d.stabiliser) c.args.listing.now c.args.i c.get.result.now c.requires.reportable.some c.get.ensures

pub returns : goal.returns
returns c =
    let w = of-all (λ d. d.equations.width ≡ c.args.dim) c.args.listing.now c.args.i c.get.result.now c.requires.reportable.widths c.get.ensures in
    let f : ℕ → DirectionView K24 → List ℕ = λ w d. direction_text c.args.quotient.now w (c.args.number, direction_of k24_laws exact24 d) in
    on_ok_weaker c.push_direction.result
    (λ e d h. text-of f c.push_direction.new.text c.args.text.now c.get.result.now.equations.width c.args.dim c.get.result.now d e w
    (same-some (slice_get c.args.listing.now c.args.i) c.get.result.now d c.get.ensures h)) c.push_direction.ensures
