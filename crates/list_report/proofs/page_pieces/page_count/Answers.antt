use Rattle.std.proofs.Common.{length, sym, subst, arith}
use Rattle.cyclo24.specs.ExactK24.{k24_laws}
use Rattle.cyclo24.specs.K24.{exact24}
use Rattle.class_list.specs.Seen.{direction_of}
use Rattle.list_report.proofs.PageLemmas.{AreWithin, page-length, within}
use Rattle.list_report.proofs.page_pieces.page_count.Goals as goal

pub overflow_sub-result : goal.overflow_sub-result
overflow_sub-result c =
    let inside : AreWithin (length c.args.listing.now) c.page-first.result = subst (λ q. AreWithin (length c.args.listing.now) q) (sym c.page-first.ensures.places) (within (length c.args.listing.now) c.args.after c.args.count) in
    inside.order

pub returns : goal.returns
returns c =
    let ds = c.args.listing.now in
    let p = c.page-first.result in
    let inside : AreWithin (length ds) p = subst (λ q. AreWithin (length ds) q) (sym c.page-first.ensures.places) (within (length ds) c.args.after c.args.count) in
    record {
      value = sym (page-length (direction_of k24_laws exact24) c.args.after c.args.count ds p c.page-first.ensures.directions inside.last);
      few = omega (arith, inside.last, c.len-len.ensures.few);
    }
