use Rattle.std.proofs.Common.{◌∙◌, ◌≤◌, subst, List, length, arith}
use Rattle.std.proofs.lemmas.List.{length-map}
use Rattle.cyclo24.specs.ExactK24.{k24_laws}
use Rattle.cyclo24.specs.K24.{exact24}
use Rattle.class_list.specs.Seen.{direction_of, directions_of}
use Rattle.iso_watch.specs.declared.notice.Notice.{Notice}
use Rattle.list_report.specs.HeldListings.{listed_in}
use Rattle.list_report.specs.Telling.{notice_of}
use Rattle.list_report.proofs.TellingLemmas.{on-err, page-fits, page-told}
use Rattle.list_report.proofs.telling.tell.Goals as goal

pub tail_of-requires : goal.tail_of-requires
tail_of-requires g c some =
    let l = c.args.listed in
    let told = c.tell_page-told.result in
    let ds = directions_of k24_laws exact24 l.listing in
    let count = length-map l.listing (direction_of k24_laws exact24) in
    let few : length ds ≤ 16384 = omega (arith, count, c.requires.numbered) in
    let within = subst (λ (ns : List Notice). told ≤ length ns) (c.deref.ensures.value ∙ c.in_ok-notices.ensures) c.tell_page-told.ensures.ends.within in
    let fits = page-fits l.after l.count ds (notice_of l.quotient l.dim) told 16384 few within some in
    omega (arith, fits)

pub returns-in_err-tail-clause-memory : goal.returns-in_err-tail-clause-memory
returns-in_err-tail-clause-memory g c =
    let l = c.args.listed in
    on-err c.from_residual-in_err-tail.result _
    (page-told l.after l.count c.args.tally _ _ (listed_in l) c.deref.result.now c.tell_page-told.result (c.deref.ensures.value ∙ c.in_ok-notices.ensures) c.tell_page-told.ensures.ends c.tell_page-told.ensures.told)
