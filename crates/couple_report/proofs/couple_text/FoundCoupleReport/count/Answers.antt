use Rattle.std.proofs.Common.{◌+◌, arith}
use Rattle.cyclo24.specs.ExactK24.{k24_laws}
use Rattle.cyclo24.specs.K24.{exact24}
use Rattle.class_list.specs.Pages.{page}
use Rattle.class_list.specs.Seen.{directions_of}
use Rattle.list_report.specs.ListReport.{direction_text}
use Rattle.report_buffer.specs.PieceLaws.{made-count}
use Rattle.couple_report.proofs.couple_text.FoundCoupleReport.count.Goals as goal

pub returns : goal.returns
returns c =
    let x = c.args.self.now in
    let n = made-count (direction_text x.quotient (x.dim + x.other_dim)) (page x.after x.count (directions_of k24_laws exact24 x.listing)) in
    omega (arith, c.page_count.ensures.value, n)
