use Rattle.std.proofs.Common.{◌≡◌, ◌+◌, ◌<◌, ◌≤◌, length, arith}
use Rattle.super_group.specs.Quotient.{order_of}
use Rattle.list_report.proofs.ListReportLemmas.{of-all, same-some}
use Rattle.list_report.proofs.TellingLemmas.{notice-made}
use Rattle.list_report.proofs.telling.notice_at.Goals as goal

pub overflow_cast-result-2 : goal.overflow_cast-result-2
overflow_cast-result-2 c =
    let l = c.args.listed.now in
    let width = of-all (λ d. d.equations.width ≡ l.dim) l.listing c.args.i c.get-direction.result.now c.requires.held.reportable.widths c.get-direction.ensures in
    omega (arith, width, c.requires.held.few, c.dim.ensures)

pub overflow_cast-result-3 : goal.overflow_cast-result-3
overflow_cast-result-3 c =
    let l = of-all (λ d. length d.stabiliser ≤ order_of c.args.listed.now.quotient) c.args.listed.now.listing c.args.i c.get-direction.result.now c.requires.held.orders c.get-direction.ensures in
    omega (arith, l, c.order-whole.ensures.value, c.order-whole.ensures.few, c.order-order.ensures)

pub nonzero_div-result : goal.nonzero_div-result
nonzero_div-result c =
    let l = of-all (λ d. 0 < length d.stabiliser) c.args.listed.now.listing c.args.i c.get-direction.result.now c.requires.held.reportable.some c.get-direction.ensures in
    omega (arith, l, c.order-order.ensures)

pub returns : goal.returns
returns c d e =
    let l = c.args.listed.now in
    let seen = c.get-direction.result.now in
    let same = same-some _ seen d c.get-direction.ensures e in
    let width = of-all (λ x. x.equations.width ≡ l.dim) l.listing c.args.i seen c.requires.held.reportable.widths c.get-direction.ensures in
    notice-made l.quotient l.dim (c.args.i + 1) c.dim.result c.order-order.result c.order-whole.result seen d same width c.dim.ensures c.order-order.ensures c.order-whole.ensures.value
