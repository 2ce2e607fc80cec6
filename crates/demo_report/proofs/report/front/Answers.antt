use Rattle.std.proofs.Common.{◌∙◌, ◌++◌, sym, ap}
use Rattle.iso_text.specs.FileValue.{File}
use Rattle.super_group.specs.Quotient.{order_of}
use Rattle.demo_report.specs.DemoReport.{front_text}
use Rattle.demo_report.proofs.ListingLemmas.{orders_in, orders-length}
use Rattle.demo_report.proofs.OrbitLemmas.{front-joined}
use Rattle.demo_report.proofs.report.front.Goals as goal

pub returns : goal.returns
returns c =
    let x = c.args.found.now in
    let orders = orders_in x.listing in
    let count = c.len.ensures.value ∙ sym (orders-length x.listing) in
    let size = c.in_ok-push.ensures.ok ∙ ap (λ t. c.in_ok-text.text ++ t) (c.as_slice.ensures ∙ c.in_ok-size.ensures) in
    let counted = c.in_ok-push-2.ensures.ok ∙ ap (λ t. c.push.new.self ++ t) (c.as_slice-2.ensures ∙ c.in_ok-count.ensures) in
    let listed = c.in_ok-push-3.ensures.ok ∙ ap (λ t. c.push-2.new.self ++ t) (c.as_slice-3.ensures ∙ c.in_ok-orders.ensures) in
    let format = c.format.ensures ∙ ap (λ (f : File). f.format) c.document.ensures in
    let order = c.order.ensures.value ∙ ap order_of c.quotient.ensures in
    front-joined c.format.result x.number c.order.result x.dim c.len.result orders c.in_ok-text.text c.push.new.self c.push-2.new.self c.push-3.new.self count c.in_ok-text.ensures size counted listed
    ∙ (λ i. front_text (format i) x.number (order i) x.dim orders)
