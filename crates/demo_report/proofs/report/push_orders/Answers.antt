use Rattle.std.proofs.Common.{◌++◌, ◌∙◌, ◌<◌, ◌≤◌, length, flat_map, ap, arith}
use Rattle.std.proofs.lemmas.List.{take_all}
use Rattle.demo_report.specs.DemoReport.{order_word}
use Rattle.demo_report.proofs.ListingLemmas.{orders_in, orders-more}
use Rattle.demo_report.proofs.report.push_orders.Goals as goal

pub loop-i-preserved : goal.loop-i-preserved
loop-i-preserved c =
    let ds = c.args.listing.now in
    let i = c.loop-i.i in
    let l : i < length ds = omega (arith, c.loop-i.invariant.end) in
    record {
      end = c.loop-i.invariant.end;
      text = orders-more ds i c.get.result.now c.args.text.now c.loop-i.text c.push.new.self c.push_number.new.self c.order.result l c.get.ensures c.order.ensures c.loop-i.invariant.text c.in_ok-push.ensures.ok c.in_ok-push_number.ensures.ok;
    }

pub returns : goal.returns
returns c =
    let ds = c.args.listing.now in
    let whole : length ds ≤ c.loop-i.i = omega (arith, c.loop-i.invariant.end) in
    c.loop-i.invariant.text ∙ ap (λ xs. c.args.text.now ++ flat_map order_word (orders_in xs)) (take_all c.loop-i.i ds whole)
