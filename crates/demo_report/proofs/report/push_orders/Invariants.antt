use Rattle.std.proofs.Common.{◌≡◌, ◌++◌, take, length, flat_map}
use Rattle.demo_report.specs.DemoReport.{order_word}
use Rattle.demo_report.proofs.ListingLemmas.{orders_in}
use Rattle.demo_report.proofs.report.push_orders.Given as goal

abbrev pub invariant-loop-i : goal.invariant-loop-i
invariant-loop-i l = record {
  end : l.i-end ≡ length l.listing;
  text : l.text ≡ l.fn.text ++ flat_map order_word (orders_in (take l.i l.listing));
}
