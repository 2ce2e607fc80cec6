use Rattle.std.proofs.Common.{◌≡◌, ◌∙◌, ◌<◌, ◌≤◌, [], length, arith}
use Rattle.std.proofs.lemmas.List.{length-set}
use Rattle.super_group.specs.RotationTable.{IsProductRow}
use Rattle.super_group.proofs.TableLemmas.{kept_more}
use Rattle.super_group.proofs.products.product_table.Goals as goal

pub loop-a-preserved : goal.loop-a-preserved
loop-a-preserved c =
    let few : length c.args.group.now.ops ≤ 48 = c.len-a-end.ensures.group.few in
    let end : c.len-a-end.result ≡ length c.args.group.now.ops = c.len-a-end.ensures.value in
    let count : length c.loop-a.table ≡ 48 = c.loop-a.invariant.count in
    let below : c.loop-a.a < c.len-a-end.result = c.loop-a-test.true in
    let room : c.loop-a.a < length c.loop-a.table = omega (arith, few, end, count, below) in
    record {
      filled = kept_more [] (λ a row. IsProductRow c.args.group.now.ops a (length c.args.group.now.ops) row) c.loop-a.a c.loop-a.table c.product_row.result room
          c.loop-a.invariant.filled c.product_row.ensures;
      count = length-set c.loop-a.table c.loop-a.a c.product_row.result ∙ count;
    }

pub returns : goal.returns
returns c a l =
    let end : c.len-a-end.result ≡ length c.args.group.now.ops = c.len-a-end.ensures.value in
    let past : c.len-a-end.result ≤ c.loop-a.a = c.loop-a-test.false in
    c.loop-a.invariant.filled a (omega (arith, l, end, past))
