use Rattle.std.proofs.Common.{◌≡◌, ◌∙◌, ◌<◌, ◌≤◌, length, arith}
use Rattle.std.proofs.lemmas.List.{length-set}
use Rattle.space_ops.specs.GroupLaws.{rotation_group}
use Rattle.super_group.proofs.TableLemmas.{kept_more}
use Rattle.super_group.proofs.products.product_row.Goals as goal

pub loop-b-preserved : goal.loop-b-preserved
loop-b-preserved c =
    let few : length c.args.group.now.ops ≤ 48 = c.len-b-end.ensures.group.few in
    let end : c.len-b-end.result ≡ length c.args.group.now.ops = c.len-b-end.ensures.value in
    let count : length c.loop-b.row ≡ 48 = c.loop-b.invariant.count in
    let below : c.loop-b.b < c.len-b-end.result = c.loop-b-test.true in
    let room : c.loop-b.b < length c.loop-b.row = omega (arith, few, end, count, below) in
    record {
      filled = kept_more 0 (λ b x. x ≡ (rotation_group c.args.group.now.ops).product c.args.a b) c.loop-b.b c.loop-b.row c.product_number.result room
          c.loop-b.invariant.filled c.product_number.ensures;
      count = length-set c.loop-b.row c.loop-b.b c.product_number.result ∙ count;
    }
