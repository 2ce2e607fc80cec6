use Rattle.std.specs.Prelude.{◌≡◌, length}
use Rattle.super_group.specs.RotationTable.{IsProductRow}
use Rattle.super_group.proofs.products.product_row.Given as goal

abbrev pub invariant-loop-b : goal.invariant-loop-b
invariant-loop-b l = record {
  filled : IsProductRow l.group.ops l.a l.b l.row;
  count : length l.row ≡ 48;
}
