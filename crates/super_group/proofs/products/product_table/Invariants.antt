use Rattle.std.specs.Prelude.{◌≡◌, length}
use Rattle.super_group.specs.RotationTable.{IsProductTable}
use Rattle.super_group.proofs.products.product_table.Given as goal

abbrev pub invariant-loop-a : goal.invariant-loop-a
invariant-loop-a l = record {
  filled : IsProductTable l.group.ops l.a l.table;
  count : length l.table ≡ 48;
}
