use Rattle.std.proofs.Common.{◌≡◌, ◌++◌, take, length, flat_map}
use Rattle.demo_files.specs.Demo.{matrix_line}
use Rattle.demo_files.proofs.demo.push_matrices.Given as goal

abbrev pub invariant-loop-i : goal.invariant-loop-i
invariant-loop-i l = record {
  end : l.i-end ≡ length l.group.ops;
  text : l.text ≡ l.fn.text ++ flat_map (matrix_line l.number) (take l.i l.group.ops);
}
