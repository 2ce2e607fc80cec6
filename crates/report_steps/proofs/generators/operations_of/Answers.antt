use Rattle.std.proofs.Common.{◌≡◌, ap, length, map, take, arith}
use Rattle.std.proofs.lemmas.List.{length-map, length-take-le}
use Rattle.report_steps.specs.Generators.{operation_of}
use Rattle.report_steps.proofs.generators.operations_of.Goals as goal

pub push-requires : goal.push-requires
push-requires c =
    let i = c.loop-line.line-index in
    let so_far = take i c.args.lines.now in
    let a : length c.loop-line.operations.items ≡ length (map operation_of so_far) = ap length c.loop-line.invariant in
    let b : length (map operation_of so_far) ≡ length so_far = length-map so_far operation_of in
    let d : length so_far ≡ i = length-take-le i c.args.lines.now (omega arith) in
    omega (arith, a, b, d)
