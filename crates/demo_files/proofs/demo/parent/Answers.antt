use Rattle.std.proofs.Common.{◌∙◌}
use Rattle.demo_files.proofs.DemoTexts.{demo-parent}
use Rattle.demo_files.proofs.demo.parent.Goals as goal

pub returns-in-Ok : goal.returns-in-Ok
returns-in-Ok c =
    let g = c.generators-generators.result in
    demo-parent c.args.number g.lattice g.ops.items c.in-Ok.group c.generators-generators.ensures.symbol c.generators-generators.ensures.few c.generators-generators.ensures.pure c.in-Ok.ensures.group c.in-Ok.ensures.lattice (c.in-Ok.ensures.generators ∙ c.as_slice.ensures.value)
