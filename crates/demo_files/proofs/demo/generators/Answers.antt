use Rattle.std.proofs.Common.{ℕ, List, subst}
use Rattle.demo_files.proofs.DemoLemmas.{IsOnlyOf, IsNoSymbol, some-demo, few-demo, pure-demo}
use Rattle.demo_files.proofs.demo.generators.Goals as goal

pub unreachable-requires : goal.unreachable-requires
unreachable-requires c = some-demo c.args.number (subst IsNoSymbol c.symbol.ensures c.in-Err.ensures.bad)

pub returns-clause-few : goal.returns-clause-few
returns-clause-few c =
    let g = c.in-Ok.generators in
    few-demo c.args.number g.lattice g.ops.items (subst (λ (text : List ℕ). IsOnlyOf text g.lattice g.ops.items) c.symbol.ensures c.in-Ok.ensures.only)

pub returns-clause-pure : goal.returns-clause-pure
returns-clause-pure c =
    let g = c.in-Ok.generators in
    pure-demo c.args.number g.lattice g.ops.items (subst (λ (text : List ℕ). IsOnlyOf text g.lattice g.ops.items) c.symbol.ensures c.in-Ok.ensures.only)
