use Rattle.std.proofs.Common.{◌≡◌, ◌<◌, sym, ◌∙◌, length, arith}
use Rattle.lin_alg.proofs.SolvingLemmas.{negated-all}
use Rattle.lin_alg.proofs.solving.negated.Goals as goal

pub returns-clause-entries : goal.returns-clause-entries
returns-clause-entries g c =
    let f = g.F.Field.field in
    let v = g.F.Field.value in
    let at : c.loop-x.x-index ≡ length c.args.row.now = omega (arith, c.loop-x.auto.x-index-end, c.loop-x-test.false) in
    let len : length c.loop-x.entries.items ≡ length c.args.row.now = sym c.loop-x.entries.ok.0 ∙ c.loop-x.invariant.0 ∙ at in
    negated-all f v c.args.row.now c.loop-x.entries.items len (λ j l. let l' : j < c.loop-x.x-index = omega (arith, at, l) in c.loop-x.invariant.1 j l')
