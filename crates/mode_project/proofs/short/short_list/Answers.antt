use Rattle.std.proofs.Common.{◌≡◌, length, ◌∙◌, ap, arith}
use Rattle.cyclo24.specs.ExactK24.{k24_laws}
use Rattle.cyclo24.specs.K24.{exact24}
use Rattle.lin_alg.specs.Rows.{vector}
use Rattle.mode_project.proofs.ShortLemmas.{vectors-same, written-over}
use Rattle.mode_project.proofs.short.short_list.Goals as goal

pub returns-in-Ok-shortened-clause-exact : goal.returns-in-Ok-shortened-clause-exact
returns-in-Ok-shortened-clause-exact g c =
    let exact = g.S.Short.exact in
    let row = c.shortened.new.into in
    let k : length row ≡ c.in-Ok.short.len = c.shortened.auto.into ∙ c.deref_mut.ensures.len in
    let len : length c.in-Ok.short.items ≡ c.in-Ok.short.len = omega (arith, c.in-Ok.short.ok.0) in
    let n : length row ≡ length c.in-Ok.short.items = omega (arith, k, len) in
    let m : length row ≡ length c.args.list.now = omega (arith, n, c.in-Ok.ensures.len) in
    ap (vector k24_laws exact) (written-over row c.in-Ok.short.items c.in-Ok.short.len n len) ∙ vectors-same exact exact24 row c.args.list.now m c.in-Ok-shortened.ensures.exact
