use Rattle.std.proofs.Common.{◌<◌, subst, arith, length}
use Rattle.mode_project.proofs.VectorsLemmas.{item-is}
use Rattle.mode_project.proofs.rank.diagonal.Goals as goal

pub index-requires : goal.index-requires
index-requires g c =
    let v = c.index-columns-b.result in
    let b = c.loop-b.b in
    let e = item-is c.args.columns.now b v c.loop-b-test.true c.index-columns-b.is in
    let m : b < length v.items = subst (λ xs. b < length xs) e (c.requires.long b c.loop-b-test.true) in
    omega (arith, m, v.ok.0)
