use Rattle.std.proofs.Common.{arith}
use Rattle.std.proofs.lemmas.Result.{IfOk-weaker}
use Rattle.mode_report.specs.Held.{told_of}
use Rattle.mode_report.proofs.ModeLemmas.{told-some}
use Rattle.mode_report.proofs.report.orbit_part.Goals as goal

pub get-requires : goal.get-requires
get-requires c = omega (arith, c.requires.count, c.requires.orbit)

pub returns : goal.returns
returns c =
    let o = c.get.result.now in
    let v = c.index-all-i.result in
    IfOk-weaker c.orbit_front.result _ _ (λ text h irreps. (told_of irreps o v, told-some irreps c.args.orbits.now c.args.all.now c.args.i o v c.requires.count c.get.ensures c.index-all-i.is c.requires.orbit, h irreps)) c.orbit_front.ensures
