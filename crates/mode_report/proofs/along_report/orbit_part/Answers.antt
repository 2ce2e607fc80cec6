use Rattle.std.proofs.Common.{◌∙◌, ◌+◌, ◌<◌, List, length, ap, sym, arith}
use Rattle.std.proofs.lemmas.Result.{IfOk-weaker}
use Rattle.cyclo24.specs.declared.k24.K24.{K24}
use Rattle.lin_alg.specs.Matrix.{MatrixView}
use Rattle.mode_report.specs.DirectionHeld.{along_of}
use Rattle.mode_report.specs.ModesPieces.{orbit_front}
use Rattle.mode_report.proofs.AlongReportLemmas.{along-some}
use Rattle.mode_report.proofs.DirectionReportLemmas.{fit-at}
use Rattle.mode_report.proofs.along_report.orbit_part.Goals as goal

pub returns : goal.returns
returns c =
    let orbits = c.args.orbits.now in
    let all = c.args.all.now in
    let i = c.args.i in
    let o = c.get.result.now in
    let ms = c.index-all-i.result in
    let l : i < length orbits = omega (arith, c.requires.orbits, c.requires.orbit) in
    IfOk-weaker c.along_orbit.result _ _
    (λ text h irreps fit. (
      along_of irreps o ms.items,
      along-some irreps orbits all i o ms c.requires.orbits c.get.ensures c.index-all-i.is c.requires.orbit,
      h irreps ((fit-at irreps orbits all i o ms l c.get.ensures c.index-all-i.is fit).count ∙ ap (λ (xs : List (MatrixView K24)). length xs) (sym c.deref.ensures.value))
          ∙ ap (λ (xs : List (MatrixView K24)). orbit_front (i + 1, along_of irreps o xs)) c.deref.ensures.value,
    ))
    c.along_orbit.ensures
