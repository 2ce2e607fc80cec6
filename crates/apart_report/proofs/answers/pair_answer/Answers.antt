use Rattle.std.proofs.Common.{refl, inr}
use Rattle.induce.specs.Apart.{weights_by}
use Rattle.apart_report.specs.Held.{held_weights}
use Rattle.apart_report.proofs.AnswerLemmas.{induced-at, weights-found, answer-is, wide-is}
use Rattle.apart_report.proofs.answers.pair_answer.Goals as goal

pub apart-requires-clause-left : goal.apart-requires-clause-left
apart-requires-clause-left c =
    let f = c.args.file.now in
    induced-at f.divided.quotient c.quotient.result.now f.divided.file.irreps f.irreps.items c.args.i c.index.result.now c.quotient.ensures c.requires.held c.requires.first c.index.ensures

pub apart-requires-clause-right : goal.apart-requires-clause-right
apart-requires-clause-right c =
    let f = c.args.file.now in
    induced-at f.divided.quotient c.quotient.result.now f.divided.file.irreps f.irreps.items c.args.j c.index-2.result.now c.quotient.ensures c.requires.held c.requires.second c.index-2.ensures

pub returns-in-Ok : goal.returns-in-Ok
returns-in-Ok c =
    let f = c.args.file.now in
    let i = c.index.result.now in
    let j = c.index-2.result.now in
    answer-is f.divided.quotient c.quotient.result.now (held_weights f) c.args.i c.args.j (weights_by i) (weights_by j) c.in-Ok.answer c.quotient.ensures (weights-found f.irreps.items c.args.i i c.requires.first c.index.ensures)
    (weights-found f.irreps.items c.args.j j c.requires.second c.index-2.ensures) c.in-Ok.ensures.exact

pub returns-in-Err : goal.returns-in-Err
returns-in-Err c =
    let f = c.args.file.now in
    let i = c.index.result.now in
    let j = c.index-2.result.now in
    inr (
      10,
      wide-is f.divided.quotient c.quotient.result.now (held_weights f) c.args.i c.args.j (weights_by i) (weights_by j) c.quotient.ensures (weights-found f.irreps.items c.args.i i c.requires.first c.index.ensures)
          (weights-found f.irreps.items c.args.j j c.requires.second c.index-2.ensures) c.in-Err.ensures.wide,
      refl,
    )
