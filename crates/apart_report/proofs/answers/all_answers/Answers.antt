use Rattle.std.proofs.Common.{◌<◌, ◌≤◌, length, arith}
use Rattle.apart_report.specs.Held.{held_weights, IsAnswer}
use Rattle.apart_report.proofs.AnswerLemmas.{each-more, each-whole, wide-some}
use Rattle.apart_report.proofs.answers.all_answers.Goals as goal

pub pair_answer-requires-clause-first : goal.pair_answer-requires-clause-first
pair_answer-requires-clause-first c =
    let l : c.loop-k.k < length c.args.pairs.now = omega (arith, c.loop-k-test.true, c.loop-k.invariant.end) in
    (c.requires.below c.loop-k.k (0, 0) l).0

pub pair_answer-requires-clause-second : goal.pair_answer-requires-clause-second
pair_answer-requires-clause-second c =
    let l : c.loop-k.k < length c.args.pairs.now = omega (arith, c.loop-k-test.true, c.loop-k.invariant.end) in
    (c.requires.below c.loop-k.k (0, 0) l).1

pub loop-k-preserved : goal.loop-k-preserved
loop-k-preserved c =
    let f = c.args.file.now in
    let l : c.loop-k.k < length c.args.pairs.now = omega (arith, c.loop-k-test.true, c.loop-k.invariant.end) in
    record {
      end = c.loop-k.invariant.end;
      done = each-more (IsAnswer f.divided.quotient (held_weights f)) c.args.pairs.now c.loop-k.answers.items _ c.loop-k.k (0, 0) c.in-Passed.answer l c.loop-k.invariant.done c.in-Passed.ensures c.in_ok-add-in-Passed.ensures;
    }

pub returns-in-Refused : goal.returns-in-Refused
returns-in-Refused c =
    let f = c.args.file.now in
    let l : c.loop-k.k < length c.args.pairs.now = omega (arith, c.loop-k-test.true, c.loop-k.invariant.end) in
    wide-some f.divided.quotient (held_weights f) c.args.pairs.now c.loop-k.k (0, 0) c.in-Refused.refusal l c.in-Refused.ensures

pub returns : goal.returns
returns c =
    let f = c.args.file.now in
    let whole : length c.args.pairs.now ≤ c.loop-k.k = omega (arith, c.loop-k-test.false, c.loop-k.invariant.end) in
    each-whole (IsAnswer f.divided.quotient (held_weights f)) c.args.pairs.now c.loop-k.answers.items c.loop-k.k whole c.loop-k.invariant.done
