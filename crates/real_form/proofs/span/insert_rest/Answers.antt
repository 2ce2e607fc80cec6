use Rattle.std.proofs.Common.{◌<◌, ◌≤◌, ◌+◌, arith, length}
use Rattle.cyclo24.specs.K24.{exact24}
use Rattle.cyclo24.specs.Z24.{exact_z24}
use Rattle.cyclo24.specs.ExactK24.{k24, k24_laws}
use Rattle.cyclo24.specs.ExactZ24.{z24_laws}
use Rattle.lin_alg.specs.Rows.{vector}
use Rattle.super_group.specs.Quotient.{order_of}
use Rattle.induce.specs.Tables.{dimension_in, matrix_in}
use Rattle.real_form.specs.Parts.{orbit}
use Rattle.real_form.specs.Complexes.{z24_parts}
use Rattle.real_form.proofs.SpannedLemmas.{held-passed}
use Rattle.real_form.proofs.CombinedLemmas.{inside-here, again-here}
use Rattle.real_form.proofs.span.insert_rest.Goals as goal

pub returns-then-len-n-clause-passed : goal.returns-then-len-n-clause-passed
returns-then-len-n-clause-passed c _ =
    let n = (dimension_in c.args.induced.now.tables) in
    let a = orbit z24_parts n (matrix_in c.args.quotient.now c.args.induced.now.tables) (vector z24_laws exact_z24 c.args.w.now) in
    let test = c.loop-q-test.true in
    let inside = c.requires.end in
    let more = c.if-len-n.true in
    let en = c.dim-n.ensures.value in
    let el = c.len.ensures in
    let l : c.loop-q.q ≤ order_of c.args.quotient.now = omega (arith, test, inside) in
    let m : n < length c.loop-q.form.rows = omega (arith, more, en, el) in
    held-passed k24 exact24 (n + n) a c.loop-q.q (order_of c.args.quotient.now) n c.loop-q.form c.loop-q.invariant l m

pub insert_other-requires-clause-element : goal.insert_other-requires-clause-element
insert_other-requires-clause-element c = let test = c.loop-q-test.true in let end = c.requires.end in omega (arith, test, end)

pub insert_other-requires-clause-behind : goal.insert_other-requires-clause-behind
insert_other-requires-clause-behind c = let l = c.loop-q.auto.q in omega (arith, l)

pub insert_other-requires-clause-inside : goal.insert_other-requires-clause-inside
insert_other-requires-clause-inside c =
    let l = c.loop-q.auto.q in
    inside-here c.args.first c.args.end c.loop-q.q (length c.args.combined.now) c.args.from (omega (arith, l)) c.loop-q-test.true c.requires.inside

pub insert_other-requires-clause-again : goal.insert_other-requires-clause-again
insert_other-requires-clause-again c =
    let n = (dimension_in c.args.induced.now.tables) in
    let a = orbit z24_parts n (matrix_in c.args.quotient.now c.args.induced.now.tables) (vector z24_laws exact_z24 c.args.w.now) in
    let l = c.loop-q.auto.q in
    again-here k24_laws a c.args.first c.args.end c.loop-q.q c.args.combined.now c.args.from (omega (arith, l)) c.loop-q-test.true c.requires.again
