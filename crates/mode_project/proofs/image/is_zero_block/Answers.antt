use Rattle.std.proofs.Common.{rules, ◌≡◌, ◌<◌, ◌+◌, true, sym, ◌∙◌, arith, below_more, length}
use Rattle.lin_alg.specs.Rows.{vector}
use Rattle.mode_project.proofs.VectorLemmas.{vector-at}
use Rattle.mode_project.proofs.image.is_zero_block.Goals as goal

pub loop-b-init : goal.loop-b-init
loop-b-init g c k l = absurd (omega (arith, l))

pub offset_bounds-row-first : goal.offset_bounds-row-first
offset_bounds-row-first g c =
    let k : c.args.first + c.loop-b.b < length c.args.row.now = omega (arith, c.requires.room, c.loop-b-test.true) in
    search rules

pub loop-b-preserved : goal.loop-b-preserved
loop-b-preserved g c =
    let f = g.F.Field.field in
    let v = g.F.Field.value in
    let inside : c.args.first + c.loop-b.b < length c.args.row.now = omega (arith, c.requires.room, c.loop-b-test.true) in
    let at = vector-at f v c.args.row.now (c.args.first + c.loop-b.b) c.index-row-first.result inside c.index-row-first.is in
    let z : f.laws.is_nought (v c.index-row-first.result) ≡ true = sym c.is_zero.ensures ∙ c.if-not-is_zero.false in
    below_more (λ k. vector f.laws v c.args.row.now (c.args.first + k) ≡ f.laws.nought) c.loop-b.b c.loop-b.invariant (at ∙ f.laws.is_nought-true (v c.index-row-first.result) z)

pub returns : goal.returns
returns g c t b l = c.loop-b.invariant b (omega (arith, l, c.loop-b-test.false))
