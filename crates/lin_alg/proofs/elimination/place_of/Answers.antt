use Rattle.std.proofs.Common.{◌≡◌, ◌<◌, ◌≤◌, ℕ, length, map, List, arith, subst}
use Rattle.std.proofs.lemmas.List.{length-map}
use Rattle.lin_alg.proofs.RowLemmas.{item-at}
use Rattle.lin_alg.proofs.PlaceLemmas.{IsPlacing, placing-step, placing-here, placing-end}
use Rattle.lin_alg.proofs.elimination.place_of.Goals as goal

pub returns-then-p-line : goal.returns-then-p-line
returns-then-p-line g c =
    let all : List (ℕ × List _) = map (λ r. (r.0, r.1.items)) c.args.lines.now in
    let x : ℕ × List _ = (c.index-lines-i.result.0, c.index-lines-i.result.1.items) in
    let l : c.loop-i.i < length all = rw length-map c.loop-i-test.true in (
      c.loop-i.auto.i-end,
      placing-here g.F.Field.field g.F.Field.value c.args.p all c.loop-i.i x l
          (item-at (λ r. (r.0, r.1.items)) c.args.lines.now c.loop-i.i c.index-lines-i.result c.loop-i-test.true c.index-lines-i.is) c.if-p-line.true c.loop-i.invariant,
    )

pub loop-i-preserved : goal.loop-i-preserved
loop-i-preserved g c =
    let all : List (ℕ × List _) = map (λ r. (r.0, r.1.items)) c.args.lines.now in
    let x : ℕ × List _ = (c.index-lines-i.result.0, c.index-lines-i.result.1.items) in
    let l : c.loop-i.i < length all = rw length-map c.loop-i-test.true in
    placing-step g.F.Field.field g.F.Field.value c.args.p all c.loop-i.i x l
    (item-at (λ r. (r.0, r.1.items)) c.args.lines.now c.loop-i.i c.index-lines-i.result c.loop-i-test.true c.index-lines-i.is) c.if-p-line.false c.loop-i.invariant

pub returns : goal.returns
returns g c =
    let all : List (ℕ × List _) = map (λ r. (r.0, r.1.items)) c.args.lines.now in
    let e : c.loop-i.i ≡ length c.args.lines.now = omega arith in
    let i : IsPlacing g.F.Field.field g.F.Field.value c.args.p all (length c.args.lines.now) =
    subst (IsPlacing g.F.Field.field g.F.Field.value c.args.p all) e c.loop-i.invariant in
    let l : length all ≤ length c.args.lines.now = rw length-map (omega arith) in
    (omega arith, placing-end g.F.Field.field g.F.Field.value c.args.p all (length c.args.lines.now) l i)
