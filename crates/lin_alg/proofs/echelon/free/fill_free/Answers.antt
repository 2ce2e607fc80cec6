use Rattle.std.proofs.Common.{◌≡◌, ◌+◌, ◌-◌, ◌<◌, ℕ, List, map, drop, length, get_or, sym, ◌∙◌, ap, subst, arith}
use Rattle.std.proofs.lemmas.List.{length-map}
use Rattle.lin_alg.specs.Rows.{vector, exact_rows}
use Rattle.lin_alg.specs.Equations.{free_vector}
use Rattle.lin_alg.specs.Matrix.{entry}
use Rattle.lin_alg.proofs.RowLemmas.{item-at, wide-at}
use Rattle.lin_alg.proofs.FreeLemmas.{free-step, with_entry-row, with_entry-other}
use Rattle.lin_alg.proofs.echelon.free.fill_free.Goals as goal

pub set_pivot-requires-clause-pivot : goal.set_pivot-requires-clause-pivot
set_pivot-requires-clause-pivot g c =
    let all : List (ℕ × List _) = map (λ r. (r.0, r.1.items)) c.args.lines.now in
    let x : ℕ × List _ = (c.index-lines-s.result.0, c.index-lines-s.result.1.items) in
    let l0 : c.loop-s.s - 1 < length c.args.lines.now = omega (arith, c.loop-s-test.true, c.loop-s.auto.s) in
    let l : c.loop-s.s - 1 < length all = rw length-map l0 in
    let k = wide-at c.args.basis.now.cols all (c.loop-s.s - 1) x c.requires.shape l (item-at (λ r. (r.0, r.1.items)) c.args.lines.now (c.loop-s.s - 1) c.index-lines-s.result l0 c.index-lines-s.is) in
    subst (λ (n : ℕ). c.index-lines-s.result.0 < n) (sym c.loop-s.invariant.1) k.0

pub set_pivot-requires-clause-column : goal.set_pivot-requires-clause-column
set_pivot-requires-clause-column g c =
    let all : List (ℕ × List _) = map (λ r. (r.0, r.1.items)) c.args.lines.now in
    let x : ℕ × List _ = (c.index-lines-s.result.0, c.index-lines-s.result.1.items) in
    let l0 : c.loop-s.s - 1 < length c.args.lines.now = omega (arith, c.loop-s-test.true, c.loop-s.auto.s) in
    let l : c.loop-s.s - 1 < length all = rw length-map l0 in
    let k = wide-at c.args.basis.now.cols all (c.loop-s.s - 1) x c.requires.shape l (item-at (λ r. (r.0, r.1.items)) c.args.lines.now (c.loop-s.s - 1) c.index-lines-s.result l0 c.index-lines-s.is) in
    subst (λ (n : ℕ). c.args.c < n) (sym k.1) c.requires.column

pub loop-s-preserved : goal.loop-s-preserved
loop-s-preserved g c =
    let f = g.F.Field.field in
    let v = g.F.Field.value in
    let s = c.loop-s.s in
    let i = c.args.i in
    let all : List (ℕ × List _) = map (λ r. (r.0, r.1.items)) c.args.lines.now in
    let x : ℕ × List _ = (c.index-lines-s.result.0, c.index-lines-s.result.1.items) in
    let l0 : s - 1 < length c.args.lines.now = omega (arith, c.loop-s-test.true, c.loop-s.auto.s) in
    let l : s - 1 < length all = rw length-map l0 in
    let e : x ≡ get_or all (s - 1) x = item-at (λ r. (r.0, r.1.items)) c.args.lines.now (s - 1) c.index-lines-s.result l0 c.index-lines-s.is in
    let old = entry f.laws v c.loop-s.basis in
    let new = entry f.laws v c.set_pivot.new.basis in
    let y = f.laws.neg (vector f.laws v x.1 c.args.c) in
    let es : s - 1 + 1 ≡ s = omega (arith, c.loop-s-test.true) in (
      c.set_pivot.ensures.rows ∙ c.loop-s.invariant.0,
      c.set_pivot.ensures.cols ∙ c.loop-s.invariant.1,
      λ k j n. c.set_pivot.ensures.entries k j ∙ with_entry-other i x.0 y old k j n ∙ c.loop-s.invariant.2 k j n,
      free-step f v all (s - 1) x c.args.c (old i) (new i) l e c.requires.form c.requires.free
          (λ j. c.loop-s.invariant.3 j ∙ ap (λ n. free_vector f.laws (exact_rows f.laws v (drop n all)) c.args.c j) (sym es))
          (λ j. c.set_pivot.ensures.entries i j ∙ with_entry-row i x.0 y old j),
    )
