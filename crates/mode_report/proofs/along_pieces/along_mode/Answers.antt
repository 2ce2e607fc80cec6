use Rattle.std.proofs.Common.{◌≡◌, ◌∙◌, ℕ, ◌+◌, ◌<◌, ◌≤◌, List, length, ap, sym, arith}
use Rattle.std.proofs.lemmas.Result.{IfOk-weaker}
use Rattle.cyclo24.specs.ExactK24.{Exact24, k24_laws}
use Rattle.cyclo24.specs.K24.{exact24}
use Rattle.iso_text.specs.declared.sections.IrrepText.{IrrepText}
use Rattle.lin_alg.specs.Matrix.{entry}
use Rattle.mode_report.specs.ModesReport.{mode_text}
use Rattle.mode_report.proofs.NamedRowLemmas.{row-here, row-behind, row-past, some-of}
use Rattle.mode_report.proofs.along_pieces.along_mode.Goals as goal

pub overflow_add-m : goal.overflow_add-m
overflow_add-m c = let n = c.in_ok-_count.ensures c.args.irreps.now c.requires.count in omega (arith, c.requires.mode, n)

pub returns-then-left-rows : goal.returns-then-left-rows
returns-then-left-rows c =
    let irreps = c.args.irreps.now in
    let ms = c.args.matrices.now in
    let j = c.loop-j.j in
    let left = c.loop-j.left in
    let i = c.index-irreps-j.result in
    let m = c.index-matrices-j.result in
    let l : j < length ms = omega (arith, c.loop-j-test.true, c.loop-j.invariant.end) in
    let k : j < length irreps = omega (arith, l, c.requires.count) in
    let n : left < m.rows = omega (arith, c.if-left-rows.true, c.rows-rows.ensures.value) in
    let f : List ℕ × (ℕ → Exact24) → List ℕ = λ y. mode_text c.args.atoms (c.args.m + 1, y) in
    let named : c.as_slice-name.result.now ≡ i.name = c.as_slice-name.ensures.value ∙ ap (λ (q : IrrepText). q.name) (sym c.index-irreps-j.is) in
    IfOk-weaker c.row_text.result (λ (t : List ℕ). t ≡ f (c.as_slice-name.result.now, entry k24_laws exact24 m left)) _
    (λ text h x s. h ∙ (λ t. f (named t, entry k24_laws exact24 m left)) ∙ ap f (row-here irreps ms j left i m x k l c.index-irreps-j.is c.index-matrices-j.is n (c.loop-j.invariant.rest x s))) c.row_text.ensures

pub loop-j-preserved : goal.loop-j-preserved
loop-j-preserved c =
    let irreps = c.args.irreps.now in
    let ms = c.args.matrices.now in
    let j = c.loop-j.j in
    let l : j < length ms = omega (arith, c.loop-j-test.true, c.loop-j.invariant.end) in
    let k : j < length irreps = omega (arith, l, c.requires.count) in
    record {
      end = c.loop-j.invariant.end;
      rest = λ x s. row-behind irreps ms j c.loop-j.left (some-of irreps j k) c.index-matrices-j.result x k l c.rows-rows.result c.index-matrices-j.is c.rows-rows.ensures.value c.if-left-rows.false (c.loop-j.invariant.rest x s);
    }

pub returns : goal.returns
returns c x s =
    let whole : length c.args.matrices.now ≤ c.loop-j.j = omega (arith, c.loop-j-test.false, c.loop-j.invariant.end) in
    absurd (row-past c.args.irreps.now c.args.matrices.now c.loop-j.j c.loop-j.left x c.requires.count whole (c.loop-j.invariant.rest x s))
