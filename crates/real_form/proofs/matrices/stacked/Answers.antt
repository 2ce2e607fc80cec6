use Rattle.std.proofs.Common.{◌≡◌, ◌<◌, ◌*◌, ◌/◌, ◌%◌, ℕ, sym, ◌∙◌, ap, subst, arith, length, get_or, below_more}
use Rattle.std.proofs.lemmas.Nat.{div_below}
use Rattle.cyclo24.specs.K24.{exact24}
use Rattle.cyclo24.specs.Z24.{exact_z24}
use Rattle.cyclo24.specs.ExactK24.{k24_laws}
use Rattle.cyclo24.specs.ExactZ24.{ExactZ24, z24_laws}
use Rattle.lin_alg.specs.Rows.{vector}
use Rattle.lin_alg.specs.Matrix.{entry}
use Rattle.induce.specs.Tables.{dimension_in, matrix_in}
use Rattle.real_form.specs.Parts.{orbit}
use Rattle.real_form.specs.Complexes.{z24_parts}
use Rattle.real_form.specs.Vectors.{vector_at}
use Rattle.real_form.specs.Wide.{IsWideImage}
use Rattle.real_form.proofs.ColumnLemmas.{vector_at-is, long-at}
use Rattle.real_form.proofs.matrices.stacked.Goals as goal

pub fill_column-requires-clause-length : goal.fill_column-requires-clause-length
fill_column-requires-clause-length c =
    let l : c.loop-m.m < length c.args.vectors.now = subst (λ (k : ℕ). c.loop-m.m < k) (sym c.requires.square) c.loop-m-test.true in
    ap length c.deref.ensures.value ∙ long-at (dimension_in c.args.induced.now.tables) c.args.vectors.now c.loop-m.m c.index-vectors-m.result l c.index-vectors-m.is c.requires.vectors

pub fill_column-requires-clause-elements : goal.fill_column-requires-clause-elements
fill_column-requires-clause-elements c k l =
    let m : k < c.args.count * length c.args.pivots.now = subst (λ (n : ℕ). k < n) c.loop-m.invariant.0 l in
    c.requires.elements (k / length c.args.pivots.now) (div_below k (length c.args.pivots.now) c.args.count (omega (arith, c.loop-m-test.true)) m)

pub returns-in-Err-clause-wide : goal.returns-in-Err-clause-wide
returns-in-Err-clause-wide c _ =
    let n = (dimension_in c.args.induced.now.tables) in
    let D = matrix_in c.args.quotient.now c.args.induced.now.tables in
    let l : c.loop-m.m < length c.args.vectors.now = subst (λ (k : ℕ). c.loop-m.m < k) (sym c.requires.square) c.loop-m-test.true in
    let at : vector z24_laws exact_z24 c.deref.result.now ≡ vector_at c.args.vectors.now c.loop-m.m =
    ap (vector z24_laws exact_z24) c.deref.ensures.value ∙ vector_at-is c.args.vectors.now c.loop-m.m c.index-vectors-m.result l c.index-vectors-m.is in
    let w = c.in-Err.ensures.wide in
    (c.loop-m.m, w.0, c.loop-m-test.true, w.1, subst (λ (v : ℕ → ExactZ24). IsWideImage n D w.0 v) at w.2)

pub loop-m-preserved : goal.loop-m-preserved
loop-m-preserved c =
    let n = (dimension_in c.args.induced.now.tables) in
    let D = matrix_in c.args.quotient.now c.args.induced.now.tables in
    let d = length c.args.pivots.now in
    let i = c.loop-m.m in
    let l : i < length c.args.vectors.now = subst (λ (k : ℕ). i < k) (sym c.requires.square) c.loop-m-test.true in
    let at : vector z24_laws exact_z24 c.deref.result.now ≡ vector_at c.args.vectors.now i =
    ap (vector z24_laws exact_z24) c.deref.ensures.value ∙ vector_at-is c.args.vectors.now i c.index-vectors-m.result l c.index-vectors-m.is in
    let new = c.fill_column.new.into in
    let t : ℕ → ℕ → _ = λ k m. orbit z24_parts n D (vector_at c.args.vectors.now m) ((k / d) * c.args.step) (get_or c.args.pivots.now (k % d) 0) in (
      c.in-Ok.ensures.rows ∙ c.loop-m.invariant.0,
      c.in-Ok.ensures.cols ∙ c.loop-m.invariant.1,
      λ k m lk lm.
          below_more (λ m. (k : ℕ) → k < c.args.count * d → entry k24_laws exact24 new k m ≡ t k m) i
          (λ m b k lk. c.in-Ok.ensures.others k m (λ e. absurd (omega (arith, b, e))) ∙ c.loop-m.invariant.2 k m lk b)
          (λ k lk. c.in-Ok.ensures.column k (subst (λ (x : ℕ). k < x) (sym c.loop-m.invariant.0) lk)
          ∙ ap (λ v. orbit z24_parts n D v ((k / d) * c.args.step) (get_or c.args.pivots.now (k % d) 0)) at) m lm k lk,
    )

pub returns-clause-entries : goal.returns-clause-entries
returns-clause-entries c k m lk lm = let past = c.loop-m-test.false in c.loop-m.invariant.2 k m lk (omega (arith, lm, past))
