use Rattle.std.proofs.Common.{◌≡◌, ◌<◌, ◌≤◌, ℕ, List, map, length, sym, ◌∙◌, subst, arith, below_more}
use Rattle.std.specs.List.{slice_index}
use Rattle.lin_alg.specs.Rows.{exact_rows, HaveWidth}
use Rattle.lin_alg.specs.Equations.{free_vector}
use Rattle.lin_alg.specs.Matrix.{entry}
use Rattle.lin_alg.proofs.echelon.free.fill_basis.Goals as goal

pub fill_free-requires-clause-row : goal.fill_free-requires-clause-row
fill_free-requires-clause-row g c =
    let rows : c.loop-i.basis.rows ≡ length c.args.columns.now = c.loop-i.invariant.0 ∙ c.requires.rows in
    subst (λ (n : ℕ). c.loop-i.i < n) (sym rows) c.loop-i-test.true

pub fill_free-requires-clause-column : goal.fill_free-requires-clause-column
fill_free-requires-clause-column g c = subst (λ (n : ℕ). slice_index c.args.columns.now c.loop-i.i < n) (sym c.loop-i.invariant.1) (c.requires.inside c.loop-i.i c.loop-i-test.true)

pub fill_free-requires-clause-shape : goal.fill_free-requires-clause-shape
fill_free-requires-clause-shape g c =
    let all : List (ℕ × List _) = map (λ r. (r.0, r.1.items)) c.args.lines.now in
    subst (λ (n : ℕ). HaveWidth n all) (sym c.loop-i.invariant.1) c.requires.shape

pub fill_free-requires-clause-zero : goal.fill_free-requires-clause-zero
fill_free-requires-clause-zero g c j = c.loop-i.invariant.3 c.loop-i.i j (omega arith)

pub loop-i-preserved : goal.loop-i-preserved
loop-i-preserved g c =
    let f = g.F.Field.field in
    let v = g.F.Field.value in
    let i = c.loop-i.i in
    let rs = exact_rows f.laws v (map (λ r. (r.0, r.1.items)) c.args.lines.now) in
    let new = c.fill_free.new.basis in
    let here : (j : ℕ) → entry f.laws v new i j ≡ free_vector f.laws rs (slice_index c.args.columns.now i) j = c.fill_free.ensures.vector in (
      c.fill_free.ensures.rows ∙ c.loop-i.invariant.0,
      c.fill_free.ensures.cols ∙ c.loop-i.invariant.1,
      below_more (λ k. (j : ℕ) → entry f.laws v new k j ≡ free_vector f.laws rs (slice_index c.args.columns.now k) j) i
          (λ k l j. let n : k ≡ i → ⊥ = λ e. absurd (omega (arith, e, l)) in c.fill_free.ensures.others k j n ∙ c.loop-i.invariant.2 k l j) here,
      λ k j l.
          let n : k ≡ i → ⊥ = λ e. absurd (omega (arith, e, l)) in
          let l' : i ≤ k = omega (arith, l) in
          c.fill_free.ensures.others k j n ∙ c.loop-i.invariant.3 k j l',
    )
