use Rattle.std.proofs.Common.{◌≡◌, ◌<◌, ◌≤◌, ℕ, true, sym, ◌∙◌, ap, subst, arith, length, to_z, of_z, w8}
use Rattle.std.proofs.lemmas.Int.{to_z-of_z}
use Rattle.cyclo24.specs.ExactField.{Value}
use Rattle.cyclo24.specs.Numerals.{of_whole}
use Rattle.lin_alg.specs.Matrix.{IsWideTerm}
use Rattle.lin_alg.specs.RowLaws.{vector-past}
use Rattle.lin_alg.specs.Rows.{vector}
use Rattle.mode_project.specs.Parts.{more}
use Rattle.mode_project.proofs.TermLemmas.{add-right_nought, nought-more, factors-wide, on-err}
use Rattle.mode_project.proofs.VectorLemmas.{vector-at}
use Rattle.mode_project.proofs.WriteLemmas.{IsWritten, written-start, written-set, written-kept, written-all}
use Rattle.mode_project.proofs.rows.add_row.Goals as goal
use Rattle.mode_project.proofs.rows.add_row.Goals.{then-not-is_zero+in_ok-into, else-not-is_zero}

pub loop-r-init : goal.loop-r-init
loop-r-init g c =
    let f = g.F.Field.field in
    let v = g.F.Field.value in
    written-start f v (more f.laws (vector f.laws v c.args.into.now) (of_whole f.laws (to_z w8 (of_z w8 c.args.n))) (vector f.laws v c.args.row.now)) c.args.into.now

pub loop-r-preserved : goal.loop-r-preserved
loop-r-preserved g c =
    let f = g.F.Field.field in
    let v = g.F.Field.value in
    let into = c.loop-r.into in
    let r = c.loop-r.r in
    let x = of_whole f.laws (to_z w8 (of_z w8 c.args.n)) in
    let start = vector f.laws v c.args.into.now in
    let row = vector f.laws v c.args.row.now in
    let target = more f.laws start x row in
    let t : IsWritten f v target start into r = c.loop-r.invariant in
    let r_into : r < length into = omega (arith, c.loop-r.auto.into, c.loop-r-test.true) in
    let r_row : r < length c.args.row.now = omega (arith, c.requires.room, c.loop-r-test.true) in
    elim c.if-not-is_zero.branch [
      | then-not-is_zero+in_ok-into w ↦
          let at_into = vector-at f v into r w.index-into-r.result r_into w.index-into-r.is in
          let own : r ≤ r = omega arith in
          let kept = t.ahead r own in
          let at_row = vector-at f v c.args.row.now r w.index-row-r-then-not-is_zero.result r_row w.index-row-r-then-not-is_zero.is in
          let e : v w.in_ok-into.field-0 ≡ target r = w.in_ok-into.ensures.exact ∙ (λ z. f.laws.plus ((sym at_into ∙ kept) z) (f.laws.times x (sym at_row z))) in
          rw w.into-is (written-set f v target start into r w.in_ok-into.field-0 r_into e t)
      | else-not-is_zero w ↦
          let at_row = vector-at f v c.args.row.now r c.index-row-r.result r_row c.index-row-r.is in
          let z : f.laws.is_nought (row r) ≡ true = cc (at_row, c.is_zero.ensures, w.if-not-is_zero.false) in
          rw w.into-is (written-kept f v target start into r (add-right_nought f.laws (start r) x (row r) z) t)
    ]

pub returns-clause-exact : goal.returns-clause-exact
returns-clause-exact g c =
    let f = g.F.Field.field in
    let v = g.F.Field.value in
    let into = c.loop-r.into in
    let x = of_whole f.laws (to_z w8 (of_z w8 c.args.n)) in
    let start = vector f.laws v c.args.into.now in
    let row = vector f.laws v c.args.row.now in
    let len : length into ≡ length c.args.into.now = c.loop-r.auto.into in
    let past : length into ≤ c.loop-r.r = omega (arith, len, c.loop-r-test.false) in
    written-all f v (more f.laws start x row) start into c.loop-r.r past
    (λ k l. nought-more f.laws (start k) x (row k) (vector-past f v c.args.into.now k (subst (λ (n : ℕ). n ≤ k) len l)) (vector-past f v c.args.row.now k (subst (λ (n : ℕ). n ≤ k) (len ∙ c.requires.room) l))) c.loop-r.invariant
    ∙ ap (λ m. more f.laws start (of_whole f.laws m) row) (to_z-of_z w8 c.args.n c.ranges.n)

pub returns-in_err-into-clause-wide : goal.returns-in_err-into-clause-wide
returns-in_err-into-clause-wide g c =
    let f = g.F.Field.field in
    let v = g.F.Field.value in
    let into = c.loop-r.into in
    let r = c.loop-r.r in
    let start = vector f.laws v c.args.into.now in
    let row = vector f.laws v c.args.row.now in
    let r_into : r < length into = omega (arith, c.loop-r.auto.into, c.loop-r-test.true) in
    let r_row : r < length c.args.row.now = omega (arith, c.requires.room, c.loop-r-test.true) in
    let at_into = vector-at f v into r c.index-into-r.result r_into c.index-into-r.is in
    let own : r ≤ r = omega arith in
    let kept = c.loop-r.invariant.ahead r own in
    let at_row = vector-at f v c.args.row.now r c.index-row-r-then-not-is_zero.result r_row c.index-row-r-then-not-is_zero.is in
    on-err c.from_residual.result ((r : ℕ) × (r < length c.args.row.now) × IsWideTerm f (start r) (of_whole f.laws c.args.n) (row r)) (
      r,
      r_row,
      subst (λ (y : Value f). IsWideTerm f y (of_whole f.laws c.args.n) (row r)) (sym at_into ∙ kept)
          (factors-wide f (v c.index-into-r.result) (of_whole f.laws (to_z w8 (of_z w8 c.args.n))) (v c.index-row-r-then-not-is_zero.result) (of_whole f.laws c.args.n) (row r) (ap (of_whole f.laws) (to_z-of_z w8 c.args.n c.ranges.n)) (sym at_row) c.in_err-into.ensures.wide),
    )
