use Rattle.std.proofs.Common.{◌≡◌, ap, ◌∙◌, subst, inl, inr, arith}
use Rattle.std.proofs.lemmas.Bool.{cases_lt}
use Rattle.space_ops.specs.Group.{Parent}
use Rattle.space_ops.specs.Op.{vector_of}
use Rattle.space_ops.specs.Words.{IsLatticeVector}
use Rattle.distort_match.specs.CellPieces.{column_of}
use Rattle.distort_match.proofs.cell_frame.has_foreign_column.Goals as goal

pub loop-j-preserved : goal.loop-j-preserved
loop-j-preserved c i l = elim (cases_lt i c.loop-j.j) [
  | inl m ↦ c.loop-j.invariant i m
  | inr m ↦
      let s : c.loop-j.j ≡ i = omega (arith, l, m) in
      let a = c.lattice.ensures.value ∙ ap (λ (p : Parent). p.lattice) c.group.ensures in
      let b = c.column.ensures ∙ ap (column_of c.args.rows) s in
      subst (λ (A : Type 0). A) (λ k. IsLatticeVector (a k) (vector_of (b k))) (c.contains.ensures.yes c.if-not-contains.false)
]
