use Rattle.std.proofs.Common.{◌≡◌, ap, ◌∙◌, subst, ℕ, List, inl, inr, arith}
use Rattle.std.proofs.lemmas.Bool.{cases_lt, false≢true}
use Rattle.space_ops.specs.Op.{vector_of, matrix_of, shift_of}
use Rattle.distort_match.specs.ListedCells.{supercell_edge}
use Rattle.distort_match.specs.CellPieces.{IsMultipleUnder}
use Rattle.distort_match.proofs.cell_frame.has_foreign_edge.Goals as goal

pub loop-axis-preserved : goal.loop-axis-preserved
loop-axis-preserved c i l = elim (cases_lt i c.loop-axis.axis) [
  | inl m ↦ c.loop-axis.invariant i m
  | inr m ↦
      let s : c.loop-axis.axis ≡ i = omega (arith, l, m) in
      let b = c.edge.ensures.value ∙ ap (λ (d : List ℕ). shift_of (supercell_edge d c.loop-axis.axis)) c.d.ensures ∙ ap (λ k. shift_of (supercell_edge c.args.quotient.now.d k)) s in
      subst (λ v. IsMultipleUnder c.args.parts.size (matrix_of c.args.parts.adjugate) (vector_of v)) b (c.is_combination.ensures.0 c.if-not-is_combination.false)
]

pub returns : goal.returns
returns c = (λ t. absurd (false≢true t), λ h. absurd (h.2 (c.loop-axis.invariant h.0 (omega (arith, h.1, c.loop-axis-test.false)))))
