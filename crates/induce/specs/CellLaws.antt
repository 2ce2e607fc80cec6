-- What members that differ by a translation of a supercell have in common, where k is whole on it.
--
-- rest-cell: what they have more than the listed operation has one phase
-- little_matrix-cell: their matrices are the same
use Rattle.std.proofs.Common.{◌≡◌, sym, ap, subst, ℕ, ℤ, List}
use Rattle.std.proofs.lemmas.Int.{ints}
use Rattle.std.proofs.Common.{arith}
use Rattle.space_ops.specs.Matrix.{Vector}
use Rattle.space_ops.specs.MatrixLaws.{same_vector}
use Rattle.space_ops.specs.Seitz.{Seitz}
use Rattle.space_ops.specs.Words.{op_at, vector_difference}
use Rattle.space_ops.specs.Group.{Parent, IsParentGroup}
use Rattle.space_ops.specs.GroupLaws.{place_of}
use Rattle.space_ops.specs.Member.{IsMemberOf, rotation_of, rest_of}
use Rattle.space_ops.specs.MemberLaws.{member-rest}
use Rattle.kstar.specs.WaveVector.{HasPhases, phase_of}
use Rattle.kstar.specs.WaveVectorLaws.{phases-lattice}
use Rattle.kstar.specs.Star.{WaveStar, IsStarOf}
use Rattle.super_group.specs.Supercell.{IsCell, IsSameElement}
use Rattle.small_rep.specs.SmallRep.{Matrices, little_matrix}
use Rattle.small_rep.specs.LittleMatrixLaws.{little_matrix-same}
use Rattle.induce.specs.CellPhase.{IsWholeOn}
use Rattle.induce.specs.CellPhaseLaws.{phase_of-cells}

same_rests : (a b t : Vector ℤ) → vector_difference a b ≡ vector_difference (vector_difference a t) (vector_difference b t)
same_rests a b t = same_vector _ _ (omega (arith, ints)) (omega (arith, ints)) (omega (arith, ints))

module _ (p : Parent) (h : IsParentGroup p) (k : Vector ℤ) (s : WaveStar) (star : IsStarOf p k s) (d : List ℕ) (whole-on : IsWholeOn d k) (phases : HasPhases p.lattice k) where
  pub rest-cell : (g g' : Seitz ℤ) → IsMemberOf p g → IsMemberOf p g' → IsSameElement d g g' → phase_of s.row (rest_of p g) ≡ phase_of s.row (rest_of p g')
  rest-cell g g' mg mg' e =
      let r : rotation_of p g ≡ rotation_of p g' = ap (place_of p.ops) e.rotation in
      let t = (op_at p.ops (rotation_of p g)).shift in
      let c : IsCell d (vector_difference (rest_of p g) (rest_of p g')) =
      subst (λ n. IsCell d (vector_difference (rest_of p g) (vector_difference g'.shift (op_at p.ops n).shift))) r (subst (IsCell d) (same_rests g.shift g'.shift t) e.translation) in
      let f : phase_of k (rest_of p g) ≡ phase_of k (rest_of p g') =
      phase_of-cells d k (rest_of p g) (rest_of p g') whole-on (phases-lattice p.lattice k phases (rest_of p g) (member-rest p h g mg)) (phases-lattice p.lattice k phases (rest_of p g') (member-rest p h g' mg')) c in
      subst (λ (l : Vector ℤ). phase_of l (rest_of p g) ≡ phase_of l (rest_of p g')) (sym star.row) f

  pub little_matrix-cell : (m : Matrices) (g g' : Seitz ℤ) → IsMemberOf p g → IsMemberOf p g' → IsSameElement d g g' → (x y : ℕ) → little_matrix p s m g x y ≡ little_matrix p s m g' x y
  little_matrix-cell m g g' mg mg' e x y = little_matrix-same p s m g g' (ap (place_of p.ops) e.rotation) (rest-cell g g' mg mg' e) x y
