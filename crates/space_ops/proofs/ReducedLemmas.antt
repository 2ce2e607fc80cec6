-- A translation and the same reduced to the cell differ by whole cell edges.
use Rattle.std.proofs.Common.{◌≡◌, sym, subst, ℤ, pos, ◌+ℤ◌, ◌*ℤ◌, neg_ℤ, arith}
use Rattle.std.proofs.lemmas.Int.{ints}
use Rattle.space_ops.specs.declared.lattice.Lattice.{Lattice}
use Rattle.algebra.specs.Whole.{whole}
use Rattle.space_ops.specs.Matrix.{Vector, vector_sum, minus_vector}
use Rattle.space_ops.specs.MatrixLaws.{same_vector}
use Rattle.space_ops.specs.Words.{cell_edges, vector_difference, IsLatticeVector}
use Rattle.space_ops.specs.LatticeLaws.{edges-lattice}
use Rattle.space_ops.specs.LeastShift.{reduced_vector}
use Rattle.space_ops.proofs.LeastLemmas.{reduced_dozens}

edges_taken : Vector ℤ → Vector ℤ
edges_taken v = record { x = (reduced_dozens v.x).0; y = (reduced_dozens v.y).0; z = (reduced_dozens v.z).0 }

more_less : (r z u t : ℤ) → r ≡ z +ℤ (pos 12 *ℤ u) → r +ℤ neg_ℤ t ≡ (z +ℤ neg_ℤ t) +ℤ (pos 12 *ℤ u)
more_less r z u t e = omega (arith, ints, e)

back_less : (r z u t : ℤ) → r ≡ z +ℤ (pos 12 *ℤ u) → z +ℤ neg_ℤ t ≡ (r +ℤ neg_ℤ t) +ℤ (pos 12 *ℤ neg_ℤ u)
back_less r z u t e = omega (arith, ints, e)

back_dozens : (r z u : ℤ) → r ≡ z +ℤ (pos 12 *ℤ u) → z ≡ r +ℤ (pos 12 *ℤ neg_ℤ u)
back_dozens r z u e = omega (arith, ints, e)

module _ (lattice : Lattice) (v : Vector ℤ) where
  abbrev taken : Vector ℤ
  taken = edges_taken v

  pub reduced-in : IsLatticeVector lattice v → IsLatticeVector lattice (reduced_vector v)
  unfolding edges_taken
  reduced-in h =
      subst (IsLatticeVector lattice) (sym (same_vector (reduced_vector v) (vector_sum whole v (cell_edges taken)) (reduced_dozens v.x).1 (reduced_dozens v.y).1 (reduced_dozens v.z).1))
      (edges-lattice lattice v taken h)

  pub reduced-out : IsLatticeVector lattice (reduced_vector v) → IsLatticeVector lattice v
  unfolding edges_taken
  reduced-out h =
      let r = reduced_vector v in
      subst (IsLatticeVector lattice)
      (sym (same_vector v (vector_sum whole r (cell_edges (minus_vector whole taken)))
      (back_dozens r.x v.x (reduced_dozens v.x).0 (reduced_dozens v.x).1) (back_dozens r.y v.y (reduced_dozens v.y).0 (reduced_dozens v.y).1)
      (back_dozens r.z v.z (reduced_dozens v.z).0 (reduced_dozens v.z).1)))
      (edges-lattice lattice r (minus_vector whole taken) h)

  pub reduced-differ-in : (t : Vector ℤ) → IsLatticeVector lattice (vector_difference v t) → IsLatticeVector lattice (vector_difference (reduced_vector v) t)
  unfolding edges_taken
  reduced-differ-in t h =
      let r = reduced_vector v in
      subst (IsLatticeVector lattice)
      (sym (same_vector (vector_difference r t) (vector_sum whole (vector_difference v t) (cell_edges taken))
      (more_less r.x v.x (reduced_dozens v.x).0 t.x (reduced_dozens v.x).1) (more_less r.y v.y (reduced_dozens v.y).0 t.y (reduced_dozens v.y).1)
      (more_less r.z v.z (reduced_dozens v.z).0 t.z (reduced_dozens v.z).1)))
      (edges-lattice lattice (vector_difference v t) taken h)

  pub reduced-differ-out : (t : Vector ℤ) → IsLatticeVector lattice (vector_difference (reduced_vector v) t) → IsLatticeVector lattice (vector_difference v t)
  unfolding edges_taken
  reduced-differ-out t h =
      let r = reduced_vector v in
      subst (IsLatticeVector lattice)
      (sym (same_vector (vector_difference v t) (vector_sum whole (vector_difference r t) (cell_edges (minus_vector whole taken)))
      (back_less r.x v.x (reduced_dozens v.x).0 t.x (reduced_dozens v.x).1) (back_less r.y v.y (reduced_dozens v.y).0 t.y (reduced_dozens v.y).1)
      (back_less r.z v.z (reduced_dozens v.z).0 t.z (reduced_dozens v.z).1)))
      (edges-lattice lattice (vector_difference r t) (minus_vector whole taken) h)
