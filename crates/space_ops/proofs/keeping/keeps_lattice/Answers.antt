use Rattle.std.proofs.Common.{◌∙◌, subst, ℕ, ◌<◌, ℤ, List, [], length, get_or}
use Rattle.algebra.specs.Whole.{whole}
use Rattle.space_ops.specs.Matrix.{image_under}
use Rattle.space_ops.specs.Op.{matrix_of, vector_of}
use Rattle.space_ops.specs.Words.{centring_at, IsLatticeVector}
use Rattle.space_ops.specs.LatticeLaws.{centring-lattice, image-lattice}
use Rattle.space_ops.proofs.keeping.keeps_lattice.Goals as goal

pub returns-clause-yes : goal.returns-clause-yes
returns-clause-yes c e v h =
    image-lattice c.args.lattice (matrix_of c.args.rot) v
    (subst (λ (cs : List (List ℤ)). (i : ℕ) → i < length cs → IsLatticeVector c.args.lattice (image_under whole (matrix_of c.args.rot) (vector_of (get_or cs i []))))
    (c.as_slice.ensures.value ∙ c.centrings.ensures) (c.are_kept.ensures.yes e))
    h

pub returns-clause-no : goal.returns-clause-no
returns-clause-no c e =
    let w =
    subst (λ (cs : List (List ℤ)). (i : ℕ) × (i < length cs) × (IsLatticeVector c.args.lattice (image_under whole (matrix_of c.args.rot) (vector_of (get_or cs i []))) → ⊥))
    (c.as_slice.ensures.value ∙ c.centrings.ensures) (c.are_kept.ensures.no e) in
    record { vector = centring_at c.args.lattice w.0; inside = centring-lattice c.args.lattice w.0 w.1; outside = w.2 }
