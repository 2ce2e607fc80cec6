use Rattle.std.proofs.Common.{◌∙◌, subst, ℕ, ◌<◌, ℤ, List, [], length, get_or}
use Rattle.space_ops.specs.Op.{vector_of}
use Rattle.algebra.specs.Multiples.{IsMultiple}
use Rattle.kstar.specs.WaveVector.{row_value}
use Rattle.kstar.specs.WaveVectorLaws.{whole-generated, whole-centrings, whole-edges}
use Rattle.kstar.proofs.equivalence.is_reciprocal.Goals as goal

pub returns-then-are_dozens-clause-yes : goal.returns-then-are_dozens-clause-yes
returns-then-are_dozens-clause-yes c e =
    whole-generated c.args.lattice (vector_of c.args.row) (c.are_dozens.ensures.yes c.if-are_dozens.true)
    (subst (λ (cs : List (List ℤ)). (i : ℕ) → i < length cs → IsMultiple 144 (row_value (vector_of c.args.row) (vector_of (get_or cs i []))))
    (c.as_slice.ensures.value ∙ c.centrings.ensures) (c.are_whole.ensures.yes e))

pub returns-then-are_dozens-clause-no : goal.returns-then-are_dozens-clause-no
returns-then-are_dozens-clause-no c e w =
    let b =
    subst (λ (cs : List (List ℤ)). (i : ℕ) × (i < length cs) × (IsMultiple 144 (row_value (vector_of c.args.row) (vector_of (get_or cs i []))) → ⊥))
    (c.as_slice.ensures.value ∙ c.centrings.ensures) (c.are_whole.ensures.no e) in
    b.2 (whole-centrings c.args.lattice (vector_of c.args.row) w b.0 b.1)

pub returns-else-are_dozens-clause-no : goal.returns-else-are_dozens-clause-no
returns-else-are_dozens-clause-no c e w = c.are_dozens.ensures.no e (whole-edges c.args.lattice (vector_of c.args.row) w)
