use Rattle.std.proofs.Common.{◌≡◌, ap, subst, ℤ}
use Rattle.space_ops.specs.Op.{vector_of}
use Rattle.space_ops.specs.Matrix.{Vector}
use Rattle.space_ops.specs.declared.lattice.Lattice.{Lattice}
use Rattle.kstar.specs.WaveVector.{HasPhases}
use Rattle.kstar.specs.Fraction.{row_of}
use Rattle.kstar.specs.Star.{IsStarOf}
use Rattle.kstar.specs.StarLaws.{star-first, star-inequivalent, star-cover, star-orders, star-subgroup}
use Rattle.kstar.proofs.star.Star.new.Goals as goal

row-is : (c : goal.In-Ok) → vector_of c.row-row.result ≡ row_of c.args.k
row-is c = ap vector_of c.row-row.ensures.value

star-of : (c : goal.In-Ok) → IsStarOf c.args.group.now (row_of c.args.k) c.in-Ok.star
star-of c = subst (λ (k : Vector ℤ). IsStarOf c.args.group.now k c.in-Ok.star) (row-is c) c.in-Ok.ensures.star

pub returns-in-Ok-clause-first : goal.returns-in-Ok-clause-first
returns-in-Ok-clause-first c = star-first c.args.group.now c.in-Ok.ensures.group (row_of c.args.k) c.in-Ok.star (star-of c)

pub returns-in-Ok-clause-apart : goal.returns-in-Ok-clause-apart
returns-in-Ok-clause-apart c = star-inequivalent c.args.group.now c.in-Ok.ensures.group (row_of c.args.k) c.in-Ok.star (star-of c)

pub returns-in-Ok-clause-cover : goal.returns-in-Ok-clause-cover
returns-in-Ok-clause-cover c = star-cover c.args.group.now c.in-Ok.ensures.group (row_of c.args.k) c.in-Ok.star (star-of c)

pub returns-in-Ok-clause-orders : goal.returns-in-Ok-clause-orders
returns-in-Ok-clause-orders c = star-orders c.args.group.now c.in-Ok.ensures.group (row_of c.args.k) c.in-Ok.star (star-of c)

pub returns-in-Ok-clause-subgroup : goal.returns-in-Ok-clause-subgroup
returns-in-Ok-clause-subgroup c = star-subgroup c.args.group.now c.in-Ok.ensures.group (row_of c.args.k) c.in-Ok.star (star-of c)

pub star_of-requires-clause-phases : goal.star_of-requires-clause-phases
star_of-requires-clause-phases c = subst (λ (l : Lattice). HasPhases l (vector_of c.row-row.result)) c.lattice.ensures.value c.in_default.ensures

pub returns-in-Ok-clause-phases : goal.returns-in-Ok-clause-phases
returns-in-Ok-clause-phases c =
    subst (λ (k : Vector ℤ). HasPhases c.args.group.now.lattice k) (ap vector_of c.row-row.ensures.value)
    (subst (λ (l : Lattice). HasPhases l (vector_of c.row-row.result)) c.lattice.ensures.value c.in_default.ensures)

pub returns-in-Err-clause-memory : goal.returns-in-Err-clause-memory
returns-in-Err-clause-memory c e =
    subst (λ (k : Vector ℤ). HasPhases c.args.group.now.lattice k) (ap vector_of c.row-row.ensures.value)
    (subst (λ (l : Lattice). HasPhases l (vector_of c.row-row.result)) c.lattice.ensures.value c.in_default.ensures)
