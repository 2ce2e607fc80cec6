-- What an atom may have besides a displacement, and how the elements of a quotient move it.
--
-- scalar: one number, which no rotation turns
-- axial_vector: three numbers along the cell edges, which a rotation R turns by det(R) R
-- quantity_of nature: an occupation is a scalar
-- extra_space nature g o: these at the atoms of an orbit; an element takes them, turned by its rotation, to the image of the atom
use Rattle.algebra.specs.Whole.{whole}
use Rattle.space_ops.specs.Matrix.{unit_matrix, scaled, determinant}
use Rattle.super_group.specs.Quotient.{SupercellGroup}
use Rattle.wyckoff.specs.Orbit.{OrbitView}
use Rattle.mode_project.specs.AtomSpace.{AtomSpace, Quantity, space_of}
use Rattle.extra_modes.specs.declared.nature.Nature.{Nature}
use Rattle.extra_modes.specs.declared.nature.Nature.TheVariants.{Occupation, Axial}

abbrev pub scalar : Quantity
scalar = record { each = 1; matrix = λ r. unit_matrix whole }

abbrev pub axial_vector : Quantity
axial_vector = record { each = 3; matrix = λ r. scaled whole (determinant whole r) r }

abbrev pub quantity_of : Nature → Quantity
quantity_of Occupation = scalar
quantity_of Axial = axial_vector

abbrev pub extra_space : Nature → SupercellGroup → OrbitView → AtomSpace
extra_space nature g o = space_of g o (quantity_of nature)
