-- Laws of lattice vectors as centring vectors and whole cell edges.
--
-- centrings-apart: centring vectors with different numbers differ
-- centrings-in_cell: their coordinates are from 0 to 11
-- lattice_numbers-unique: a lattice vector has one centring and one triple of edges
use Rattle.std.proofs.Common.{◌≡◌, refl, sym, ap, ◌∙◌, ℕ, ◌<◌, ◌≤◌, ◌+◌, ◌*◌, ◌/◌, ℤ, pos, ◌+ℤ◌, ◌*ℤ◌, unsigned_abs, length, arith}
use Rattle.std.proofs.lemmas.Int.{ints}
use Rattle.space_ops.specs.declared.lattice.Lattice.{Lattice}
use Rattle.space_ops.specs.declared.lattice.Lattice.TheVariants.{P, A, B, C, I, R, F}
use Rattle.algebra.specs.Whole.{whole}
use Rattle.space_ops.specs.Matrix.{Vector, vector_sum}
use Rattle.space_ops.specs.MatrixLaws.{same_vector}
use Rattle.space_ops.specs.Lattice.{centrings_of}
use Rattle.space_ops.specs.LatticeLaws.{below_one, below_two, below_three, below_four}
use Rattle.space_ops.specs.Words.{centring_at, cell_edges, vector_difference}
use Rattle.space_ops.specs.LeastShift.{IsTwelfth, IsInCell}
use Rattle.space_ops.specs.LeastShiftLaws.{reduced-unique}

-- the number of a centring vector, from its coordinates
abbrev number_in : Lattice → Vector ℤ → ℕ
number_in P v = 0
number_in A v = unsigned_abs v.y / 6
number_in B v = unsigned_abs v.x / 6
number_in C v = unsigned_abs v.x / 6
number_in I v = unsigned_abs v.x / 6
number_in R v = unsigned_abs v.y / 4
number_in F v = unsigned_abs v.y / 6 + 2 * (unsigned_abs v.x / 6)

number_in-centring : (lattice : Lattice) (i : ℕ) → i < length (centrings_of lattice) → number_in lattice (centring_at lattice i) ≡ i
number_in-centring P = below_one (λ i. number_in P (centring_at P i) ≡ i) refl
number_in-centring A = below_two (λ i. number_in A (centring_at A i) ≡ i) refl refl
number_in-centring B = below_two (λ i. number_in B (centring_at B i) ≡ i) refl refl
number_in-centring C = below_two (λ i. number_in C (centring_at C i) ≡ i) refl refl
number_in-centring I = below_two (λ i. number_in I (centring_at I i) ≡ i) refl refl
number_in-centring R = below_three (λ i. number_in R (centring_at R i) ≡ i) refl refl refl
number_in-centring F = below_four (λ i. number_in F (centring_at F i) ≡ i) refl refl refl refl

pub centrings-apart : (lattice : Lattice) (i j : ℕ) → i < length (centrings_of lattice) → j < length (centrings_of lattice) → centring_at lattice i ≡ centring_at lattice j → i ≡ j
centrings-apart lattice i j l m e = sym (number_in-centring lattice i l) ∙ ap (number_in lattice) e ∙ number_in-centring lattice j m

twelfth : (n : ℕ) → n ≤ 11 → IsTwelfth (pos n)
twelfth n l = (omega (arith, ints), omega (arith, ints))

in_cell : (x y z : ℕ) → x ≤ 11 → y ≤ 11 → z ≤ 11 → IsInCell (record { x = pos x; y = pos y; z = pos z })
in_cell x y z l m n = (twelfth x l, twelfth y m, twelfth z n)

abbrev Small : Lattice → ℕ → Type 0
Small lattice i = IsInCell (centring_at lattice i)

pub centrings-in_cell : (lattice : Lattice) (i : ℕ) → i < length (centrings_of lattice) → IsInCell (centring_at lattice i)
centrings-in_cell P = below_one (Small P) (in_cell 0 0 0 (omega arith) (omega arith) (omega arith))
centrings-in_cell A = below_two (Small A) (in_cell 0 0 0 (omega arith) (omega arith) (omega arith)) (in_cell 0 6 6 (omega arith) (omega arith) (omega arith))
centrings-in_cell B = below_two (Small B) (in_cell 0 0 0 (omega arith) (omega arith) (omega arith)) (in_cell 6 0 6 (omega arith) (omega arith) (omega arith))
centrings-in_cell C = below_two (Small C) (in_cell 0 0 0 (omega arith) (omega arith) (omega arith)) (in_cell 6 6 0 (omega arith) (omega arith) (omega arith))
centrings-in_cell I = below_two (Small I) (in_cell 0 0 0 (omega arith) (omega arith) (omega arith)) (in_cell 6 6 6 (omega arith) (omega arith) (omega arith))
centrings-in_cell R =
    below_three (Small R) (in_cell 0 0 0 (omega arith) (omega arith) (omega arith)) (in_cell 8 4 4 (omega arith) (omega arith) (omega arith))
    (in_cell 4 8 8 (omega arith) (omega arith) (omega arith))
centrings-in_cell F =
    below_four (Small F) (in_cell 0 0 0 (omega arith) (omega arith) (omega arith)) (in_cell 0 6 6 (omega arith) (omega arith) (omega arith))
    (in_cell 6 0 6 (omega arith) (omega arith) (omega arith)) (in_cell 6 6 0 (omega arith) (omega arith) (omega arith))

-- centring number i and so many cell edges
abbrev pub lattice_vector : Lattice → ℕ → Vector ℤ → Vector ℤ
lattice_vector lattice i u = vector_sum whole (centring_at lattice i) (cell_edges u)

rest : (c d u v : ℤ) → c +ℤ (pos 12 *ℤ u) ≡ d +ℤ (pos 12 *ℤ v) → c ≡ d +ℤ (pos 12 *ℤ whole.add v (whole.neg u))
rest c d u v e = omega (arith, ints, e)

equal_edges : (c d u v : ℤ) → c +ℤ (pos 12 *ℤ u) ≡ d +ℤ (pos 12 *ℤ v) → c ≡ d → u ≡ v
equal_edges c d u v e f = omega (arith, ints, e, f)

-- two centring vectors and whole edges with one sum: their edges differ by what the centrings do
centrings-equal : (lattice : Lattice) (i j : ℕ) (u v : Vector ℤ) → i < length (centrings_of lattice) → j < length (centrings_of lattice)
    → lattice_vector lattice i u ≡ lattice_vector lattice j v → centring_at lattice i ≡ centring_at lattice j
centrings-equal lattice i j u v l m e =
    let c = centring_at lattice i in
    let d = centring_at lattice j in
    reduced-unique c d (vector_difference v u) (centrings-in_cell lattice i l) (centrings-in_cell lattice j m)
    (same_vector c (vector_sum whole d (cell_edges (vector_difference v u)))
    (rest c.x d.x u.x v.x (ap (λ (p : Vector ℤ). p.x) e))
    (rest c.y d.y u.y v.y (ap (λ (p : Vector ℤ). p.y) e))
    (rest c.z d.z u.z v.z (ap (λ (p : Vector ℤ). p.z) e)))

-- a lattice vector has one centring and one triple of edges
pub lattice_numbers-unique : (lattice : Lattice) (i j : ℕ) (u v : Vector ℤ) → i < length (centrings_of lattice) → j < length (centrings_of lattice)
    → lattice_vector lattice i u ≡ lattice_vector lattice j v → (i ≡ j) × (u ≡ v)
lattice_numbers-unique lattice i j u v l m e =
    let c = centring_at lattice i in
    let d = centring_at lattice j in
    let f = centrings-equal lattice i j u v l m e in (
      centrings-apart lattice i j l m f,
      same_vector u v
          (equal_edges c.x d.x u.x v.x (ap (λ (p : Vector ℤ). p.x) e) (ap (λ (p : Vector ℤ). p.x) f))
          (equal_edges c.y d.y u.y v.y (ap (λ (p : Vector ℤ). p.y) e) (ap (λ (p : Vector ℤ). p.y) f))
          (equal_edges c.z d.z u.z v.z (ap (λ (p : Vector ℤ). p.z) e) (ap (λ (p : Vector ℤ). p.z) f)),
    )
