-- Lattice vectors are a group under addition.
--
-- zero-lattice, sum-lattice, minus-lattice: the zero vector, sums and negatives
-- centring-lattice: centring vectors
-- edges-lattice: a lattice vector and whole cell edges
-- differ-refl, differ-sym, differ-trans: translations that differ by a lattice vector
-- difference_step, minus_difference, zero_difference: differences of vectors
-- image-lattice: images under a matrix that keeps the centring vectors
-- below_one, below_two, below_three, below_four: a property of each number below 1, 2, 3 or 4
use Rattle.std.proofs.Common.{◌≡◌, refl, sym, ap, ◌∙◌, subst, ℕ, zero, suc, ◌<◌, ℤ, pos, negsuc, length, arith}
use Rattle.std.proofs.lemmas.Int.{ints}
use Rattle.space_ops.specs.declared.lattice.Lattice.{Lattice}
use Rattle.space_ops.specs.declared.lattice.Lattice.TheVariants.{P, A, B, C, I, R, F}
use Rattle.algebra.specs.Whole.{whole}
use Rattle.algebra.specs.WholeLaws.{whole_ring}
use Rattle.space_ops.specs.Matrix.{Matrix, Vector, image_under, vector_sum, minus_vector, zero_vector}
use Rattle.space_ops.specs.MatrixLaws.{same_vector, image_under-sum}
use Rattle.space_ops.specs.Lattice.{centrings_of}
use Rattle.space_ops.specs.Words.{centring_at, cell_edges, IsLatticeVector, vector_difference}

vector : {lattice : Lattice} {v : Vector ℤ} (i : ℕ) → i < length (centrings_of lattice) → (x y z : ℤ)
    → v ≡ vector_sum whole (centring_at lattice i) (cell_edges (record { x = x; y = y; z = z })) → IsLatticeVector lattice v
vector i l x y z e = record { centring = i; listed = l; edges = record { x = x; y = y; z = z }; is = e }

pub below_one : (Q : ℕ → Type 0) → Q 0 → (i : ℕ) → i < 1 → Q i
below_one Q a zero l = a
below_one Q a (suc i) l = absurd (omega arith)

pub below_two : (Q : ℕ → Type 0) → Q 0 → Q 1 → (i : ℕ) → i < 2 → Q i
below_two Q a b zero l = a
below_two Q a b (suc i) l = below_one (λ k. Q (suc k)) b i (omega arith)

pub below_three : (Q : ℕ → Type 0) → Q 0 → Q 1 → Q 2 → (i : ℕ) → i < 3 → Q i
below_three Q a b c zero l = a
below_three Q a b c (suc i) l = below_two (λ k. Q (suc k)) b c i (omega arith)

pub below_four : (Q : ℕ → Type 0) → Q 0 → Q 1 → Q 2 → Q 3 → (i : ℕ) → i < 4 → Q i
below_four Q a b c d zero l = a
below_four Q a b c d (suc i) l = below_three (λ k. Q (suc k)) b c d i (omega arith)

abbrev Sum : Lattice → ℕ → ℕ → Type 0
Sum lattice i j = IsLatticeVector lattice (vector_sum whole (centring_at lattice i) (centring_at lattice j))

abbrev Minus : Lattice → ℕ → Type 0
Minus lattice i = IsLatticeVector lattice (minus_vector whole (centring_at lattice i))

-- the sum of two centring vectors
sum : (lattice : Lattice) (i j : ℕ) → i < length (centrings_of lattice) → j < length (centrings_of lattice) → Sum lattice i j
sum P = λ i j h k. below_one (λ i. (j : ℕ) → j < 1 → Sum P i j)
    (below_one (λ j. Sum P 0 j) (vector 0 (omega arith) (pos 0) (pos 0) (pos 0) refl))
    i h j k
sum A = λ i j h k. below_two (λ i. (j : ℕ) → j < 2 → Sum A i j)
    (below_two (λ j. Sum A 0 j) (vector 0 (omega arith) (pos 0) (pos 0) (pos 0) refl) (vector 1 (omega arith) (pos 0) (pos 0) (pos 0) refl))
    (below_two (λ j. Sum A 1 j) (vector 1 (omega arith) (pos 0) (pos 0) (pos 0) refl) (vector 0 (omega arith) (pos 0) (pos 1) (pos 1) refl))
    i h j k
sum B = λ i j h k. below_two (λ i. (j : ℕ) → j < 2 → Sum B i j)
    (below_two (λ j. Sum B 0 j) (vector 0 (omega arith) (pos 0) (pos 0) (pos 0) refl) (vector 1 (omega arith) (pos 0) (pos 0) (pos 0) refl))
    (below_two (λ j. Sum B 1 j) (vector 1 (omega arith) (pos 0) (pos 0) (pos 0) refl) (vector 0 (omega arith) (pos 1) (pos 0) (pos 1) refl))
    i h j k
sum C = λ i j h k. below_two (λ i. (j : ℕ) → j < 2 → Sum C i j)
    (below_two (λ j. Sum C 0 j) (vector 0 (omega arith) (pos 0) (pos 0) (pos 0) refl) (vector 1 (omega arith) (pos 0) (pos 0) (pos 0) refl))
    (below_two (λ j. Sum C 1 j) (vector 1 (omega arith) (pos 0) (pos 0) (pos 0) refl) (vector 0 (omega arith) (pos 1) (pos 1) (pos 0) refl))
    i h j k
sum I = λ i j h k. below_two (λ i. (j : ℕ) → j < 2 → Sum I i j)
    (below_two (λ j. Sum I 0 j) (vector 0 (omega arith) (pos 0) (pos 0) (pos 0) refl) (vector 1 (omega arith) (pos 0) (pos 0) (pos 0) refl))
    (below_two (λ j. Sum I 1 j) (vector 1 (omega arith) (pos 0) (pos 0) (pos 0) refl) (vector 0 (omega arith) (pos 1) (pos 1) (pos 1) refl))
    i h j k
sum R = λ i j h k. below_three (λ i. (j : ℕ) → j < 3 → Sum R i j)
    (below_three (λ j. Sum R 0 j) (vector 0 (omega arith) (pos 0) (pos 0) (pos 0) refl) (vector 1 (omega arith) (pos 0) (pos 0) (pos 0) refl) (vector 2 (omega arith) (pos 0) (pos 0) (pos 0) refl))
    (below_three (λ j. Sum R 1 j) (vector 1 (omega arith) (pos 0) (pos 0) (pos 0) refl) (vector 2 (omega arith) (pos 1) (pos 0) (pos 0) refl) (vector 0 (omega arith) (pos 1) (pos 1) (pos 1) refl))
    (below_three (λ j. Sum R 2 j) (vector 2 (omega arith) (pos 0) (pos 0) (pos 0) refl) (vector 0 (omega arith) (pos 1) (pos 1) (pos 1) refl) (vector 1 (omega arith) (pos 0) (pos 1) (pos 1) refl))
    i h j k
sum F = λ i j h k. below_four (λ i. (j : ℕ) → j < 4 → Sum F i j)
    (below_four (λ j. Sum F 0 j) (vector 0 (omega arith) (pos 0) (pos 0) (pos 0) refl) (vector 1 (omega arith) (pos 0) (pos 0) (pos 0) refl) (vector 2 (omega arith) (pos 0) (pos 0) (pos 0) refl) (vector 3 (omega arith) (pos 0) (pos 0) (pos 0) refl))
    (below_four (λ j. Sum F 1 j) (vector 1 (omega arith) (pos 0) (pos 0) (pos 0) refl) (vector 0 (omega arith) (pos 0) (pos 1) (pos 1) refl) (vector 3 (omega arith) (pos 0) (pos 0) (pos 1) refl) (vector 2 (omega arith) (pos 0) (pos 1) (pos 0) refl))
    (below_four (λ j. Sum F 2 j) (vector 2 (omega arith) (pos 0) (pos 0) (pos 0) refl) (vector 3 (omega arith) (pos 0) (pos 0) (pos 1) refl) (vector 0 (omega arith) (pos 1) (pos 0) (pos 1) refl) (vector 1 (omega arith) (pos 1) (pos 0) (pos 0) refl))
    (below_four (λ j. Sum F 3 j) (vector 3 (omega arith) (pos 0) (pos 0) (pos 0) refl) (vector 2 (omega arith) (pos 0) (pos 1) (pos 0) refl) (vector 1 (omega arith) (pos 1) (pos 0) (pos 0) refl) (vector 0 (omega arith) (pos 1) (pos 1) (pos 0) refl))
    i h j k

-- the negative of a centring vector
minus : (lattice : Lattice) (i : ℕ) → i < length (centrings_of lattice) → Minus lattice i
minus P = below_one (λ i. Minus P i) (vector 0 (omega arith) (pos 0) (pos 0) (pos 0) refl)
minus A = below_two (λ i. Minus A i) (vector 0 (omega arith) (pos 0) (pos 0) (pos 0) refl) (vector 1 (omega arith) (pos 0) (negsuc 0) (negsuc 0) refl)
minus B = below_two (λ i. Minus B i) (vector 0 (omega arith) (pos 0) (pos 0) (pos 0) refl) (vector 1 (omega arith) (negsuc 0) (pos 0) (negsuc 0) refl)
minus C = below_two (λ i. Minus C i) (vector 0 (omega arith) (pos 0) (pos 0) (pos 0) refl) (vector 1 (omega arith) (negsuc 0) (negsuc 0) (pos 0) refl)
minus I = below_two (λ i. Minus I i) (vector 0 (omega arith) (pos 0) (pos 0) (pos 0) refl) (vector 1 (omega arith) (negsuc 0) (negsuc 0) (negsuc 0) refl)
minus R = below_three (λ i. Minus R i) (vector 0 (omega arith) (pos 0) (pos 0) (pos 0) refl) (vector 2 (omega arith) (negsuc 0) (negsuc 0) (negsuc 0) refl) (vector 1 (omega arith) (negsuc 0) (negsuc 0) (negsuc 0) refl)
minus F = below_four (λ i. Minus F i) (vector 0 (omega arith) (pos 0) (pos 0) (pos 0) refl) (vector 1 (omega arith) (pos 0) (negsuc 0) (negsuc 0) refl) (vector 2 (omega arith) (negsuc 0) (pos 0) (negsuc 0) refl) (vector 3 (omega arith) (negsuc 0) (negsuc 0) (pos 0) refl)

pub zero-lattice : (lattice : Lattice) → IsLatticeVector lattice (zero_vector whole)
zero-lattice P = vector 0 (omega arith) (pos 0) (pos 0) (pos 0) refl
zero-lattice A = vector 0 (omega arith) (pos 0) (pos 0) (pos 0) refl
zero-lattice B = vector 0 (omega arith) (pos 0) (pos 0) (pos 0) refl
zero-lattice C = vector 0 (omega arith) (pos 0) (pos 0) (pos 0) refl
zero-lattice I = vector 0 (omega arith) (pos 0) (pos 0) (pos 0) refl
zero-lattice R = vector 0 (omega arith) (pos 0) (pos 0) (pos 0) refl
zero-lattice F = vector 0 (omega arith) (pos 0) (pos 0) (pos 0) refl

sum_split : (c d u v : Vector ℤ) → vector_sum whole (vector_sum whole c (cell_edges u)) (vector_sum whole d (cell_edges v)) ≡ vector_sum whole (vector_sum whole c d) (cell_edges (vector_sum whole u v))
sum_split c d u v = same_vector _ _ (omega (arith, ints)) (omega (arith, ints)) (omega (arith, ints))

minus_split : (c u : Vector ℤ) → minus_vector whole (vector_sum whole c (cell_edges u)) ≡ vector_sum whole (minus_vector whole c) (cell_edges (minus_vector whole u))
minus_split c u = same_vector _ _ (omega (arith, ints)) (omega (arith, ints)) (omega (arith, ints))

more_edges : (c u v : Vector ℤ) → vector_sum whole (vector_sum whole c (cell_edges u)) (cell_edges v) ≡ vector_sum whole c (cell_edges (vector_sum whole u v))
more_edges c u v = same_vector _ _ (omega (arith, ints)) (omega (arith, ints)) (omega (arith, ints))

-- a lattice vector and whole cell edges
pub edges-lattice : (lattice : Lattice) (t v : Vector ℤ) → IsLatticeVector lattice t → IsLatticeVector lattice (vector_sum whole t (cell_edges v))
edges-lattice lattice t v h = record {
  centring = h.centring;
  listed = h.listed;
  edges = vector_sum whole h.edges v;
  is = ap (λ w. vector_sum whole w (cell_edges v)) h.is ∙ more_edges (centring_at lattice h.centring) h.edges v;
}

pub centring-lattice : (lattice : Lattice) (i : ℕ) → i < length (centrings_of lattice) → IsLatticeVector lattice (centring_at lattice i)
centring-lattice lattice i l = record {
  centring = i;
  listed = l;
  edges = zero_vector whole;
  is = same_vector _ _ (omega (arith, ints)) (omega (arith, ints)) (omega (arith, ints));
}

pub sum-lattice : (lattice : Lattice) (s t : Vector ℤ) → IsLatticeVector lattice s → IsLatticeVector lattice t → IsLatticeVector lattice (vector_sum whole s t)
sum-lattice lattice s t h k =
    let c = centring_at lattice h.centring in
    let d = centring_at lattice k.centring in
    subst (IsLatticeVector lattice) (sym ((λ i. vector_sum whole (h.is i) (k.is i)) ∙ sum_split c d h.edges k.edges))
    (edges-lattice lattice (vector_sum whole c d) (vector_sum whole h.edges k.edges) (sum lattice h.centring k.centring h.listed k.listed))

pub minus-lattice : (lattice : Lattice) (t : Vector ℤ) → IsLatticeVector lattice t → IsLatticeVector lattice (minus_vector whole t)
minus-lattice lattice t h =
    let c = centring_at lattice h.centring in
    subst (IsLatticeVector lattice) (sym (ap (minus_vector whole) h.is ∙ minus_split c h.edges))
    (edges-lattice lattice (minus_vector whole c) (minus_vector whole h.edges) (minus lattice h.centring h.listed))

-- a matrix that takes each centring vector into the lattice takes each lattice vector into it
pub image-lattice : (lattice : Lattice) (r : Matrix ℤ) (t : Vector ℤ)
    → ((i : ℕ) → i < length (centrings_of lattice) → IsLatticeVector lattice (image_under whole r (centring_at lattice i)))
    → IsLatticeVector lattice t → IsLatticeVector lattice (image_under whole r t)
image-lattice lattice r t keep h =
    let c = centring_at lattice h.centring in
    subst (IsLatticeVector lattice) (sym (ap (image_under whole r) h.is ∙ image_under-sum whole whole_ring r (pos 12) c h.edges))
    (edges-lattice lattice (image_under whole r c) (image_under whole r h.edges) (keep h.centring h.listed))

pub difference_step : (r s t : Vector ℤ) → vector_sum whole (vector_difference r s) (vector_difference s t) ≡ vector_difference r t
difference_step r s t = same_vector _ _ (omega (arith, ints)) (omega (arith, ints)) (omega (arith, ints))

pub minus_difference : (s t : Vector ℤ) → minus_vector whole (vector_difference s t) ≡ vector_difference t s
minus_difference s t = same_vector _ _ (omega (arith, ints)) (omega (arith, ints)) (omega (arith, ints))

pub zero_difference : (t : Vector ℤ) → zero_vector whole ≡ vector_difference t t
zero_difference t = same_vector _ _ (omega (arith, ints)) (omega (arith, ints)) (omega (arith, ints))

-- differences by lattice vectors compose, turn round, and hold of each translation and itself
pub differ-trans : (lattice : Lattice) (r s t : Vector ℤ) → IsLatticeVector lattice (vector_difference r s) → IsLatticeVector lattice (vector_difference s t) → IsLatticeVector lattice (vector_difference r t)
differ-trans lattice r s t h k = subst (IsLatticeVector lattice) (difference_step r s t) (sum-lattice lattice (vector_difference r s) (vector_difference s t) h k)

pub differ-sym : (lattice : Lattice) (s t : Vector ℤ) → IsLatticeVector lattice (vector_difference s t) → IsLatticeVector lattice (vector_difference t s)
differ-sym lattice s t h = subst (IsLatticeVector lattice) (minus_difference s t) (minus-lattice lattice (vector_difference s t) h)

pub differ-refl : (lattice : Lattice) (t : Vector ℤ) → IsLatticeVector lattice (vector_difference t t)
differ-refl lattice t = subst (IsLatticeVector lattice) (zero_difference t) (zero-lattice lattice)
