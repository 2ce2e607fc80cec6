-- Points that are lattice translations, and the order of points.
use Rattle.std.proofs.Common.{◌≡◌, refl, sym, ap, ◌∙◌, ℕ, ◌/◌, inl, inr, ℤ, pos, ◌+ℤ◌, ◌*ℤ◌, ◌<ℤ◌, arith}
use Rattle.std.proofs.lemmas.Int.{ints}
use Rattle.std.proofs.lemmas.Cmp.{int_ranked, by_ranked, int_cmp_total, tied_itself}
use Rattle.std.specs.Ordering.{int_cmp, ordering_then}
use Rattle.std.specs.declared.cmp.Ordering.{Ordering}
use Rattle.std.specs.declared.cmp.Ordering.TheVariants.{Less, Equal}
use Rattle.space_ops.specs.declared.lattice.Lattice.{Lattice}
use Rattle.space_ops.specs.Matrix.{Vector}
use Rattle.space_ops.specs.MatrixLaws.{same_vector}
use Rattle.space_ops.specs.Op.{vector_of}
use Rattle.space_ops.specs.Lattice.{centrings_of, twelfths}
use Rattle.space_ops.specs.Words.{centring_at, IsLatticeVector}
use Rattle.space_ops.specs.LeastShift.{vector_cmp, IsTwelfth}
use Rattle.super_group.specs.TranslationLaws.{centrings-in_cell}
use Rattle.super_group.specs.TranslationsBefore.{IsBefore, IsAt, HasLayer, HasColumn, HasPoint}

-- the point (x, y, z)
abbrev pub point_at : ℕ → ℕ → ℕ → Vector ℤ
point_at x y z = vector_of (twelfths x y z)

-- a coordinate, and that of the centring vector
at_twelfth : (c u : ℤ) (x : ℕ) → IsTwelfth c → pos x ≡ c +ℤ (pos 12 *ℤ u) → IsAt c x
at_twelfth c u x h e = omega (arith, ints, h.0, h.1, e)

edges_above : (c : ℤ) (x : ℕ) → IsAt c x → pos x ≡ c +ℤ (pos 12 *ℤ pos (x / 12))
edges_above c x e = omega (arith, ints, e)

module _ (lattice : Lattice) where
  -- a centring vector with the coordinates of a lattice vector
  pub lattice-layer : (x : ℕ) (v : Vector ℤ) → IsLatticeVector lattice v → v.x ≡ pos x → HasLayer (centrings_of lattice) x
  lattice-layer x v h e =
      let c = centring_at lattice h.centring in
      let k = centrings-in_cell lattice h.centring h.listed in
      (h.centring, h.listed, at_twelfth c.x h.edges.x x k.0 (sym e ∙ ap (λ (w : Vector ℤ). w.x) h.is))

  pub lattice-column : (x y : ℕ) (v : Vector ℤ) → IsLatticeVector lattice v → v.x ≡ pos x → v.y ≡ pos y → HasColumn (centrings_of lattice) x y
  lattice-column x y v h e f =
      let c = centring_at lattice h.centring in
      let k = centrings-in_cell lattice h.centring h.listed in (
        h.centring,
        h.listed,
        at_twelfth c.x h.edges.x x k.0 (sym e ∙ ap (λ (w : Vector ℤ). w.x) h.is),
        at_twelfth c.y h.edges.y y k.1 (sym f ∙ ap (λ (w : Vector ℤ). w.y) h.is),
      )

  pub lattice-point : (x y z : ℕ) → IsLatticeVector lattice (point_at x y z) → HasPoint (centrings_of lattice) x y z
  lattice-point x y z h =
      let c = centring_at lattice h.centring in
      let k = centrings-in_cell lattice h.centring h.listed in (
        h.centring,
        h.listed,
        at_twelfth c.x h.edges.x x k.0 (ap (λ (w : Vector ℤ). w.x) h.is),
        at_twelfth c.y h.edges.y y k.1 (ap (λ (w : Vector ℤ). w.y) h.is),
        at_twelfth c.z h.edges.z z k.2 (ap (λ (w : Vector ℤ). w.z) h.is),
      )

  pub point-lattice : (x y z : ℕ) → HasPoint (centrings_of lattice) x y z → IsLatticeVector lattice (point_at x y z)
  point-lattice x y z (i, l, e, f, g) =
      let c = centring_at lattice i in
      record {
        centring = i;
        listed = l;
        edges = record { x = pos (x / 12); y = pos (y / 12); z = pos (z / 12) };
        is = same_vector _ _ (edges_above c.x x e) (edges_above c.y y f) (edges_above c.z z g);
      }

-- Less in order of coordinates
less_cmp : (a b : ℤ) → a <ℤ b → int_cmp a b ≡ Less
less_cmp a b l =
    by_ranked (a <ℤ b) (a ≡ b) (b <ℤ a) (int_cmp a b) (int_ranked a b (int_cmp a b) refl) (λ e _. e) (λ _ f. absurd (omega (arith, ints, f, l))) (λ _ g. absurd (omega (arith, ints, g, l)))

same_cmp : (a b : ℤ) (o : Ordering) → a ≡ b → ordering_then (int_cmp a b) o ≡ o
same_cmp a b o e = ap (λ c. ordering_then c o) (ap (int_cmp a) (sym e) ∙ tied_itself int_cmp_total a)

less_then : (o p : Ordering) → o ≡ Less → ordering_then o p ≡ Less
less_then o p e = ap (λ c. ordering_then c p) e

-- the second and the third coordinate in order
abbrev third_cmp : ℕ → Vector ℤ → Ordering
third_cmp z v = ordering_then (int_cmp v.z (pos z)) Equal

abbrev second_cmp : ℕ → ℕ → Vector ℤ → Ordering
second_cmp y z v = ordering_then (int_cmp v.y (pos y)) (third_cmp z v)

pub before_cmp : (x y z : ℕ) (v : Vector ℤ) → IsBefore x y z v → vector_cmp v (point_at x y z) ≡ Less
before_cmp x y z v (inl l) = less_then (int_cmp v.x (pos x)) (second_cmp y z v) (less_cmp v.x (pos x) l)
before_cmp x y z v (inr (e, inl l)) = same_cmp v.x (pos x) (second_cmp y z v) e ∙ less_then (int_cmp v.y (pos y)) (third_cmp z v) (less_cmp v.y (pos y) l)
before_cmp x y z v (inr (e, inr (f, l))) =
    same_cmp v.x (pos x) (second_cmp y z v) e ∙ same_cmp v.y (pos y) (third_cmp z v) f ∙ less_then (int_cmp v.z (pos z)) Equal (less_cmp v.z (pos z) l)
