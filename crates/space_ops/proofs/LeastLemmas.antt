-- The least of the reduced sums is the least translation.
use Rattle.std.proofs.Common.{◌≡◌, refl, sym, ap, ◌∙◌, subst, ℕ, ◌<◌, ◌+◌, ℤ, pos, ◌+ℤ◌, ◌*ℤ◌, List, [], length, get_or, cond, arith, below_more}
use Rattle.std.proofs.lemmas.Int.{ints}
use Rattle.std.proofs.lemmas.Cmp.{lists_total, int_cmp_total, tied_itself, alike_right}
use Rattle.std.specs.Int.{int_rem_euclid}
use Rattle.std.specs.Cmp.{IsTotalOrder}
use Rattle.std.specs.Ordering.{int_cmp, is_lt, ordering_reverse}
use Rattle.std.specs.Cmp.Lexicographic.{slice_cmp}
use Rattle.std.specs.declared.cmp.Ordering.{Ordering}
use Rattle.std.specs.declared.cmp.Ordering.TheVariants.{Less, Equal, Greater}
use Rattle.algebra.specs.MultipleLaws.{rem-whole}
use Rattle.space_ops.specs.declared.lattice.Lattice.{Lattice}
use Rattle.algebra.specs.Whole.{whole}
use Rattle.space_ops.specs.Matrix.{Vector, vector_sum}
use Rattle.space_ops.specs.MatrixLaws.{same_vector}
use Rattle.space_ops.specs.Op.{number_at, vector_of, shift_of}
use Rattle.space_ops.specs.Lattice.{centrings_of}
use Rattle.space_ops.specs.Words.{cell_edges, vector_difference}
use Rattle.space_ops.specs.LeastShift.{vector_cmp, IsInCell, IsFirstOfReduced, IsLeastArray, reduced_sum, earlier_of}
use Rattle.space_ops.specs.LeastShiftLaws.{reduced-unique, twelfth-rem}

triples : IsTotalOrder (slice_cmp int_cmp)
triples = lists_total int_cmp_total

-- the number without whole dozens
pub reduced_dozens : (z : ℤ) → (u : ℤ) × (int_rem_euclid z (pos 12) ≡ z +ℤ (pos 12 *ℤ u))
reduced_dozens z = rem-whole 12 (omega arith) z

-- the edges that the reduction takes
edges_of : (t c : List ℤ) → Vector ℤ
edges_of t c = record {
  x = (reduced_dozens (number_at t 0 +ℤ number_at c 0)).0;
  y = (reduced_dozens (number_at t 1 +ℤ number_at c 1)).0;
  z = (reduced_dozens (number_at t 2 +ℤ number_at c 2)).0;
}

reduced_is : (t c : List ℤ) → vector_of (reduced_sum t c) ≡ vector_sum whole (vector_sum whole (vector_of t) (vector_of c)) (cell_edges (edges_of t c))
unfolding edges_of
reduced_is t c =
    same_vector _ _ (reduced_dozens (number_at t 0 +ℤ number_at c 0)).1 (reduced_dozens (number_at t 1 +ℤ number_at c 1)).1 (reduced_dozens (number_at t 2 +ℤ number_at c 2)).1

reduced_in_cell : (t c : List ℤ) → IsInCell (vector_of (reduced_sum t c))
reduced_in_cell t c = (twelfth-rem _, twelfth-rem _, twelfth-rem _)

-- q before r, r not after s: q is not after s
before_not_after : (q r s : List ℤ) → slice_cmp int_cmp q r ≡ Less → (slice_cmp int_cmp r s ≡ Greater → ⊥) → slice_cmp int_cmp q s ≡ Greater → ⊥
before_not_after q r s e f g = by_order (slice_cmp int_cmp r s) refl where
  by_order : (o : Ordering) → o ≡ slice_cmp int_cmp r s → ⊥
  by_order Less p = let k : slice_cmp int_cmp q s ≡ Less = triples.trans q r s e (sym p) in cc
  by_order Equal p = let k : slice_cmp int_cmp q r ≡ slice_cmp int_cmp q s = alike_right triples r s q (sym p) in cc
  by_order Greater p = f (sym p)

-- one more vector, by its order
first_step : (t : List ℤ) (cs : List (List ℤ)) (n : ℕ) (r q : List ℤ) (o : Ordering) → o ≡ slice_cmp int_cmp q r → q ≡ reduced_sum t (get_or cs n [])
    → IsFirstOfReduced t cs n r → n < length cs → IsFirstOfReduced t cs (n + 1) (cond (is_lt o) q r)
first_step t cs n r q Less e k h l = record {
  place = n;
  below = l;
  is = k;
  first = below_more _ _ (λ i m. before_not_after q r (reduced_sum t (get_or cs i [])) (sym e) (h.first i m))
      (λ g. let d : slice_cmp int_cmp q q ≡ Equal = tied_itself triples q in let f : slice_cmp int_cmp q q ≡ Greater = ap (slice_cmp int_cmp q) k ∙ g in cc);
}
first_step t cs n r q Equal e k h l = record {
  place = h.place;
  below = h.below;
  is = h.is;
  first = below_more _ _ h.first (λ g. let f : slice_cmp int_cmp r q ≡ Equal = triples.antisymm r q ∙ ap ordering_reverse (sym e) in let d : slice_cmp int_cmp r q ≡ Greater = ap (slice_cmp int_cmp r) k ∙ g in cc);
}
first_step t cs n r q Greater e k h l = record {
  place = h.place;
  below = h.below;
  is = h.is;
  first = below_more _ _ h.first (λ g. let f : slice_cmp int_cmp r q ≡ Less = triples.antisymm r q ∙ ap ordering_reverse (sym e) in let d : slice_cmp int_cmp r q ≡ Greater = ap (slice_cmp int_cmp r) k ∙ g in cc);
}

pub first-more : (t : List ℤ) (cs : List (List ℤ)) (n : ℕ) (r q : List ℤ) → q ≡ reduced_sum t (get_or cs n []) → IsFirstOfReduced t cs n r → n < length cs
    → IsFirstOfReduced t cs (n + 1) (earlier_of r q)
first-more t cs n r q k h l = first_step t cs n r q (slice_cmp int_cmp q r) refl k h l

pub first-start : (t : List ℤ) (cs : List (List ℤ)) (r : List ℤ) → 0 < length cs → r ≡ reduced_sum t (get_or cs 0 []) → IsFirstOfReduced t cs 0 r
first-start t cs r l e = record { place = 0; below = l; is = e; first = λ i m. absurd (omega arith) }

less_t : (t c u : Vector ℤ) → vector_difference (vector_sum whole (vector_sum whole t c) (cell_edges u)) t ≡ vector_sum whole c (cell_edges u)
less_t t c u = same_vector _ _ (omega (arith, ints)) (omega (arith, ints)) (omega (arith, ints))

-- s - t = c + 12 u, and r = t + c + 12 v: s = r + 12 (u - v)
apart_by_edges : (s t c u r v : Vector ℤ) → vector_difference s t ≡ vector_sum whole c (cell_edges u) → r ≡ vector_sum whole (vector_sum whole t c) (cell_edges v)
    → s ≡ vector_sum whole r (cell_edges (vector_difference u v))
apart_by_edges s t c u r v e f =
    let ex : (vector_difference s t).x ≡ (vector_sum whole c (cell_edges u)).x = ap (λ (p : Vector ℤ). p.x) e in
    let ey : (vector_difference s t).y ≡ (vector_sum whole c (cell_edges u)).y = ap (λ (p : Vector ℤ). p.y) e in
    let ez : (vector_difference s t).z ≡ (vector_sum whole c (cell_edges u)).z = ap (λ (p : Vector ℤ). p.z) e in
    let fx : r.x ≡ (vector_sum whole (vector_sum whole t c) (cell_edges v)).x = ap (λ (p : Vector ℤ). p.x) f in
    let fy : r.y ≡ (vector_sum whole (vector_sum whole t c) (cell_edges v)).y = ap (λ (p : Vector ℤ). p.y) f in
    let fz : r.z ≡ (vector_sum whole (vector_sum whole t c) (cell_edges v)).z = ap (λ (p : Vector ℤ). p.z) f in
    same_vector _ _ (omega (arith, ints, ex, fx)) (omega (arith, ints, ey, fy)) (omega (arith, ints, ez, fz))

-- all vectors of a lattice
pub first-least : (lattice : Lattice) (t r : List ℤ) → IsFirstOfReduced t (centrings_of lattice) (length (centrings_of lattice)) r → IsLeastArray lattice t r
first-least lattice t r h =
    let c = get_or (centrings_of lattice) h.place [] in
    let is : vector_of r ≡ vector_sum whole (vector_sum whole (vector_of t) (vector_of c)) (cell_edges (edges_of t c)) = ap vector_of h.is ∙ reduced_is t c in
    record {
      translation = record {
        in_cell = subst (λ (x : List ℤ). IsInCell (vector_of x)) (sym h.is) (reduced_in_cell t c);
        same = record {
          centring = h.place;
          listed = h.below;
          edges = edges_of t c;
          is = ap (λ x. vector_difference x (vector_of t)) is ∙ less_t (vector_of t) (vector_of c) (edges_of t c);
        };
        least = λ s k m g.
            let d = get_or (centrings_of lattice) m.centring [] in
            let e : s ≡ vector_of (reduced_sum t d) =
            reduced-unique s (vector_of (reduced_sum t d)) (vector_difference m.edges (edges_of t d)) k (reduced_in_cell t d)
            (apart_by_edges s (vector_of t) (vector_of d) m.edges (vector_of (reduced_sum t d)) (edges_of t d) m.is (reduced_is t d)) in
            h.first m.centring m.listed (ap (λ (x : List ℤ). slice_cmp int_cmp x (reduced_sum t d)) shaped ∙ ap (vector_cmp (vector_of r)) (sym e) ∙ g);
      };
      shaped = shaped;
    } where
      shaped : r ≡ shift_of (vector_of r)
      shaped = h.is ∙ ap (λ (x : List ℤ). shift_of (vector_of x)) (sym h.is)
