-- One coordinate of a displacement, and the three together.
use Rattle.std.proofs.Common.{◌≡◌, refl, sym, ap, ◌∙◌, subst, ℕ, ◌<◌, ◌≤◌, ◌*◌, inl, inr, ◌⊎◌, ℤ, pos, negsuc, neg_ℤ, ◌+ℤ◌, ◌*ℤ◌, ◌≤ℤ◌, ◌<ℤ◌, List, length, slice_index_or, Option, Some, None, arith}
use Rattle.std.proofs.lemmas.Int.{ints}
use Rattle.std.proofs.lemmas.List.{get_or_default}
use Rattle.std.specs.Int.{int_rem_euclid}
use Rattle.algebra.specs.Multiples.{IsMultiple, IsWithinModulus}
use Rattle.algebra.specs.MultipleLaws.{multiple_sum, multiple_minus, rem-within, rem-differs, within-unique}
use Rattle.algebra.specs.WholeLaws.{whole_ring}
use Rattle.std.proofs.Math.IntN.{pos-*ℤ-pos}
use Rattle.space_ops.specs.Matrix.{Vector}
use Rattle.space_ops.specs.MatrixLaws.{same_vector}
use Rattle.super_group.specs.Supercell.{multiplier}
use Rattle.distort_match.specs.Matches.{IsNear, IsDisplacement}
use Rattle.distort_match.specs.FoundParts.{IsNearestOf, IsAlong, IsAlongFound}

one_time : (n : ℕ) → pos n ≡ pos n *ℤ pos 1
one_time n = omega (arith, ints)

itself : (n : ℕ) → IsMultiple n (pos n)
itself n = record { quotient = pos 1; is = one_time n }

less_once : (n : ℕ) (rest y v : ℤ) → v ≡ rest +ℤ neg_ℤ (pos n) → (rest +ℤ neg_ℤ y) +ℤ neg_ℤ (pos n) ≡ v +ℤ neg_ℤ y
less_once n rest y v e = omega (arith, ints, e)

between : (v rest y : ℤ) → (v +ℤ neg_ℤ y) +ℤ neg_ℤ (rest +ℤ neg_ℤ y) ≡ v +ℤ neg_ℤ rest
between v rest y = omega (arith, ints)

once_more : (n : ℕ) (v rest : ℤ) → (v +ℤ neg_ℤ rest) +ℤ pos n ≡ (v +ℤ pos n) +ℤ neg_ℤ rest
once_more n v rest = omega (arith, ints)

module _ (n : ℕ) (big : 12000000 ≤ n) (x a tolerance : ℤ) (some : pos 0 ≤ℤ tolerance) (small : tolerance <ℤ pos 3000000) where
  abbrev y : ℤ
  y = x +ℤ neg_ℤ a

  abbrev rest : ℤ
  rest = int_rem_euclid y (pos n)

  positive : 0 < n
  positive = omega arith

  differs : IsMultiple n (rest +ℤ neg_ℤ y)
  differs = rem-differs n positive y

  within : IsWithinModulus n rest
  within = rem-within n positive y

  no_other : (tolerance <ℤ rest) × ((rest +ℤ neg_ℤ (pos n)) <ℤ neg_ℤ tolerance) → (v : ℤ) → IsAlong n tolerance x a v → ⊥
  no_other h v k =
      let m : IsMultiple n (v +ℤ neg_ℤ rest) =
      subst (IsMultiple n) (between v rest y) (multiple_sum n (v +ℤ neg_ℤ y) (neg_ℤ (rest +ℤ neg_ℤ y)) k.0 (multiple_minus n (rest +ℤ neg_ℤ y) differs)) in
      by_sign v k.1 m
    where
      by_sign : (v : ℤ) → IsNear tolerance v → IsMultiple n (v +ℤ neg_ℤ rest) → ⊥
      by_sign (pos v) near m =
          let e : pos v ≡ rest = within-unique n (pos v) rest (omega (arith, ints), omega (arith, ints, near.1, small, big)) within m in
          omega (arith, ints, e, h.0, near.1)
      by_sign (negsuc v) near m =
          let e : negsuc v +ℤ pos n ≡ rest =
          within-unique n (negsuc v +ℤ pos n) rest (omega (arith, ints, near.0, small, big), omega (arith, ints)) within
          (subst (IsMultiple n) (once_more n (negsuc v) rest) (multiple_sum n (negsuc v +ℤ neg_ℤ rest) (pos n) m (itself n))) in
          omega (arith, ints, e, h.1, near.0)

  shifted : (v : ℤ) → ((v ≡ rest) ⊎ (v ≡ rest +ℤ neg_ℤ (pos n))) → IsMultiple n (v +ℤ neg_ℤ y)
  shifted v (inl e) = subst (λ (w : ℤ). IsMultiple n (w +ℤ neg_ℤ y)) (sym e) differs
  shifted v (inr e) =
      subst (IsMultiple n) (less_once n rest y v e) (multiple_sum n (rest +ℤ neg_ℤ y) (neg_ℤ (pos n)) differs (multiple_minus n (pos n) (itself n)))

  pub along_found : (length r : ℤ) → length ≡ pos n → r ≡ rest → (found : Option ℤ) → IsNearestOf length tolerance r found → IsAlongFound n tolerance x a found
  along_found length r e f None h =
      no_other (subst (λ (w : ℤ). tolerance <ℤ w) f h.0, subst (λ (w : ℤ). w <ℤ neg_ℤ tolerance) (λ i. f i +ℤ neg_ℤ (e i)) h.1)
  along_found length r e f (Some v) h = (shifted v (either h.0), h.1) where
    either : ((v ≡ r) ⊎ (v ≡ r +ℤ neg_ℤ length)) → ((v ≡ rest) ⊎ (v ≡ rest +ℤ neg_ℤ (pos n)))
    either (inl g) = inl (g ∙ f)
    either (inr g) = inr (g ∙ (λ i. f i +ℤ neg_ℤ (e i)))

-- the three coordinates together
module _ (d : List ℕ) (tolerance : ℤ) (x a : Vector ℤ) where
  shifted_by : (m : ℕ) (v w q : ℤ) → v +ℤ neg_ℤ w ≡ pos (12000000 * m) *ℤ q → v ≡ w +ℤ (pos 1000000 *ℤ (pos (12 * m) *ℤ q))
  shifted_by m v w q e =
      let n : 1000000 * (12 * m) ≡ 12000000 * m = omega arith in
      let f : pos 1000000 *ℤ (pos (12 * m) *ℤ q) ≡ pos (12000000 * m) *ℤ q =
      sym (whole_ring.mul_assoc (pos 1000000) (pos (12 * m)) q) ∙ ap (λ k. k *ℤ q) (pos-*ℤ-pos 1000000 (12 * m) ∙ ap pos n) in
      moved v w (pos (12000000 * m) *ℤ q) e ∙ ap (λ k. w +ℤ k) (sym f)
    where
      moved : (v w p : ℤ) → v +ℤ neg_ℤ w ≡ p → v ≡ w +ℤ p
      moved v w p e = omega (arith, ints, e)

  shifted_back : (m : ℕ) (v w t q : ℤ) → t ≡ pos (12 * m) *ℤ q → v ≡ w +ℤ (pos 1000000 *ℤ t) → v +ℤ neg_ℤ w ≡ pos (12000000 * m) *ℤ q
  shifted_back m v w t q e f =
      let n : 1000000 * (12 * m) ≡ 12000000 * m = omega arith in
      moved v w (pos 1000000 *ℤ t) f ∙ ap (λ k. pos 1000000 *ℤ k) e ∙ sym (whole_ring.mul_assoc (pos 1000000) (pos (12 * m)) q) ∙ ap (λ k. k *ℤ q) (pos-*ℤ-pos 1000000 (12 * m) ∙ ap pos n)
    where
      moved : (v w p : ℤ) → v ≡ w +ℤ p → v +ℤ neg_ℤ w ≡ p
      moved v w p e = omega (arith, ints, e)

  abbrev AlongAxis : ℕ → ℤ → ℤ → ℤ → Type 0
  AlongAxis i c b v = IsAlong (12000000 * multiplier d i) tolerance c b v

  pub displaced : (v : Vector ℤ) → AlongAxis 0 x.x a.x v.x → AlongAxis 1 x.y a.y v.y → AlongAxis 2 x.z a.z v.z → IsDisplacement d tolerance x a v
  displaced v p q r = record {
    translation = record { x = pos (12 * multiplier d 0) *ℤ p.0.quotient; y = pos (12 * multiplier d 1) *ℤ q.0.quotient; z = pos (12 * multiplier d 2) *ℤ r.0.quotient };
    of_supercell = record { edges = record { x = p.0.quotient; y = q.0.quotient; z = r.0.quotient }; x = refl; y = refl; z = refl };
    is =
        same_vector v _ (shifted_by (multiplier d 0) v.x (x.x +ℤ neg_ℤ a.x) p.0.quotient p.0.is) (shifted_by (multiplier d 1) v.y (x.y +ℤ neg_ℤ a.y) q.0.quotient q.0.is)
        (shifted_by (multiplier d 2) v.z (x.z +ℤ neg_ℤ a.z) r.0.quotient r.0.is);
    near = (p.1, q.1, r.1);
  }

  pub along_x : (v : Vector ℤ) → IsDisplacement d tolerance x a v → AlongAxis 0 x.x a.x v.x
  along_x v h = (record { quotient = h.of_supercell.edges.x; is = shifted_back (multiplier d 0) v.x (x.x +ℤ neg_ℤ a.x) h.translation.x h.of_supercell.edges.x h.of_supercell.x (ap (λ (w : Vector ℤ). w.x) h.is) }, h.near.0)

  pub along_y : (v : Vector ℤ) → IsDisplacement d tolerance x a v → AlongAxis 1 x.y a.y v.y
  along_y v h = (record { quotient = h.of_supercell.edges.y; is = shifted_back (multiplier d 1) v.y (x.y +ℤ neg_ℤ a.y) h.translation.y h.of_supercell.edges.y h.of_supercell.y (ap (λ (w : Vector ℤ). w.y) h.is) }, h.near.1)

  pub along_z : (v : Vector ℤ) → IsDisplacement d tolerance x a v → AlongAxis 2 x.z a.z v.z
  along_z v h = (record { quotient = h.of_supercell.edges.z; is = shifted_back (multiplier d 2) v.z (x.z +ℤ neg_ℤ a.z) h.translation.z h.of_supercell.edges.z h.of_supercell.z (ap (λ (w : Vector ℤ). w.z) h.is) }, h.near.2)

-- coordinates and bounds that were passed by value
module _ (n n' : ℕ) (t t' x x' a a' : ℤ) (e : n ≡ n') (f : t ≡ t') (g : x ≡ x') (k : a ≡ a') where
  pub along_passed : (v v' : ℤ) → v ≡ v' → IsAlong n t x a v → IsAlong n' t' x' a' v'
  along_passed v v' h m = subst (λ (A : Type 0). A) (λ i. IsAlong (e i) (f i) (g i) (k i) (h i)) m

  pub none_passed : ((v : ℤ) → IsAlong n t x a v → ⊥) → (v : ℤ) → IsAlong n' t' x' a' v → ⊥
  none_passed h v m = h v (subst (λ (A : Type 0). A) (λ i. IsAlong (sym e i) (sym f i) (sym g i) (sym k i) v) m)

-- multipliers as they are read
pub multiplier_at : (d : List ℕ) → length d ≡ 3 → (i : ℕ) → i < 3 → slice_index_or d i 0 ≡ multiplier d i
multiplier_at d l i b = get_or_default d i 0 1 (omega (arith, l, b))

pub positive_at : (d : List ℕ) → length d ≡ 3 → ((i : ℕ) → i < 3 → 0 < multiplier d i) → (i : ℕ) → i < 3 → 0 < slice_index_or d i 0
positive_at d l p i b = subst (λ n. 0 < n) (sym (multiplier_at d l i b)) (p i b)

pub few_at : (d : List ℕ) → length d ≡ 3 → ((i : ℕ) → i < 3 → multiplier d i ≤ 12) → (i : ℕ) → i < 3 → slice_index_or d i 0 ≤ 12
few_at d l p i b = subst (λ n. n ≤ 12) (sym (multiplier_at d l i b)) (p i b)
