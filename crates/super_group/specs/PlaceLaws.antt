-- Laws of the places of translations in a rising list.
--
-- place_among-is: the place of a translation that is listed has it
-- rising-apart: a rising list has each translation once
-- place_among-at: the place of a listed translation is its own
-- translations-rising, translations-apart: the translations inside a supercell are such a list
-- zero-first: their first is the zero vector
use Rattle.std.proofs.Common.{◌≡◌, refl, sym, ap, ◌∙◌, ℕ, zero, suc, ◌<◌, inl, inr, Bool, true, false, ℤ, pos, ◌≤ℤ◌, ◌<ℤ◌, List, [], ◌∷◌, length, arith}
use Rattle.std.proofs.lemmas.Int.{ints}
use Rattle.std.proofs.lemmas.Bool.{cases_order}
use Rattle.std.proofs.lemmas.Cmp.{tied_itself, int_ranked}
use Rattle.std.specs.Ordering.{int_cmp, is_eq, ordering_then}
use Rattle.std.specs.declared.cmp.Ordering.{Ordering}
use Rattle.std.specs.declared.cmp.Ordering.TheVariants.{Less, Equal, Greater}
use Rattle.space_ops.specs.declared.lattice.Lattice.{Lattice}
use Rattle.algebra.specs.Whole.{whole}
use Rattle.space_ops.specs.Matrix.{Vector, zero_vector}
use Rattle.space_ops.specs.Op.{vector_of}
use Rattle.space_ops.specs.GroupLaws.{by_bool}
use Rattle.space_ops.specs.LatticeLaws.{zero-lattice}
use Rattle.space_ops.specs.LeastShift.{vector_cmp}
use Rattle.space_ops.specs.LeastShiftLaws.{vector_cmp-total, vector_cmp-equal}
use Rattle.super_group.specs.Supercell.{multiplier, edge, IsInside}
use Rattle.super_group.specs.Quotient.{translation_at, AreTranslations, place_among}
use Rattle.super_group.specs.QuotientParts.{IsRisingList, IsAmong}

-- whether a translation is v
abbrev is_at : Vector ℤ → List ℤ → Bool
is_at v t = is_eq (vector_cmp (vector_of t) v)

at-itself : (v : Vector ℤ) (t : List ℤ) → vector_of t ≡ v → is_at v t ≡ true
at-itself v t e = ap (λ w. is_eq (vector_cmp w v)) e ∙ ap is_eq (tied_itself vector_cmp-total v)

at-means : (v : Vector ℤ) (t : List ℤ) → is_at v t ≡ true → vector_of t ≡ v
at-means v t e = vector_cmp-equal (vector_of t) v (equal (vector_cmp (vector_of t) v) e) where
  equal : (o : Ordering) → is_eq o ≡ true → o ≡ Equal
  equal Less e = let d : false ≡ true = e in cc
  equal Equal e = refl
  equal Greater e = let d : false ≡ true = e in cc

later : (t : List ℤ) (ts : List (List ℤ)) (v : Vector ℤ) → IsAmong (t ∷ ts) v → is_at v t ≡ false → IsAmong ts v
later t ts v (zero, l, e) f = let d : true ≡ false = sym (at-itself v t e) ∙ f in cc
later t ts v (suc j, l, e) f = (j, omega arith, e)

pub place_among-is : (ts : List (List ℤ)) (v : Vector ℤ) → IsAmong ts v → (place_among ts v < length ts) × (translation_at ts (place_among ts v) ≡ v)
unfolding place_among
place_among-is [] v (j, l, e) = absurd (omega arith)
place_among-is (t ∷ ts) v k =
    by_bool (is_at v t) (λ n. (n < suc (length ts)) × (translation_at (t ∷ ts) n ≡ v)) (suc (place_among ts v)) (λ b. (omega arith, at-means v t b))
    (λ b. let q = place_among-is ts v (later t ts v k b) in let l : place_among ts v < length ts = q.0 in (omega arith, q.1))

-- a vector is not before itself
not_less : (v w : Vector ℤ) → v ≡ w → vector_cmp v w ≡ Less → ⊥
not_less v w e f = let d : vector_cmp v w ≡ Equal = ap (vector_cmp v) (sym e) ∙ tied_itself vector_cmp-total v in cc

pub rising-apart : (ts : List (List ℤ)) → IsRisingList ts → (s t : ℕ) → s < length ts → t < length ts → translation_at ts s ≡ translation_at ts t → s ≡ t
rising-apart ts h s t l m e =
    elim (cases_order s t) [
      | inl p ↦ p
      | inr (inl p) ↦ absurd (not_less (translation_at ts s) (translation_at ts t) e (h.rising s t p m))
      | inr (inr p) ↦ absurd (not_less (translation_at ts t) (translation_at ts s) (sym e) (h.rising t s p l))
    ]

pub place_among-at : (ts : List (List ℤ)) → IsRisingList ts → (t : ℕ) → t < length ts → (v : Vector ℤ) → translation_at ts t ≡ v → place_among ts v ≡ t
place_among-at ts h t l v e =
    let q = place_among-is ts v (t, l, e) in
    rising-apart ts h (place_among ts v) t q.0 l (q.1 ∙ sym e)

module _ (lattice : Lattice) (d : List ℕ) (ts : List (List ℤ)) (h : AreTranslations lattice d ts) where
  pub translations-rising : IsRisingList ts
  translations-rising = record { rising = h.rising; shaped = h.shaped }

  -- translations at different places differ
  pub translations-apart : (s t : ℕ) → s < length ts → t < length ts → translation_at ts s ≡ translation_at ts t → s ≡ t
  translations-apart = rising-apart ts translations-rising

-- a coordinate that is not negative is not before zero
not_below : (x : ℤ) → pos 0 ≤ℤ x → int_cmp x (pos 0) ≡ Less → ⊥
not_below x l e = let f : x <ℤ pos 0 = int_ranked x (pos 0) Less (sym e) in absurd (omega (arith, ints, l, f))

then_cases : (o p : Ordering) → ordering_then o p ≡ Less → (o ≡ Less → ⊥) → p ≡ Less
then_cases Less p e f = absurd (f refl)
then_cases Equal p e f = e
then_cases Greater p e f = let d : Greater ≡ Less = e in cc

zero_before : (d : List ℕ) (v : Vector ℤ) → IsInside d v → vector_cmp v (zero_vector whole) ≡ Less → ⊥
zero_before d v h e =
    let after_x = then_cases (int_cmp v.x (pos 0)) _ e (not_below v.x h.0.0) in
    let after_y = then_cases (int_cmp v.y (pos 0)) _ after_x (not_below v.y h.1.0) in
    let after_z : Equal ≡ Less = then_cases (int_cmp v.z (pos 0)) Equal after_y (not_below v.z h.2.0) in
    cc

zero_inside : (d : List ℕ) → ((i : ℕ) → i < 3 → 0 < multiplier d i) → IsInside d (zero_vector whole)
zero_inside d p =
    let along : (i : ℕ) → i < 3 → (pos 0 ≤ℤ pos 0) × (pos 0 <ℤ edge d i) = λ i l. let q : 0 < multiplier d i = p i l in (omega (arith, ints), omega (arith, ints)) in
    (along 0 (omega arith), along 1 (omega arith), along 2 (omega arith))

module _ (lattice : Lattice) (d : List ℕ) (ts : List (List ℤ)) (p : (i : ℕ) → i < 3 → 0 < multiplier d i) (h : AreTranslations lattice d ts) where
  -- the zero vector is listed, and nothing inside comes before it
  pub zero-first : (0 < length ts) × (translation_at ts 0 ≡ zero_vector whole)
  zero-first = at (h.every (zero_vector whole) (zero-lattice lattice) (zero_inside d p)) where
    at : IsAmong ts (zero_vector whole) → (0 < length ts) × (translation_at ts 0 ≡ zero_vector whole)
    at (zero, l, e) = (l, e)
    at (suc t, l, e) = (
      omega arith,
      absurd (zero_before d (translation_at ts 0) (h.inside 0 (omega arith)) (ap (vector_cmp (translation_at ts 0)) (sym e) ∙ h.rising 0 (suc t) (omega arith) l)),
    )
