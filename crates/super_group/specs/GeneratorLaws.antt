-- The generators of a quotient generate it.
--
-- number-back: the number of an inverse
-- HasNumberWord s g: the number of g is a word over the numbers of the motions
-- member-word: each member's number is one
-- generators-below: the generators are elements
-- generators-generate: the generators generate the quotient
use Rattle.std.proofs.Common.{◌≡◌, refl, sym, ap, ◌∙◌, subst, ℕ, zero, suc, ◌<◌, inl, inr, ℤ, pos, negsuc, ◌+ℤ◌, ◌*ℤ◌, neg_ℤ, List, [], ◌∷◌, length, slice_index_or, arith}
use Rattle.std.proofs.lemmas.Int.{ints}
use Rattle.std.proofs.lemmas.List.{length-map, get_or-map}
use Rattle.algebra.specs.NumberedGroup.{IsGroup, IsGenerated, HasWord}
use Rattle.algebra.specs.NumberedGroupLaws.{product-inverse, cancel}
use Rattle.space_ops.specs.declared.lattice.Lattice.{Lattice}
use Rattle.space_ops.specs.declared.lattice.Lattice.TheVariants.{P, A, B, C, I, R, F}
use Rattle.algebra.specs.Whole.{whole}
use Rattle.space_ops.specs.Matrix.{Vector, vector_sum, minus_vector, zero_vector}
use Rattle.space_ops.specs.MatrixLaws.{same_vector}
use Rattle.space_ops.specs.Seitz.{Seitz, seitz_product, seitz_inverse, seitz_identity}
use Rattle.space_ops.specs.OpLaws.{same_seitz, seitz-back}
use Rattle.space_ops.specs.Lattice.{centrings_of}
use Rattle.space_ops.specs.Words.{op_at, centring_at, cell_edges, IsLatticeVector, IsStep, AreSteps, word_value}
use Rattle.space_ops.specs.WordLaws.{translation, back_translation, word-step, word-lattice}
use Rattle.space_ops.specs.LatticeLaws.{zero-lattice, sum-lattice, minus-lattice, centring-lattice}
use Rattle.super_group.specs.Quotient.{SupercellGroup, IsQuotient, IsMember, IsNumbered, order_of, element_of, number_of, quotient_group, motions_of, generators_of}
use Rattle.super_group.specs.QuotientLaws.{quotient-numbered, quotient-lawful, number-product, number-identity}
use Rattle.algebra.specs.GeneratedLaws.{words-generate, identity-word, generator-word, product-word, inverse-word}
use Rattle.super_group.specs.MotionLaws.{motion_at, IsMotion, generator-motion, centring-motion, unit-motion, unit-lattice, motion-member}

-- what holds of 12 along an axis, of sums and of opposites holds of each multiple
along : (holds : Vector ℤ → Type 0) (axis : ℤ → Vector ℤ) → ((a b : ℤ) → axis (a +ℤ b) ≡ vector_sum whole (axis a) (axis b)) → ((a : ℤ) → axis (neg_ℤ a) ≡ minus_vector whole (axis a))
    → ((v w : Vector ℤ) → holds v → holds w → holds (vector_sum whole v w)) → ((v : Vector ℤ) → holds v → holds (minus_vector whole v)) → holds (axis (pos 0)) → holds (axis (pos 12))
    → (e : ℤ) → holds (axis (pos 12 *ℤ e))
along holds axis sum minus more back none one = by_sign where
  times : (n : ℕ) → holds (axis (pos 12 *ℤ pos n))
  times zero = none
  times (suc n) =
      let e : pos 12 *ℤ pos (suc n) ≡ pos 12 +ℤ (pos 12 *ℤ pos n) = omega (arith, ints) in
      subst holds (sym (ap axis e ∙ sum (pos 12) (pos 12 *ℤ pos n))) (more (axis (pos 12)) (axis (pos 12 *ℤ pos n)) one (times n))

  by_sign : (e : ℤ) → holds (axis (pos 12 *ℤ e))
  by_sign (pos n) = times n
  by_sign (negsuc n) =
      let e : pos 12 *ℤ negsuc n ≡ neg_ℤ (pos 12 *ℤ pos (suc n)) = omega (arith, ints) in
      subst holds (sym (ap axis e ∙ minus (pos 12 *ℤ pos (suc n)))) (back (axis (pos 12 *ℤ pos (suc n))) (times (suc n)))

abbrev along_x : ℤ → Vector ℤ
along_x a = record { x = a; y = pos 0; z = pos 0 }

abbrev along_y : ℤ → Vector ℤ
along_y a = record { x = pos 0; y = a; z = pos 0 }

abbrev along_z : ℤ → Vector ℤ
along_z a = record { x = pos 0; y = pos 0; z = a }

sum_of_axes : (u : Vector ℤ) → vector_sum whole (along_x (pos 12 *ℤ u.x)) (vector_sum whole (along_y (pos 12 *ℤ u.y)) (along_z (pos 12 *ℤ u.z))) ≡ cell_edges u
sum_of_axes u = same_vector _ _ (omega (arith, ints)) (omega (arith, ints)) (omega (arith, ints))

-- what holds of centring vectors, unit translations, sums and opposites holds of each lattice vector
lattice_vectors : (lattice : Lattice) (holds : Vector ℤ → Type 0) → ((v w : Vector ℤ) → holds v → holds w → holds (vector_sum whole v w)) → ((v : Vector ℤ) → holds v → holds (minus_vector whole v)) → holds (zero_vector whole)
    → holds (along_x (pos 12)) → holds (along_y (pos 12)) → holds (along_z (pos 12)) → ((i : ℕ) → i < length (centrings_of lattice) → holds (centring_at lattice i))
    → (v : Vector ℤ) → IsLatticeVector lattice v → holds v
lattice_vectors lattice holds more back none one_x one_y one_z centrings v h =
    let u = h.edges in
    let x = along holds along_x (λ a b. same_vector _ _ refl refl refl) (λ a. same_vector _ _ refl refl refl) more back none one_x u.x in
    let y = along holds along_y (λ a b. same_vector _ _ refl refl refl) (λ a. same_vector _ _ refl refl refl) more back none one_y u.y in
    let z = along holds along_z (λ a b. same_vector _ _ refl refl refl) (λ a. same_vector _ _ refl refl refl) more back none one_z u.z in
    subst holds (sym h.is)
    (more (centring_at lattice h.centring) (cell_edges u) (centrings h.centring h.listed)
    (subst holds (sum_of_axes u) (more (along_x (pos 12 *ℤ u.x)) (vector_sum whole (along_y (pos 12 *ℤ u.y)) (along_z (pos 12 *ℤ u.z))) x (more (along_y (pos 12 *ℤ u.y)) (along_z (pos 12 *ℤ u.z)) y z))))

translation-sum : (v w : Vector ℤ) → seitz_product whole (translation v) (translation w) ≡ translation (vector_sum whole v w)
translation-sum v w = same_seitz _ _ refl (same_vector _ _ (omega (arith, ints)) (omega (arith, ints)) (omega (arith, ints)))

-- the first centring vector is zero
first_zero : (lattice : Lattice) → centring_at lattice 0 ≡ zero_vector whole
first_zero P = refl
first_zero A = refl
first_zero B = refl
first_zero C = refl
first_zero I = refl
first_zero R = refl
first_zero F = refl

module _ (s : SupercellGroup) (quotient : IsQuotient s) where
  numbered : IsNumbered s
  numbered = quotient-numbered s quotient

  law : IsGroup (quotient_group s)
  law = quotient-lawful s quotient

  pub number-back : (g h : Seitz ℤ) → IsMember s g → IsMember s h → seitz_product whole g h ≡ seitz_identity whole → (quotient_group s).inverse (number_of s g) ≡ number_of s h
  number-back g h m n e =
      let l = numbered.number-below g m in
      cancel (quotient_group s) law (number_of s g) ((quotient_group s).inverse (number_of s g)) (number_of s h) l (law.inverse_below (number_of s g) l) (numbered.number-below h n)
      (product-inverse (quotient_group s) law (number_of s g) l ∙ sym (number-identity s quotient) ∙ ap (number_of s) (sym e) ∙ sym (number-product s quotient g h m n))

  abbrev number_at : ℕ → ℕ
  number_at i = slice_index_or (generators_of s) i 0

  -- the number of g is a word over the numbers of the motions
  abbrev pub HasNumberWord : Seitz ℤ → Type 0
  HasNumberWord g = HasWord (quotient_group s) (length (generators_of s)) number_at (number_of s g)

  number-motion : (j : ℕ) → j < length (motions_of s) → number_at j ≡ number_of s (motion_at (motions_of s) j)
  number-motion j l = get_or-map (number_of s) (motions_of s) j (seitz_identity whole) 0 l

  pub generators-below : (i : ℕ) → i < length (generators_of s) → number_at i < order_of s
  generators-below i l =
      let m : i < length (motions_of s) = omega (arith, length-map (motions_of s) (number_of s)) in
      subst (λ n. n < order_of s) (sym (number-motion i m)) (numbered.number-below (motion_at (motions_of s) i) (motion-member s i m))

  motion-word : (g : Seitz ℤ) → IsMotion (motions_of s) g → HasNumberWord g
  motion-word g (j, l, e) =
      subst (HasWord (quotient_group s) (length (generators_of s)) number_at) (number-motion j l ∙ ap (number_of s) e)
      (generator-word (quotient_group s) law (length (generators_of s)) number_at generators-below j (omega (arith, length-map (motions_of s) (number_of s))))

  product-number : (g h : Seitz ℤ) → IsMember s g → IsMember s h → HasNumberWord g → HasNumberWord h → HasNumberWord (seitz_product whole g h)
  product-number g h m n v w =
      subst (HasWord (quotient_group s) (length (generators_of s)) number_at) (number-product s quotient g h m n)
      (product-word (quotient_group s) law (length (generators_of s)) number_at generators-below (number_of s g) (number_of s h) v w)

  back-number : (g h : Seitz ℤ) → IsMember s g → IsMember s h → seitz_product whole g h ≡ seitz_identity whole → HasNumberWord g → HasNumberWord h
  back-number g h m n e w =
      subst (HasWord (quotient_group s) (length (generators_of s)) number_at) (number-back g h m n e)
      (inverse-word (quotient_group s) law (length (generators_of s)) number_at generators-below (number_of s g) (numbered.number-below g m) w)

  identity-number : HasNumberWord (seitz_identity whole)
  identity-number =
      subst (HasWord (quotient_group s) (length (generators_of s)) number_at) (sym (number-identity s quotient)) (identity-word (quotient_group s) law (length (generators_of s)) number_at generators-below)

  -- v is a lattice vector, and its translation's number is a word
  record IsReached (v : Vector ℤ) : Type 0 where
    pub lattice : IsLatticeVector s.parent.lattice v
    pub has_word : HasNumberWord (translation v)

  member-along : (v : Vector ℤ) → IsReached v → IsMember s (translation v)
  member-along v h = word-lattice s.parent.generators s.parent.lattice v h.lattice

  reached-sum : (v w : Vector ℤ) → IsReached v → IsReached w → IsReached (vector_sum whole v w)
  reached-sum v w h k = record {
    lattice = sum-lattice s.parent.lattice v w h.lattice k.lattice;
    has_word = subst HasNumberWord (translation-sum v w) (product-number (translation v) (translation w) (member-along v h) (member-along w k) h.has_word k.has_word);
  }

  reached-minus : (v : Vector ℤ) → IsReached v → IsReached (minus_vector whole v)
  reached-minus v h =
      let m = minus-lattice s.parent.lattice v h.lattice in
      record {
        lattice = m;
        has_word = back-number (translation v) (translation (minus_vector whole v)) (member-along v h) (word-lattice s.parent.generators s.parent.lattice (minus_vector whole v) m) (back_translation v) h.has_word;
      }

  reached-zero : IsReached (zero_vector whole)
  reached-zero = record { lattice = zero-lattice s.parent.lattice; has_word = identity-number }

  reached-centring : (i : ℕ) → i < length (centrings_of s.parent.lattice) → IsReached (centring_at s.parent.lattice i)
  reached-centring zero l = subst IsReached (sym (first_zero s.parent.lattice)) reached-zero
  reached-centring (suc i) l = record {
    lattice = centring-lattice s.parent.lattice (suc i) l;
    has_word = motion-word (translation (centring_at s.parent.lattice (suc i))) (centring-motion s i l);
  }

  reached-lattice : (v : Vector ℤ) → IsLatticeVector s.parent.lattice v → IsReached v
  reached-lattice =
      lattice_vectors s.parent.lattice IsReached reached-sum reached-minus reached-zero
      (record { lattice = unit-lattice s 0 (omega arith); has_word = motion-word (translation (along_x (pos 12))) (unit-motion s 0 (omega arith)) })
      (record { lattice = unit-lattice s 1 (omega arith); has_word = motion-word (translation (along_y (pos 12))) (unit-motion s 1 (omega arith)) })
      (record { lattice = unit-lattice s 2 (omega arith); has_word = motion-word (translation (along_z (pos 12))) (unit-motion s 2 (omega arith)) })
      reached-centring

  step-number : (g : Seitz ℤ) → IsStep s.parent.generators s.parent.lattice g → HasNumberWord g
  step-number g (inl (i, l, e)) = subst HasNumberWord (sym e) (motion-word (op_at s.parent.generators i) (generator-motion s i l))
  step-number g (inr (inl (i, l, e))) =
      let h = op_at s.parent.generators i in
      subst HasNumberWord (sym e)
      (back-number h (seitz_inverse whole h) (word-step s.parent.generators s.parent.lattice h (inl (i, l, refl)))
      (word-step s.parent.generators s.parent.lattice (seitz_inverse whole h) (inr (inl (i, l, refl)))) (seitz-back h (quotient.parent.generators.unimodular i l))
      (motion-word h (generator-motion s i l)))
  step-number g (inr (inr (e, h))) = subst HasNumberWord (same_seitz (translation g.shift) g (sym e) refl) (reached-lattice g.shift h).has_word

  steps-number : (w : List (Seitz ℤ)) → AreSteps s.parent.generators s.parent.lattice w → HasNumberWord (word_value w)
  steps-number [] h = identity-number
  steps-number (g ∷ w) h =
      product-number g (word_value w) (word-step s.parent.generators s.parent.lattice g h.0) (record { word = w; steps = h.1; value = refl }) (step-number g h.0) (steps-number w h.1)

  pub member-word : (g : Seitz ℤ) → IsMember s g → HasNumberWord g
  member-word g m = subst HasNumberWord m.value (steps-number m.word m.steps)

  pub generators-generate : IsGenerated (quotient_group s) (length (generators_of s)) (λ i. slice_index_or (generators_of s) i 0)
  generators-generate =
      words-generate (quotient_group s) law (length (generators_of s)) number_at generators-below
      (λ a l. subst (HasWord (quotient_group s) (length (generators_of s)) number_at) (numbered.number-element a l) (member-word (element_of s a) (numbered.element-member a l)))
