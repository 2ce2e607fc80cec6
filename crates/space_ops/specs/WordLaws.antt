-- Words are a group.
--
-- AreUnimodular gens: each generator's determinant is 1 or -1
-- word-identity, word-step, word-product: the identity, steps and products of words are words
-- same-refl, same-sym, same-trans, same-right, same-left, same-translation: one up to a lattice translation
-- word-same: a lattice translation after a word is a word
-- word-opposite, word-inverse: each word has an inverse that is a word
-- word-difference: two words of one rotation differ by a pure translation that is a word
-- word-image: the image of a lattice vector under a word's rotation is a pure translation that is a word
-- extra-from_difference, extra-from_image: where these are outside the lattice there is an extra translation
-- back_translation: a translation and its opposite
use Rattle.std.proofs.Common.{◌≡◌, refl, sym, ap, ◌∙◌, subst, ℕ, ◌<◌, inl, inr, ℤ, pos, List, [], ◌∷◌, ◌++◌, length, arith}
use Rattle.std.proofs.lemmas.Int.{ints}
use Rattle.space_ops.specs.declared.op.Op.{Op}
use Rattle.space_ops.specs.declared.lattice.Lattice.{Lattice}
use Rattle.algebra.specs.Whole.{whole}
use Rattle.algebra.specs.WholeLaws.{whole_ring}
use Rattle.space_ops.specs.Matrix.{Vector, matrix_times, image_under, vector_sum, minus_vector, zero_vector, unit_matrix}
use Rattle.space_ops.specs.MatrixLaws.{same_vector, matrix_times-unit, unit-matrix_times, image_under-difference}
use Rattle.space_ops.specs.Seitz.{Seitz, seitz_product, seitz_inverse, seitz_identity}
use Rattle.space_ops.specs.Op.{IsUnimodular}
use Rattle.space_ops.specs.OpLaws.{same_seitz, seitz-back, back-seitz, seitz_product-assoc, seitz_product-identity, identity-seitz_product}
use Rattle.space_ops.specs.Words.{op_at, IsLatticeVector, IsLatticeTranslation, IsSameUpToLattice, vector_difference, IsStep, AreSteps, word_value, IsWord, HasExtraTranslation}
use Rattle.space_ops.specs.LatticeLaws.{minus-lattice, differ-refl, differ-sym, differ-trans}

abbrev pub AreUnimodular : List Op → Type 0
AreUnimodular gens = (i : ℕ) → i < length gens → IsUnimodular (op_at gens i).rot

-- {E|v}
abbrev pub translation : Vector ℤ → Seitz ℤ
translation v = record { rot = unit_matrix whole; shift = v }

pub same_product : (g g' h h' : Seitz ℤ) → g ≡ g' → h ≡ h' → seitz_product whole g h ≡ seitz_product whole g' h'
same_product g g' h h' e f = λ i. seitz_product whole (e i) (f i)

-- a translation after its opposite
pub back_translation : (v : Vector ℤ) → seitz_product whole (translation v) (translation (minus_vector whole v)) ≡ seitz_identity whole
back_translation v =
    same_seitz _ _ (matrix_times-unit whole whole_ring (unit_matrix whole))
    (same_vector _ _ (omega (arith, ints)) (omega (arith, ints)) (omega (arith, ints)))

-- (g h)(h' g') = g g', where h h' is the identity
inner_cancels : (g h h' g' : Seitz ℤ) → seitz_product whole h h' ≡ seitz_identity whole
    → seitz_product whole (seitz_product whole g h) (seitz_product whole h' g') ≡ seitz_product whole g g'
inner_cancels g h h' g' e =
    seitz_product-assoc g h (seitz_product whole h' g')
    ∙ ap (seitz_product whole g) (sym (seitz_product-assoc h h' g') ∙ ap (λ k. seitz_product whole k g') e ∙ identity-seitz_product g')

-- t + R t' = 0, where {R|t} times {R'|t'} is the identity
opposite_shift : (t s a : Vector ℤ) → vector_sum whole t a ≡ zero_vector whole → vector_sum whole s a ≡ vector_difference s t
opposite_shift t s a e =
    let p : (vector_sum whole t a).x ≡ pos 0 = ap (λ (v : Vector ℤ). v.x) e in
    let q : (vector_sum whole t a).y ≡ pos 0 = ap (λ (v : Vector ℤ). v.y) e in
    let r : (vector_sum whole t a).z ≡ pos 0 = ap (λ (v : Vector ℤ). v.z) e in
    same_vector _ _ (omega (arith, ints, p)) (omega (arith, ints, q)) (omega (arith, ints, r))

middle_left : (t a b : Vector ℤ) → vector_sum whole t b ≡ zero_vector whole → vector_sum whole (vector_sum whole t a) b ≡ a
middle_left t a b e =
    let p : (vector_sum whole t b).x ≡ pos 0 = ap (λ (v : Vector ℤ). v.x) e in
    let q : (vector_sum whole t b).y ≡ pos 0 = ap (λ (v : Vector ℤ). v.y) e in
    let r : (vector_sum whole t b).z ≡ pos 0 = ap (λ (v : Vector ℤ). v.z) e in
    same_vector _ _ (omega (arith, ints, p)) (omega (arith, ints, q)) (omega (arith, ints, r))

-- one up to a lattice translation: a relation that products keep
pub same-refl : (lattice : Lattice) (g : Seitz ℤ) → IsSameUpToLattice lattice g g
same-refl lattice g = record { rotation = refl; translation = differ-refl lattice g.shift }

pub same-sym : (lattice : Lattice) (g h : Seitz ℤ) → IsSameUpToLattice lattice g h → IsSameUpToLattice lattice h g
same-sym lattice g h a = record { rotation = sym a.rotation; translation = differ-sym lattice g.shift h.shift a.translation }

pub same-trans : (lattice : Lattice) (g h k : Seitz ℤ) → IsSameUpToLattice lattice g h → IsSameUpToLattice lattice h k → IsSameUpToLattice lattice g k
same-trans lattice g h k a b = record { rotation = a.rotation ∙ b.rotation; translation = differ-trans lattice g.shift h.shift k.shift a.translation b.translation }

less_same : (s t v : Vector ℤ) → vector_difference (vector_sum whole s v) (vector_sum whole t v) ≡ vector_difference s t
less_same s t v = same_vector _ _ (omega (arith, ints)) (omega (arith, ints)) (omega (arith, ints))

same_less : (t v w : Vector ℤ) → vector_difference (vector_sum whole t v) (vector_sum whole t w) ≡ vector_difference v w
same_less t v w = same_vector _ _ (omega (arith, ints)) (omega (arith, ints)) (omega (arith, ints))

pub more_less : (t v : Vector ℤ) → vector_difference (vector_sum whole t v) t ≡ v
more_less t v = same_vector _ _ (omega (arith, ints)) (omega (arith, ints)) (omega (arith, ints))

-- after two such operations, one step
pub same-right : (lattice : Lattice) (g h s : Seitz ℤ) → IsSameUpToLattice lattice g h → IsSameUpToLattice lattice (seitz_product whole g s) (seitz_product whole h s)
same-right lattice g h s a = record {
  rotation = ap (λ r. matrix_times whole r s.rot) a.rotation;
  translation = subst (IsLatticeVector lattice)
      (sym (ap (λ r. vector_difference (vector_sum whole g.shift (image_under whole r s.shift)) (vector_sum whole h.shift (image_under whole h.rot s.shift))) a.rotation ∙ less_same g.shift h.shift (image_under whole h.rot s.shift)))
      a.translation;
}

-- after one operation that keeps the lattice, two such steps
pub same-left : (lattice : Lattice) (g s s' : Seitz ℤ) → ((v : Vector ℤ) → IsLatticeVector lattice v → IsLatticeVector lattice (image_under whole g.rot v))
    → IsSameUpToLattice lattice s s' → IsSameUpToLattice lattice (seitz_product whole g s) (seitz_product whole g s')
same-left lattice g s s' keep a = record {
  rotation = ap (matrix_times whole g.rot) a.rotation;
  translation = subst (IsLatticeVector lattice)
      (image_under-difference whole whole_ring g.rot s.shift s'.shift ∙ sym (same_less g.shift (image_under whole g.rot s.shift) (image_under whole g.rot s'.shift)))
      (keep (vector_difference s.shift s'.shift) a.translation);
}

-- a lattice translation before an operation that keeps the lattice
pub same-translation : (lattice : Lattice) (g s : Seitz ℤ) → ((v : Vector ℤ) → IsLatticeVector lattice v → IsLatticeVector lattice (image_under whole g.rot v))
    → IsLatticeTranslation lattice s → IsSameUpToLattice lattice (seitz_product whole g s) g
same-translation lattice g s keep a = record {
  rotation = ap (matrix_times whole g.rot) a.0 ∙ matrix_times-unit whole whole_ring g.rot;
  translation = subst (IsLatticeVector lattice) (sym (more_less g.shift (image_under whole g.rot s.shift))) (keep s.shift a.1);
}

module _ (gens : List Op) (lattice : Lattice) where
  steps-append : (v w : List (Seitz ℤ)) → AreSteps gens lattice v → AreSteps gens lattice w → AreSteps gens lattice (v ++ w)
  steps-append [] w h k = k
  steps-append (s ∷ v) w h k = (h.0, steps-append v w h.1 k)

  value-append : (v w : List (Seitz ℤ)) → word_value (v ++ w) ≡ seitz_product whole (word_value v) (word_value w)
  value-append [] w = sym (identity-seitz_product (word_value w))
  value-append (s ∷ v) w = ap (seitz_product whole s) (value-append v w) ∙ sym (seitz_product-assoc s (word_value v) (word_value w))

  pub word-identity : IsWord gens lattice (seitz_identity whole)
  word-identity = record { word = []; steps = tt; value = refl }

  pub word-step : (s : Seitz ℤ) → IsStep gens lattice s → IsWord gens lattice s
  word-step s h = record { word = s ∷ []; steps = (h, tt); value = seitz_product-identity s }

  pub word-lattice : (v : Vector ℤ) → IsLatticeVector lattice v → IsWord gens lattice (translation v)
  word-lattice v h = word-step (translation v) (inr (inr (refl, h)))

  pub word-product : (g h : Seitz ℤ) → IsWord gens lattice g → IsWord gens lattice h → IsWord gens lattice (seitz_product whole g h)
  word-product g h a b = record {
    word = a.word ++ b.word;
    steps = steps-append a.word b.word a.steps b.steps;
    value = value-append a.word b.word ∙ same_product (word_value a.word) g (word_value b.word) h a.value b.value;
  }

  -- a lattice translation after a word
  pub word-same : (g h : Seitz ℤ) → IsWord gens lattice h → IsSameUpToLattice lattice g h → IsWord gens lattice g
  word-same g h b e =
      subst (IsWord gens lattice)
      (same_seitz (seitz_product whole (translation (vector_difference g.shift h.shift)) h) g
      (unit-matrix_times whole whole_ring h.rot ∙ sym e.rotation)
      (same_vector _ _ (omega (arith, ints)) (omega (arith, ints)) (omega (arith, ints))))
      (word-product (translation (vector_difference g.shift h.shift)) h (word-lattice (vector_difference g.shift h.shift) e.translation) b)

  module _ (u : AreUnimodular gens) where
    step-opposite : (s : Seitz ℤ) → IsStep gens lattice s → (s' : Seitz ℤ) × IsStep gens lattice s' × (seitz_product whole s s' ≡ seitz_identity whole)
    step-opposite s (inl (i, l, e)) =
        (seitz_inverse whole (op_at gens i), inr (inl (i, l, refl)), ap (λ x. seitz_product whole x (seitz_inverse whole (op_at gens i))) e ∙ seitz-back (op_at gens i) (u i l))
    step-opposite s (inr (inl (i, l, e))) =
        (op_at gens i, inl (i, l, refl), ap (λ x. seitz_product whole x (op_at gens i)) e ∙ back-seitz (op_at gens i) (u i l))
    step-opposite s (inr (inr (e, h))) = (
      translation (minus_vector whole s.shift),
      inr (inr (refl, minus-lattice lattice s.shift h)),
      ap (λ x. seitz_product whole x (translation (minus_vector whole s.shift))) (same_seitz s (translation s.shift) e refl) ∙ back_translation s.shift,
    )

    steps-opposite : (w : List (Seitz ℤ)) → AreSteps gens lattice w → (g' : Seitz ℤ) × IsWord gens lattice g' × (seitz_product whole (word_value w) g' ≡ seitz_identity whole)
    steps-opposite [] h = (seitz_identity whole, word-identity, seitz_product-identity (seitz_identity whole))
    steps-opposite (s ∷ w) h =
        let o = step-opposite s h.0 in
        let p = steps-opposite w h.1 in (
          seitz_product whole p.0 o.0,
          word-product p.0 o.0 p.1 (word-step o.0 o.1),
          inner_cancels s (word_value w) p.0 o.0 p.2 ∙ o.2,
        )

    -- a word after g that gives the identity
    pub word-opposite : (g : Seitz ℤ) → IsWord gens lattice g → (g' : Seitz ℤ) × IsWord gens lattice g' × (seitz_product whole g g' ≡ seitz_identity whole)
    word-opposite g h = let p = steps-opposite h.word h.steps in (p.0, p.1, ap (λ x. seitz_product whole x p.0) (sym h.value) ∙ p.2)

    -- the inverse of a word
    pub word-inverse : (g : Seitz ℤ) → IsWord gens lattice g → IsUnimodular g.rot → IsWord gens lattice (seitz_inverse whole g)
    word-inverse g h v =
        let p = word-opposite g h in
        subst (IsWord gens lattice)
        (sym (identity-seitz_product p.0) ∙ ap (λ x. seitz_product whole x p.0) (sym (back-seitz g v)) ∙ seitz_product-assoc (seitz_inverse whole g) g p.0
        ∙ ap (seitz_product whole (seitz_inverse whole g)) p.2 ∙ seitz_product-identity (seitz_inverse whole g))
        p.1

    pub word-difference : (g h : Seitz ℤ) → IsWord gens lattice g → IsWord gens lattice h → g.rot ≡ h.rot → IsWord gens lattice (translation (vector_difference g.shift h.shift))
    word-difference g h a b e =
        let p = word-opposite h b in
        subst (IsWord gens lattice)
        (same_seitz (seitz_product whole g p.0) (translation (vector_difference g.shift h.shift))
        (ap (λ r. matrix_times whole r p.0.rot) e ∙ ap (λ (k : Seitz ℤ). k.rot) p.2)
        (ap (λ r. vector_sum whole g.shift (image_under whole r p.0.shift)) e ∙ opposite_shift h.shift g.shift (image_under whole h.rot p.0.shift) (ap (λ (k : Seitz ℤ). k.shift) p.2)))
        (word-product g p.0 a p.1)

    pub extra-from_difference : (g h : Seitz ℤ) → IsWord gens lattice g → IsWord gens lattice h → g.rot ≡ h.rot
        → (IsLatticeVector lattice (vector_difference g.shift h.shift) → ⊥) → HasExtraTranslation gens lattice
    extra-from_difference g h a b e n = record {
      extra = translation (vector_difference g.shift h.shift);
      is_word = word-difference g h a b e;
      is_pure = refl;
      outside = n;
    }

    pub word-image : (h : Seitz ℤ) (v : Vector ℤ) → IsWord gens lattice h → IsLatticeVector lattice v → IsWord gens lattice (translation (image_under whole h.rot v))
    word-image h v b l =
        let p = word-opposite h b in
        let one : matrix_times whole h.rot (unit_matrix whole) ≡ h.rot = matrix_times-unit whole whole_ring h.rot in
        subst (IsWord gens lattice)
        (same_seitz (seitz_product whole (seitz_product whole h (translation v)) p.0) (translation (image_under whole h.rot v))
        (ap (λ r. matrix_times whole r p.0.rot) one ∙ ap (λ (k : Seitz ℤ). k.rot) p.2)
        (ap (λ r. vector_sum whole (vector_sum whole h.shift (image_under whole h.rot v)) (image_under whole r p.0.shift)) one
        ∙ middle_left h.shift (image_under whole h.rot v) (image_under whole h.rot p.0.shift) (ap (λ (k : Seitz ℤ). k.shift) p.2)))
        (word-product (seitz_product whole h (translation v)) p.0 (word-product h (translation v) b (word-lattice v l)) p.1)

    pub extra-from_image : (h : Seitz ℤ) (v : Vector ℤ) → IsWord gens lattice h → IsLatticeVector lattice v
        → (IsLatticeVector lattice (image_under whole h.rot v) → ⊥) → HasExtraTranslation gens lattice
    extra-from_image h v b l n = record {
      extra = translation (image_under whole h.rot v);
      is_word = word-image h v b l;
      is_pure = refl;
      outside = n;
    }

    -- words over steps that are words over the generators
    pub words-over_words : (steps : List Op) → ((j : ℕ) → j < length steps → IsWord gens lattice (op_at steps j)) → AreUnimodular steps
        → (w : List (Seitz ℤ)) → AreSteps steps lattice w → IsWord gens lattice (word_value w)
    words-over_words steps h v [] k = word-identity
    words-over_words steps h v (s ∷ w) (inl (i, l, e), k) =
        word-product s (word_value w) (subst (IsWord gens lattice) (sym e) (h i l)) (words-over_words steps h v w k)
    words-over_words steps h v (s ∷ w) (inr (inl (i, l, e)), k) =
        word-product s (word_value w) (subst (IsWord gens lattice) (sym e) (word-inverse (op_at steps i) (h i l) (v i l))) (words-over_words steps h v w k)
    words-over_words steps h v (s ∷ w) (inr (inr t), k) = word-product s (word_value w) (word-step s (inr (inr t))) (words-over_words steps h v w k)

    pub word-over_words : (steps : List Op) → ((j : ℕ) → j < length steps → IsWord gens lattice (op_at steps j)) → AreUnimodular steps
        → (g : Seitz ℤ) → IsWord steps lattice g → IsWord gens lattice g
    word-over_words steps h v g k = subst (IsWord gens lattice) k.value (words-over_words steps h v k.word k.steps)
