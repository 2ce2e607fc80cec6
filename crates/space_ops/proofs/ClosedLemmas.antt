-- What a list that is closed under the steps holds of all words.
use Rattle.std.proofs.Common.{◌≡◌, refl, sym, ap, ◌∙◌, subst, ℕ, ◌<◌, inl, inr, Bool, true, false, ℤ, List, [], ◌∷◌, length}
use Rattle.space_ops.specs.declared.op.Op.{Op}
use Rattle.space_ops.specs.declared.lattice.Lattice.{Lattice}
use Rattle.space_ops.specs.declared.group.GroupError.{GroupError}
use Rattle.space_ops.specs.declared.group.GroupError.TheVariants.{TooManyRotations, ExtraTranslation, NoMemory}
use Rattle.algebra.specs.Whole.{whole}
use Rattle.algebra.specs.WholeLaws.{whole_ring}
use Rattle.space_ops.specs.Matrix.{matrix_times}
use Rattle.space_ops.specs.MatrixLaws.{matrix_times-unit}
use Rattle.space_ops.specs.Seitz.{Seitz, seitz_product, seitz_identity}
use Rattle.space_ops.specs.OpLaws.{seitz_product-assoc, seitz_product-identity, identity-seitz_product}
use Rattle.space_ops.specs.Words.{op_at, IsSameUpToLattice, IsStep, AreSteps, word_value, IsWord, HasTooManyRotations, HasExtraTranslation}
use Rattle.space_ops.specs.WordLaws.{AreUnimodular, same-refl, same-trans, same-right, same-left, same-translation, word-over_words, extra-from_image}
use Rattle.space_ops.specs.Group.{IsListed, IsCauseOf}
use Rattle.space_ops.specs.Closing.{AreStepOps, IsClosing, KeepsLattice, LosesLattice, IsClosedList}
use Rattle.space_ops.specs.GroupLaws.{HasRotation, no_more_rotations}

-- too many rotations of words over the steps
pub many-over : (G : List Op) (L : Lattice) (S : List Op) → AreUnimodular G → AreStepOps G L (length G) S → HasTooManyRotations S L → HasTooManyRotations G L
many-over G L S u steps (inl m) = inl (record {
  number = m.number;
  are_words = λ i l. let w = m.are_words i l in
      record { element = w.element; is_word = word-over_words G L u S steps.are_words steps.unimodular w.element w.is_word; rotation = w.rotation };
  apart = m.apart;
})
many-over G L S u steps (inr m) = let w = m.is_word in inr (record {
  large = m.large;
  is_word = record { element = w.element; is_word = word-over_words G L u S steps.are_words steps.unimodular w.element w.is_word; rotation = w.rotation };
  not_small = m.not_small;
})

-- the cause of an error that closing under the steps gives
pub cause-over : (G : List Op) (L : Lattice) (S : List Op) (error : GroupError) → AreUnimodular G → AreStepOps G L (length G) S
    → (error ≡ TooManyRotations → HasTooManyRotations S L) → (error ≡ ExtraTranslation → ⊥) → IsCauseOf G L error
cause-over G L S TooManyRotations u steps f g = many-over G L S u steps (f refl)
cause-over G L S ExtraTranslation u steps f g = absurd (g refl)
cause-over G L S NoMemory u steps f g = tt

module _ (G : List Op) (L : Lattice) (S H : List Op) (steps : AreStepOps G L (length G) S) (c : Bool) (h : IsClosing S L H c (length H) 0) where
  -- the rotation of a held one times a step
  rotation-step : (g s : Seitz ℤ) → HasRotation H g.rot → IsStep G L s → HasRotation H (seitz_product whole g s).rot
  rotation-step g s (j, l, e) (inl (i, k, f)) =
      let a = steps.forward i k in
      let m = h.done j a.place l a.below in
      (m.place, m.below, (λ t. matrix_times whole (e t) ((ap (λ (x : Seitz ℤ). x.rot) f ∙ a.same.rotation) t)) ∙ m.rotation)
  rotation-step g s (j, l, e) (inr (inl (i, k, f))) =
      let a = steps.backward i k in
      let m = h.done j a.place l a.below in
      (m.place, m.below, (λ t. matrix_times whole (e t) ((ap (λ (x : Seitz ℤ). x.rot) f ∙ a.same.rotation) t)) ∙ m.rotation)
  rotation-step g s (j, l, e) (inr (inr (f, k))) = (j, l, ap (matrix_times whole g.rot) f ∙ matrix_times-unit whole whole_ring g.rot ∙ e)

  rotation-after : (w : List (Seitz ℤ)) → AreSteps G L w → (g : Seitz ℤ) → HasRotation H g.rot → HasRotation H (seitz_product whole g (word_value w)).rot
  rotation-after [] k g r = subst (λ (x : Seitz ℤ). HasRotation H x.rot) (sym (seitz_product-identity g)) r
  rotation-after (s ∷ w) k g r =
      subst (λ (x : Seitz ℤ). HasRotation H x.rot) (seitz_product-assoc g s (word_value w))
      (rotation-after w k.1 (seitz_product whole g s) (rotation-step g s r k.0))

  pub rotation-held : (g : Seitz ℤ) → IsWord G L g → HasRotation H g.rot
  rotation-held g w =
      subst (λ (x : Seitz ℤ). HasRotation H x.rot) (identity-seitz_product (word_value w.word) ∙ w.value)
      (rotation-after w.word w.steps (seitz_identity whole) (0, h.are.some, ap (λ (x : Seitz ℤ). x.rot) (sym h.are.identity)))

  pub not-many : HasTooManyRotations G L → ⊥
  not-many = no_more_rotations G L H h.are.few h.are.small rotation-held

  -- where no conflict was met, and the held rotations keep the lattice
  module _ (none : c ≡ false) (keep : (i : ℕ) → i < length H → KeepsLattice L (op_at H i).rot) where
    -- a held operation and a step: the step stands for s
    listed-product : (j : ℕ) → j < length H → (s : Seitz ℤ) → IsListed L S s → IsListed L H (seitz_product whole (op_at H j) s)
    listed-product j l s a =
        let m = h.done j a.place l a.below in
        record {
          place = m.place;
          below = m.below;
          same = same-trans L (seitz_product whole (op_at H j) s) (seitz_product whole (op_at H j) (op_at S a.place)) (op_at H m.place)
              (same-left L (op_at H j) s (op_at S a.place) (keep j l) a.same) (record { rotation = m.rotation; translation = m.same none });
        }

    listed-right : (g s : Seitz ℤ) (a : IsListed L H g) → IsListed L H (seitz_product whole (op_at H a.place) s) → IsListed L H (seitz_product whole g s)
    listed-right g s a b = record {
      place = b.place;
      below = b.below;
      same = same-trans L (seitz_product whole g s) (seitz_product whole (op_at H a.place) s) (op_at H b.place) (same-right L g (op_at H a.place) s a.same) b.same;
    }

    listed-step : (g s : Seitz ℤ) → IsListed L H g → IsStep G L s → IsListed L H (seitz_product whole g s)
    listed-step g s a (inl (i, k, f)) = listed-right g s a (listed-product a.place a.below s (subst (IsListed L S) (sym f) (steps.forward i k)))
    listed-step g s a (inr (inl (i, k, f))) = listed-right g s a (listed-product a.place a.below s (subst (IsListed L S) (sym f) (steps.backward i k)))
    listed-step g s a (inr (inr t)) = listed-right g s a (record {
      place = a.place;
      below = a.below;
      same = same-translation L (op_at H a.place) s (keep a.place a.below) t;
    })

    listed-after : (w : List (Seitz ℤ)) → AreSteps G L w → (g : Seitz ℤ) → IsListed L H g → IsListed L H (seitz_product whole g (word_value w))
    listed-after [] k g r = subst (IsListed L H) (sym (seitz_product-identity g)) r
    listed-after (s ∷ w) k g r = subst (IsListed L H) (seitz_product-assoc g s (word_value w)) (listed-after w k.1 (seitz_product whole g s) (listed-step g s r k.0))

    word-listed : (g : Seitz ℤ) → IsWord G L g → IsListed L H g
    word-listed g w =
        subst (IsListed L H) (identity-seitz_product (word_value w.word) ∙ w.value)
        (listed-after w.word w.steps (seitz_identity whole)
        (record { place = 0; below = h.are.some; same = subst (λ x. IsSameUpToLattice L x (op_at H 0)) h.are.identity (same-refl L (op_at H 0)) }))

    pub closed-list : AreUnimodular G → IsClosedList G L H
    closed-list u = record {
      are = record {
        some = h.are.some;
        few = h.are.few;
        identity = h.are.identity;
        are_words = λ i l. word-over_words G L u S steps.are_words steps.unimodular (op_at H i) (h.are.are_words i l);
        small = h.are.small;
        least = h.are.least;
        shaped = h.are.shaped;
        apart = h.are.apart;
      };
      complete = word-listed;
    }

  -- a conflict, or a rotation that loses the lattice, is an extra translation
  pub conflict-extra : AreUnimodular G → c ≡ true → HasExtraTranslation G L
  conflict-extra u e = let x = h.extra e in record {
    extra = x.extra;
    is_word = word-over_words G L u S steps.are_words steps.unimodular x.extra x.is_word;
    is_pure = x.is_pure;
    outside = x.outside;
  }

  pub loses-extra : AreUnimodular G → (i : ℕ) → i < length H → LosesLattice L (op_at H i).rot → HasExtraTranslation G L
  loses-extra u i l k =
      extra-from_image G L u (op_at H i) k.vector (word-over_words G L u S steps.are_words steps.unimodular (op_at H i) (h.are.are_words i l)) k.inside k.outside
