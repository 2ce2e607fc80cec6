-- The steps of the generators and their inverses.
use Rattle.std.proofs.Common.{refl, sym, subst, ℕ, ◌+◌, ◌<◌, inl, inr, ℤ, List, [], ◌∷◌, ◌++◌, length, get_or, arith, below_more}
use Rattle.std.proofs.lemmas.Int.{ints}
use Rattle.space_ops.specs.declared.op.Op.{Op}
use Rattle.space_ops.specs.declared.lattice.Lattice.{Lattice}
use Rattle.algebra.specs.Whole.{whole}
use Rattle.space_ops.specs.Seitz.{Seitz, seitz_inverse}
use Rattle.space_ops.specs.Op.{seitz_of, vector_of, identity_op, IsSmallMatrix, IsUnimodular, IsWithin, IsShiftWithin}
use Rattle.space_ops.specs.OpLaws.{inverse_unimodular}
use Rattle.space_ops.specs.Words.{op_at, IsSameUpToLattice, IsWord, HasTooManyRotations}
use Rattle.space_ops.specs.WordLaws.{word-step, word-same}
use Rattle.space_ops.specs.LeastShift.{IsInCell, IsTwelfth, IsLeastOp}
use Rattle.space_ops.specs.Group.{AreGenerators, IsListed}
use Rattle.space_ops.specs.Closing.{AreStepOps, AddsSteps}
use Rattle.space_ops.proofs.ClosingLemmas.{each-more, op_old, op_new, length_more}
use Rattle.space_ops.specs.LatticeLaws.{differ-sym}

twelfth_within : (x : ℤ) → IsTwelfth x → IsWithin 1000000 x
twelfth_within x h = (omega (arith, ints, h.0), omega (arith, ints, h.1))

pub cell_within : (t : List ℤ) → IsInCell (vector_of t) → IsShiftWithin 1000000 t
cell_within t h = (twelfth_within _ h.0, twelfth_within _ h.1, twelfth_within _ h.2)

pub listed-more : (L : Lattice) (S : List Op) (x : Op) (g : Seitz ℤ) → IsListed L S g → IsListed L (S ++ x ∷ []) g
listed-more L S x g h = let n = length_more S x in record {
  place = h.place;
  below = omega arith;
  same = subst (λ (o : Op). IsSameUpToLattice L g (seitz_of o)) (sym (op_old S x h.place h.below)) h.same;
}

listed-new : (L : Lattice) (S : List Op) (x : Op) (g : Seitz ℤ) → IsLeastOp L g x → IsListed L (S ++ x ∷ []) g
listed-new L S x g h = let n = length_more S x in record {
  place = length S;
  below = omega arith;
  same = subst (λ (o : Op). IsSameUpToLattice L g (seitz_of o)) (sym (op_new S x (length S) refl))
      (record { rotation = sym h.rotation; translation = differ-sym L (seitz_of x).shift g.shift h.translation.same });
}

module _ (G : List Op) (L : Lattice) where
  least-word : (g : Seitz ℤ) (x : Op) → IsWord G L g → IsLeastOp L g x → IsWord G L (seitz_of x)
  least-word g x w l = word-same G L (seitz_of x) g w (record { rotation = l.rotation; translation = l.translation.same })

  abbrev Fits : Op → Type 0
  Fits o = IsWord G L (seitz_of o) × IsUnimodular (seitz_of o).rot × IsSmallMatrix (seitz_of o).rot × IsInCell (seitz_of o).shift

  fits : (g : Seitz ℤ) (x : Op) → IsWord G L g → IsUnimodular g.rot → IsSmallMatrix g.rot → IsLeastOp L g x → Fits x
  fits g x w u s l = (least-word g x w l, subst IsUnimodular (sym l.rotation) u, subst IsSmallMatrix (sym l.rotation) s, l.translation.in_cell)

  each-fits : (n : ℕ) (S : List Op) → AreStepOps G L n S → (j : ℕ) → j < length S → Fits (get_or S j identity_op)
  each-fits n S h j l = (h.are_words j l, h.unimodular j l, h.small j l, h.in_cell j l)

  pub steps-start : AreStepOps G L 0 []
  steps-start = record {
    are_words = λ j l. absurd (omega arith);
    unimodular = λ j l. absurd (omega arith);
    small = λ j l. absurd (omega arith);
    in_cell = λ j l. absurd (omega arith);
    forward = λ i l. absurd (omega arith);
    backward = λ i l. absurd (omega arith);
  }

  pub steps-more : (n : ℕ) (S S' : List Op) → AreGenerators G → n < length G → AreStepOps G L n S → AddsSteps L (op_at G n) S S' → AreStepOps G L (n + 1) S'
  steps-more n S S' a l h k = subst (AreStepOps G L (n + 1)) (sym k.added) more where
    g : Seitz ℤ
    g = op_at G n

    x : Op
    x = k.first

    y : Op
    y = k.second

    T : List Op
    T = S ++ k.first ∷ []

    both : (j : ℕ) → j < length ((S ++ k.first ∷ []) ++ k.second ∷ []) → Fits (get_or ((S ++ k.first ∷ []) ++ k.second ∷ []) j identity_op)
    both j m =
        let c = length_more (S ++ k.first ∷ []) k.second in
        let d = length_more S k.first in
        each-more Fits (S ++ k.first ∷ []) k.second
        (λ i mi. each-more Fits S k.first (each-fits n S h) (fits (op_at G n) k.first (word-step G L (op_at G n) (inl (n, l, refl))) (a.unimodular n l) (a.small n l) k.is_first) i (omega arith))
        (fits (seitz_inverse whole (op_at G n)) k.second (word-step G L (seitz_inverse whole (op_at G n)) (inr (inl (n, l, refl)))) (inverse_unimodular (op_at G n).rot (a.unimodular n l)) k.small k.is_second)
        j (omega arith)

    more : AreStepOps G L (n + 1) ((S ++ k.first ∷ []) ++ k.second ∷ [])
    more = record {
      are_words = λ j m. (both j m).0;
      unimodular = λ j m. (both j m).1;
      small = λ j m. (both j m).2;
      in_cell = λ j m. (both j m).3;
      forward = below_more _ _ (λ i m. listed-more L (S ++ k.first ∷ []) k.second _ (listed-more L S k.first _ (h.forward i m)))
          (listed-more L (S ++ k.first ∷ []) k.second _ (listed-new L S k.first (op_at G n) k.is_first));
      backward = below_more _ _ (λ i m. listed-more L (S ++ k.first ∷ []) k.second _ (listed-more L S k.first _ (h.backward i m)))
          (listed-new L (S ++ k.first ∷ []) k.second (seitz_inverse whole (op_at G n)) k.is_second);
    }

  pub large-inverse : (n : ℕ) → n < length G → (IsSmallMatrix (seitz_inverse whole (op_at G n)).rot → ⊥) → HasTooManyRotations G L
  large-inverse n l h = inr (record {
    large = (seitz_inverse whole (op_at G n)).rot;
    is_word = record { element = seitz_inverse whole (op_at G n); is_word = word-step G L (seitz_inverse whole (op_at G n)) (inr (inl (n, l, refl))); rotation = refl };
    not_small = h;
  })
