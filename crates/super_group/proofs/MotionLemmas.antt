-- The generators' motions as operations.
use Rattle.std.proofs.Common.{◌≡◌, refl, sym, ap, ◌∙◌, ℕ, ◌<◌, inl, ℤ, pos, List, [], ◌∷◌, ◌++◌, drop, map, length, get_or}
use Rattle.std.specs.List.{All}
use Rattle.std.proofs.lemmas.List.{map-append}
use Rattle.std.proofs.lemmas.Simd.{map-map}
use Rattle.std.proofs.lemmas.List.Elements.{All-nil, All-cons, All-append, All-map, All-drop, All-get_or, All-from_get_or}
use Rattle.space_ops.specs.declared.op.Op.{Op}
use Rattle.algebra.specs.Whole.{whole}
use Rattle.space_ops.specs.Matrix.{zero_vector}
use Rattle.space_ops.specs.Seitz.{Seitz}
use Rattle.space_ops.specs.Op.{vector_of, seitz_of, identity_op}
use Rattle.space_ops.specs.Lattice.{centrings_of, twelfths}
use Rattle.space_ops.specs.LatticeLaws.{zero-lattice, centring-lattice, edges-lattice}
use Rattle.space_ops.specs.Words.{IsLatticeVector}
use Rattle.space_ops.specs.WordLaws.{word-step, word-lattice}
use Rattle.super_group.specs.Quotient.{SupercellGroup, IsMember, number_of, translations_of, motions_of, generators_of}
use Rattle.super_group.specs.QuotientParts.{translation_op, motion_ops}

-- the operations of translations
seitz-translations : (vs : List (List ℤ)) → map seitz_of (map translation_op vs) ≡ translations_of vs
seitz-translations vs = map-map seitz_of translation_op vs

pub seitz-motions : (s : SupercellGroup) → map seitz_of (motion_ops s.parent) ≡ motions_of s
seitz-motions s =
    let gens = s.parent.generators in
    let cs = drop 1 (centrings_of s.parent.lattice) in
    let us = twelfths 12 0 0 ∷ twelfths 0 12 0 ∷ twelfths 0 0 12 ∷ [] in
    map-append seitz_of (gens ++ map translation_op cs) (map translation_op us)
    ∙ (λ i. (map-append seitz_of gens (map translation_op cs) ∙ ap (λ (l : List (Seitz ℤ)). map seitz_of gens ++ l) (seitz-translations cs)) i ++ seitz-translations us i)

pub numbers-motions : (s : SupercellGroup) → map (λ op. number_of s (seitz_of op)) (motion_ops s.parent) ≡ generators_of s
numbers-motions s = sym (map-map (number_of s) seitz_of (motion_ops s.parent)) ∙ ap (map (number_of s)) (seitz-motions s)

module _ (s : SupercellGroup) where
  abbrev IsMotion : Op → Type 0
  IsMotion op = IsMember s (seitz_of op)

  generator-motions : All IsMotion s.parent.generators
  generator-motions = All-from_get_or IsMotion s.parent.generators identity_op (λ i l. word-step s.parent.generators s.parent.lattice (seitz_of (get_or s.parent.generators i identity_op)) (inl (i, l, refl)))

  translation-motions : (vs : List (List ℤ)) → All (λ v. IsLatticeVector s.parent.lattice (vector_of v)) vs → All IsMotion (map translation_op vs)
  translation-motions vs h = All-map IsMotion translation_op vs (weaker vs h) where
    weaker : (vs : List (List ℤ)) → All (λ v. IsLatticeVector s.parent.lattice (vector_of v)) vs → All (λ v. IsMotion (translation_op v)) vs
    weaker vs h =
        All-from_get_or (λ v. IsMotion (translation_op v)) vs []
        (λ i l. word-lattice s.parent.generators s.parent.lattice (vector_of (get_or vs i [])) (All-get_or (λ v. IsLatticeVector s.parent.lattice (vector_of v)) vs i [] l h))

  centrings-lattice : All (λ v. IsLatticeVector s.parent.lattice (vector_of v)) (drop 1 (centrings_of s.parent.lattice))
  centrings-lattice =
      All-drop (λ v. IsLatticeVector s.parent.lattice (vector_of v)) 1 (centrings_of s.parent.lattice)
      (All-from_get_or (λ v. IsLatticeVector s.parent.lattice (vector_of v)) (centrings_of s.parent.lattice) [] (centring-lattice s.parent.lattice))

  units-lattice : All (λ v. IsLatticeVector s.parent.lattice (vector_of v)) (twelfths 12 0 0 ∷ twelfths 0 12 0 ∷ twelfths 0 0 12 ∷ [])
  units-lattice =
      let P : List ℤ → Type 0 = λ v. IsLatticeVector s.parent.lattice (vector_of v) in
      let edge = λ (x y z : ℕ). edges-lattice s.parent.lattice (zero_vector whole) (record { x = pos x; y = pos y; z = pos z }) (zero-lattice s.parent.lattice) in
      All-cons P (twelfths 12 0 0) (twelfths 0 12 0 ∷ twelfths 0 0 12 ∷ []) (edge 1 0 0)
      (All-cons P (twelfths 0 12 0) (twelfths 0 0 12 ∷ []) (edge 0 1 0) (All-cons P (twelfths 0 0 12) [] (edge 0 0 1) (All-nil P)))

  motions-members : All IsMotion (motion_ops s.parent)
  motions-members =
      let gens = s.parent.generators in
      let cs = map translation_op (drop 1 (centrings_of s.parent.lattice)) in
      let us = map translation_op (twelfths 12 0 0 ∷ twelfths 0 12 0 ∷ twelfths 0 0 12 ∷ []) in
      All-append IsMotion (gens ++ cs) us
      (All-append IsMotion gens cs generator-motions (translation-motions (drop 1 (centrings_of s.parent.lattice)) centrings-lattice))
      (translation-motions (twelfths 12 0 0 ∷ twelfths 0 12 0 ∷ twelfths 0 0 12 ∷ []) units-lattice)

  pub motion-member : (i : ℕ) (d : Op) → i < length (motion_ops s.parent) → IsMember s (seitz_of (get_or (motion_ops s.parent) i d))
  motion-member i d l = All-get_or IsMotion (motion_ops s.parent) i d l motions-members
