-- The motions that generate a quotient: the symbol's generators, centrings and unit translations.
--
-- motion_at xs j: motion j of a list
-- IsMotion xs g: g is a motion of the list
-- generator-motion, centring-motion, unit-motion: where these stand
-- motion-member: each motion belongs to the parent group
use Rattle.std.proofs.Common.{◌≡◌, refl, sym, ap, ◌∙◌, subst, ℕ, zero, suc, ◌<◌, ◌+◌, inl, ℤ, pos, List, [], ◌∷◌, ◌++◌, length, get_or, drop, map, arith}
use Rattle.std.proofs.lemmas.List.{length-append, length-map, length-drop, get_or_append_left, get_or-append-add, get_or-drop, get_or-map}
use Rattle.algebra.specs.Whole.{whole}
use Rattle.space_ops.specs.Matrix.{unit_matrix, zero_vector}
use Rattle.space_ops.specs.Seitz.{Seitz, seitz_identity}
use Rattle.space_ops.specs.Op.{vector_of, seitz_of, identity_op}
use Rattle.space_ops.specs.Lattice.{centrings_of, twelfths}
use Rattle.space_ops.specs.Words.{op_at, centring_at, IsLatticeVector}
use Rattle.space_ops.specs.WordLaws.{translation, word-step, word-lattice}
use Rattle.space_ops.specs.LatticeLaws.{zero-lattice, centring-lattice, edges-lattice}
use Rattle.super_group.specs.Quotient.{SupercellGroup, IsMember, translations_of, motions_of}

-- motion j of the list
abbrev pub motion_at : List (Seitz ℤ) → ℕ → Seitz ℤ
motion_at xs j = get_or xs j (seitz_identity whole)

-- g is a motion of the list
abbrev pub IsMotion : List (Seitz ℤ) → Seitz ℤ → Type 0
IsMotion xs g = (j : ℕ) × (j < length xs) × (motion_at xs j ≡ g)

-- {E|v} for an array v
abbrev pub motion_along : List ℤ → Seitz ℤ
motion_along v = record { rot = unit_matrix whole; shift = vector_of v }

abbrev pub unit_motions : List (List ℤ)
unit_motions = twelfths 12 0 0 ∷ twelfths 0 12 0 ∷ twelfths 0 0 12 ∷ []

left_motion : (xs ys : List (Seitz ℤ)) (g : Seitz ℤ) → IsMotion xs g → IsMotion (xs ++ ys) g
left_motion xs ys g (j, l, e) = (j, omega (arith, length-append xs ys), get_or_append_left xs ys (seitz_identity whole) j l ∙ e)

right_motion : (xs ys : List (Seitz ℤ)) (g : Seitz ℤ) → IsMotion ys g → IsMotion (xs ++ ys) g
right_motion xs ys g (j, l, e) = (length xs + j, omega (arith, length-append xs ys), get_or-append-add xs ys j (seitz_identity whole) ∙ e)

along_motion : (vs : List (List ℤ)) (j : ℕ) → j < length vs → IsMotion (translations_of vs) (motion_along (get_or vs j []))
along_motion vs j l = (j, omega (arith, length-map vs motion_along), get_or-map motion_along vs j [] (seitz_identity whole) l)

from_second : (cs : List (List ℤ)) (i : ℕ) → suc i < length cs → IsMotion (translations_of (drop 1 cs)) (motion_along (get_or cs (suc i) []))
from_second cs i l =
    let e : 1 + i ≡ suc i = omega arith in
    subst (λ (v : List ℤ). IsMotion (translations_of (drop 1 cs)) (motion_along v)) (get_or-drop 1 cs i [] ∙ ap (λ n. get_or cs n []) e)
    (along_motion (drop 1 cs) i (omega (arith, length-drop 1 cs)))

module _ (s : SupercellGroup) where
  abbrev symbol_motions : List (Seitz ℤ)
  symbol_motions = map seitz_of s.parent.generators

  abbrev centring_motions : List (Seitz ℤ)
  centring_motions = translations_of (drop 1 (centrings_of s.parent.lattice))

  pub generator-motion : (i : ℕ) → i < length s.parent.generators → IsMotion (motions_of s) (op_at s.parent.generators i)
  generator-motion i l =
      left_motion (symbol_motions ++ centring_motions) (translations_of unit_motions) (op_at s.parent.generators i)
      (left_motion symbol_motions centring_motions (op_at s.parent.generators i)
      (i, omega (arith, length-map s.parent.generators seitz_of), get_or-map seitz_of s.parent.generators i identity_op (seitz_identity whole) l))

  -- a centring vector other than the first
  pub centring-motion : (i : ℕ) → suc i < length (centrings_of s.parent.lattice) → IsMotion (motions_of s) (translation (centring_at s.parent.lattice (suc i)))
  centring-motion i l =
      let g = translation (centring_at s.parent.lattice (suc i)) in
      left_motion (symbol_motions ++ centring_motions) (translations_of unit_motions) g (right_motion symbol_motions centring_motions g (from_second (centrings_of s.parent.lattice) i l))

  pub unit-motion : (j : ℕ) → j < 3 → IsMotion (motions_of s) (motion_along (get_or unit_motions j []))
  unit-motion j l = right_motion (symbol_motions ++ centring_motions) (translations_of unit_motions) (motion_along (get_or unit_motions j [])) (along_motion unit_motions j l)

  -- each motion of a list is a member
  abbrev AreMembers : List (Seitz ℤ) → Type 0
  AreMembers xs = (j : ℕ) → j < length xs → IsMember s (motion_at xs j)

  members-append : (xs ys : List (Seitz ℤ)) → AreMembers xs → AreMembers ys → AreMembers (xs ++ ys)
  members-append [] ys h k j l = k j l
  members-append (x ∷ xs) ys h k zero l = h 0 (omega arith)
  members-append (x ∷ xs) ys h k (suc j) l = members-append xs ys (λ i m. h (suc i) (omega arith)) k j (omega arith)

  symbol-members : AreMembers symbol_motions
  symbol-members j l =
      let m : j < length s.parent.generators = omega (arith, length-map s.parent.generators seitz_of) in
      subst (IsMember s) (sym (get_or-map seitz_of s.parent.generators j identity_op (seitz_identity whole) m))
      (word-step s.parent.generators s.parent.lattice (op_at s.parent.generators j) (inl (j, m, refl)))

  along-members : (vs : List (List ℤ)) → ((j : ℕ) → j < length vs → IsLatticeVector s.parent.lattice (vector_of (get_or vs j []))) → AreMembers (translations_of vs)
  along-members vs h j l =
      let m : j < length vs = omega (arith, length-map vs motion_along) in
      subst (IsMember s) (sym (get_or-map motion_along vs j [] (seitz_identity whole) m))
      (word-lattice s.parent.generators s.parent.lattice (vector_of (get_or vs j [])) (h j m))

  pub unit-lattice : (j : ℕ) → j < 3 → IsLatticeVector s.parent.lattice (vector_of (get_or unit_motions j []))
  unit-lattice zero l = edges-lattice s.parent.lattice (zero_vector whole) (record { x = pos 1; y = pos 0; z = pos 0 }) (zero-lattice s.parent.lattice)
  unit-lattice (suc zero) l = edges-lattice s.parent.lattice (zero_vector whole) (record { x = pos 0; y = pos 1; z = pos 0 }) (zero-lattice s.parent.lattice)
  unit-lattice (suc (suc zero)) l = edges-lattice s.parent.lattice (zero_vector whole) (record { x = pos 0; y = pos 0; z = pos 1 }) (zero-lattice s.parent.lattice)
  unit-lattice (suc (suc (suc j))) l = absurd (omega arith)

  second-lattice : (j : ℕ) → j < length (drop 1 (centrings_of s.parent.lattice)) → IsLatticeVector s.parent.lattice (vector_of (get_or (drop 1 (centrings_of s.parent.lattice)) j []))
  second-lattice j l =
      subst (λ (v : List ℤ). IsLatticeVector s.parent.lattice (vector_of v)) (sym (get_or-drop 1 (centrings_of s.parent.lattice) j []))
      (centring-lattice s.parent.lattice (1 + j) (omega (arith, length-drop 1 (centrings_of s.parent.lattice))))

  pub motion-member : (j : ℕ) → j < length (motions_of s) → IsMember s (motion_at (motions_of s) j)
  motion-member =
      members-append (symbol_motions ++ centring_motions) (translations_of unit_motions)
      (members-append symbol_motions centring_motions symbol-members (along-members (drop 1 (centrings_of s.parent.lattice)) second-lattice))
      (along-members unit_motions unit-lattice)
