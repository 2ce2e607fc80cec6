-- Steps of the lattice translations before a point.
use Rattle.std.proofs.Common.{◌≡◌, refl, sym, ap, ◌∙◌, subst, ℕ, ◌<◌, ◌+◌, ◌*◌, ◌⊎◌, inl, inr, ⊎_elim, ℤ, pos, List, [], ◌∷◌, ◌++◌, length, arith}
use Rattle.std.proofs.lemmas.Int.{ints, by_lt_z}
use Rattle.std.proofs.lemmas.List.{length_push, get_or_push, get_or_append_left}
use Rattle.std.specs.declared.cmp.Ordering.TheVariants.{Less}
use Rattle.algebra.specs.ListLaws.{each-more, pairs-more}
use Rattle.space_ops.specs.declared.lattice.Lattice.{Lattice}
use Rattle.space_ops.specs.Matrix.{Vector}
use Rattle.space_ops.specs.MatrixLaws.{same_vector}
use Rattle.space_ops.specs.Op.{vector_of, shift_of}
use Rattle.space_ops.specs.Lattice.{centrings_of, twelfths}
use Rattle.space_ops.specs.Words.{IsLatticeVector}
use Rattle.space_ops.specs.LeastShift.{vector_cmp}
use Rattle.super_group.specs.Supercell.{multiplier, IsInside}
use Rattle.super_group.specs.Quotient.{translation_at, AreTranslations}
use Rattle.super_group.specs.TranslationsBefore.{IsBefore, AreTranslationsBefore, HasLayer, HasColumn}
use Rattle.super_group.proofs.TranslationLemmas.{point_at, before_cmp, lattice-layer, lattice-column}

-- one step along z
later_z : (x y z : ℕ) (v : Vector ℤ) → IsBefore x y z v → IsBefore x y (z + 1) v
later_z x y z v (inl l) = inl l
later_z x y z v (inr (e, inl l)) = inr (e, inl l)
later_z x y z v (inr (e, inr (f, l))) = inr (e, inr (f, omega (arith, ints, l)))

last_z : (x y z : ℕ) (v : Vector ℤ) → IsBefore x y (z + 1) v → IsBefore x y z v ⊎ (v ≡ point_at x y z)
last_z x y z v (inl l) = inl (inl l)
last_z x y z v (inr (e, inl l)) = inl (inr (e, inl l))
last_z x y z v (inr (e, inr (f, l))) = by_lt_z v.z (pos z) (λ k. inl (inr (e, inr (f, k)))) (λ k. inr (same_vector v (point_at x y z) e f (omega (arith, ints, l, k))))

-- one step along y
later_y : (x y z : ℕ) (v : Vector ℤ) → IsBefore x y z v → IsBefore x (y + 1) 0 v
later_y x y z v (inl l) = inl l
later_y x y z v (inr (e, inl l)) = inr (e, inl (omega (arith, ints, l)))
later_y x y z v (inr (e, inr (f, l))) = inr (e, inl (omega (arith, ints, f)))

last_y : (d : List ℕ) (x y z : ℕ) (v : Vector ℤ) → IsInside d v → IsBefore x (y + 1) 0 v → IsBefore x y z v ⊎ ((v.x ≡ pos x) × (v.y ≡ pos y))
last_y d x y z v n (inl l) = inl (inl l)
last_y d x y z v n (inr (e, inl l)) = by_lt_z v.y (pos y) (λ k. inl (inr (e, inl k))) (λ k. inr (e, omega (arith, ints, l, k)))
last_y d x y z v n (inr (e, inr (f, l))) = absurd (omega (arith, ints, l, n.2.0))

-- one step along x
later_x : (x y z : ℕ) (v : Vector ℤ) → IsBefore x y z v → IsBefore (x + 1) 0 0 v
later_x x y z v (inl l) = inl (omega (arith, ints, l))
later_x x y z v (inr (e, k)) = inl (omega (arith, ints, e))

last_x : (d : List ℕ) (x y z : ℕ) (v : Vector ℤ) → IsInside d v → IsBefore (x + 1) 0 0 v → IsBefore x y z v ⊎ (v.x ≡ pos x)
last_x d x y z v n (inl l) = by_lt_z v.x (pos x) (λ k. inl (inl k)) (λ k. inr (omega (arith, ints, l, k)))
last_x d x y z v n (inr (e, inl l)) = absurd (omega (arith, ints, l, n.1.0))
last_x d x y z v n (inr (e, inr (f, l))) = absurd (omega (arith, ints, l, n.2.0))

none_before : (d : List ℕ) (v : Vector ℤ) → IsInside d v → IsBefore 0 0 0 v → ⊥
none_before d v n (inl l) = omega (arith, ints, l, n.0.0)
none_before d v n (inr (e, inl l)) = omega (arith, ints, l, n.1.0)
none_before d v n (inr (e, inr (f, l))) = omega (arith, ints, l, n.2.0)

module _ (lattice : Lattice) (d : List ℕ) where
  -- another point that has the same lattice translations before it
  same_before : (x y z x' y' z' : ℕ) (ts : List (List ℤ)) → ((v : Vector ℤ) → IsBefore x y z v → IsBefore x' y' z' v)
      → ((v : Vector ℤ) → IsLatticeVector lattice v → IsInside d v → IsBefore x' y' z' v → IsBefore x y z v)
      → AreTranslationsBefore lattice d x y z ts → AreTranslationsBefore lattice d x' y' z' ts
  same_before x y z x' y' z' ts later back h = record {
    in_lattice = h.in_lattice;
    inside = h.inside;
    before = λ t l. later (translation_at ts t) (h.before t l);
    rising = h.rising;
    every = λ v m n b. h.every v m n (back v m n b);
    shaped = h.shaped;
  }

  pub point-none : (x y z : ℕ) (ts : List (List ℤ)) → (IsLatticeVector lattice (point_at x y z) → ⊥)
      → AreTranslationsBefore lattice d x y z ts → AreTranslationsBefore lattice d x y (z + 1) ts
  point-none x y z ts none =
      same_before x y z x y (z + 1) ts (later_z x y z) (λ v m n b. ⊎_elim (λ k. k) (λ e. absurd (none (subst (IsLatticeVector lattice) e m))) (last_z x y z v b))

  pub column-none : (x y : ℕ) (ts : List (List ℤ)) → (HasColumn (centrings_of lattice) x y → ⊥)
      → AreTranslationsBefore lattice d x y 0 ts → AreTranslationsBefore lattice d x (y + 1) 0 ts
  column-none x y ts none =
      same_before x y 0 x (y + 1) 0 ts (later_y x y 0) (λ v m n b. ⊎_elim (λ k. k) (λ e. absurd (none (lattice-column lattice x y v m e.0 e.1))) (last_y d x y 0 v n b))

  pub column-end : (x y z : ℕ) (ts : List (List ℤ)) → z ≡ 12 * multiplier d 2 → AreTranslationsBefore lattice d x y z ts → AreTranslationsBefore lattice d x (y + 1) 0 ts
  column-end x y z ts end =
      same_before x y z x (y + 1) 0 ts (later_y x y z) (λ v m n b. ⊎_elim (λ k. k) (λ e. inr (e.0, inr (e.1, omega (arith, ints, end, n.2.1)))) (last_y d x y z v n b))

  pub layer-none : (x : ℕ) (ts : List (List ℤ)) → (HasLayer (centrings_of lattice) x → ⊥) → AreTranslationsBefore lattice d x 0 0 ts → AreTranslationsBefore lattice d (x + 1) 0 0 ts
  layer-none x ts none =
      same_before x 0 0 (x + 1) 0 0 ts (later_x x 0 0) (λ v m n b. ⊎_elim (λ k. k) (λ e. absurd (none (lattice-layer lattice x v m e))) (last_x d x 0 0 v n b))

  pub layer-end : (x y : ℕ) (ts : List (List ℤ)) → y ≡ 12 * multiplier d 1 → AreTranslationsBefore lattice d x y 0 ts → AreTranslationsBefore lattice d (x + 1) 0 0 ts
  layer-end x y ts end =
      same_before x y 0 (x + 1) 0 0 ts (later_x x y 0) (λ v m n b. ⊎_elim (λ k. k) (λ e. inr (e, inl (omega (arith, ints, end, n.1.1)))) (last_x d x y 0 v n b))

  pub before-start : AreTranslationsBefore lattice d 0 0 0 []
  before-start = record {
    in_lattice = λ t l. absurd (omega arith);
    inside = λ t l. absurd (omega arith);
    before = λ t l. absurd (omega arith);
    rising = λ s t b l. absurd (omega arith);
    every = λ v m n b. absurd (none_before d v n b);
    shaped = λ t l. absurd (omega arith);
  }

  pub before-end : (x : ℕ) (ts : List (List ℤ)) → x ≡ 12 * multiplier d 0 → AreTranslationsBefore lattice d x 0 0 ts → AreTranslations lattice d ts
  before-end x ts end h = record {
    in_lattice = h.in_lattice;
    inside = h.inside;
    rising = h.rising;
    every = λ v m n. h.every v m n (inl (omega (arith, ints, end, n.0.1)));
    shaped = h.shaped;
  }

  point_inside : (x y z : ℕ) → x < 12 * multiplier d 0 → y < 12 * multiplier d 1 → z < 12 * multiplier d 2 → IsInside d (point_at x y z)
  point_inside x y z k l m = ((omega (arith, ints), omega (arith, ints)), (omega (arith, ints), omega (arith, ints)), (omega (arith, ints), omega (arith, ints)))

  pub point-more : (x y z : ℕ) (ts : List (List ℤ)) → x < 12 * multiplier d 0 → y < 12 * multiplier d 1 → z < 12 * multiplier d 2 → IsLatticeVector lattice (point_at x y z)
      → AreTranslationsBefore lattice d x y z ts → AreTranslationsBefore lattice d x y (z + 1) (ts ++ twelfths x y z ∷ [])
  point-more x y z ts bx by bz is h =
      let p = twelfths x y z in
      record {
        in_lattice = each-more (λ q. IsLatticeVector lattice (vector_of q)) ts p [] h.in_lattice is;
        inside = each-more (λ q. IsInside d (vector_of q)) ts p [] h.inside (point_inside x y z bx by bz);
        before = each-more (λ q. IsBefore x y (z + 1) (vector_of q)) ts p [] (λ t l. later_z x y z (translation_at ts t) (h.before t l)) (inr (refl, inr (refl, omega (arith, ints))));
        rising = pairs-more (λ a b. vector_cmp (vector_of a) (vector_of b) ≡ Less) ts p [] h.rising (λ s l. before_cmp x y z (translation_at ts s) (h.before s l));
        every = λ v m n b. ⊎_elim
            (λ k. let w = h.every v m n k in let l : w.0 < length ts = w.1 in (w.0, omega (arith, length_push ts p), ap vector_of (get_or_append_left ts (p ∷ []) [] w.0 l) ∙ w.2))
            (λ e. (length ts, omega (arith, length_push ts p), ap vector_of (get_or_push ts p [] (length ts) refl) ∙ sym e))
            (last_z x y z v b);
        shaped = each-more (λ q. q ≡ shift_of (vector_of q)) ts p [] h.shaped refl;
      }
