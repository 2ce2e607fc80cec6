-- A supercell has one list of translations, and one list of multipliers.
use Rattle.std.proofs.Common.{◌≡◌, refl, sym, ap, ◌∙◌, ℕ, zero, suc, ◌<◌, ◌≤◌, ℤ, List, [], ◌∷◌, length, get_or, arith}
use Rattle.std.proofs.lemmas.List.{ext_get_or}
use Rattle.std.specs.Ordering.{ordering_reverse}
use Rattle.std.specs.declared.cmp.Ordering.TheVariants.{Less, Greater}
use Rattle.space_ops.specs.declared.lattice.Lattice.{Lattice}
use Rattle.space_ops.specs.declared.op.Op.{Op}
use Rattle.space_ops.specs.Matrix.{Vector}
use Rattle.space_ops.specs.Op.{shift_of}
use Rattle.space_ops.specs.LeastShift.{vector_cmp}
use Rattle.space_ops.specs.LeastShiftLaws.{vector_cmp-total}
use Rattle.super_group.specs.MultiplierLaws.{multipliers-unique}
use Rattle.super_group.specs.Multipliers.{AreMultipliers}
use Rattle.super_group.specs.PlaceLaws.{translations-apart}
use Rattle.super_group.specs.Quotient.{translation_at, AreTranslations}
use Rattle.super_group.specs.Supercell.{multiplier}

smaller : (p q : ℕ) → (p ≡ q → ⊥) → (q < p → ⊥) → p < q
smaller p q h k = grind arith

not_both : (v w : Vector ℤ) → vector_cmp v w ≡ Less → vector_cmp w v ≡ Less → ⊥
not_both v w e h =
    let d : Less ≡ Greater = sym h ∙ vector_cmp-total.antisymm w v ∙ ap ordering_reverse e in
    cc

module _ (l : Lattice) (d : List ℕ) (ts us : List (List ℤ)) (a : AreTranslations l d ts) (b : AreTranslations l d us) where
  -- the place in the second list of translation t of the first
  there : (t : ℕ) → t < length ts → (u : ℕ) × (u < length us) × (translation_at us u ≡ translation_at ts t)
  there t m = b.every (translation_at ts t) (a.in_lattice t m) (a.inside t m)

  rises : (s t : ℕ) (m : s < length ts) (n : t < length ts) → s < t → (there s m).0 < (there t n).0
  rises s t m n k =
      let p = there s m in
      let q = there t n in
      let up : vector_cmp (translation_at ts s) (translation_at ts t) ≡ Less = a.rising s t k n in
      smaller p.0 q.0
      (λ e. let same : s ≡ t = translations-apart l d ts a s t m n (sym p.2 ∙ ap (translation_at us) e ∙ q.2) in absurd (omega (arith, same, k)))
      (λ r. not_both (translation_at ts s) (translation_at ts t) up (ap (λ v. vector_cmp v (translation_at ts s)) (sym q.2) ∙ ap (vector_cmp (translation_at us q.0)) (sym p.2) ∙ b.rising q.0 p.0 r p.1))

  grows : (t : ℕ) (m : t < length ts) → t ≤ (there t m).0
  grows zero m = omega arith
  grows (suc t) m =
      let n : t < length ts = omega arith in
      let k : (there t n).0 < (there (suc t) m).0 = rises t (suc t) n m (omega arith) in
      let i : t ≤ (there t n).0 = grows t n in
      omega (arith, k, i)

module _ (l : Lattice) (d : List ℕ) (ts us : List (List ℤ)) (a : AreTranslations l d ts) (b : AreTranslations l d us) where
  same_place : (t : ℕ) (m : t < length ts) → (there l d ts us a b t m).0 ≡ t
  same_place t m =
      let p = there l d ts us a b t m in
      let q = there l d us ts b a p.0 p.1 in
      let e : q.0 ≡ t = translations-apart l d ts a q.0 t q.1 m (q.2 ∙ p.2) in
      let f : t ≤ p.0 = grows l d ts us a b t m in
      let g : p.0 ≤ q.0 = grows l d us ts b a p.0 p.1 in
      omega (arith, e, f, g)

  no_longer : (t : ℕ) → t < length ts → t < length us
  no_longer t m = let p = there l d ts us a b t m in let e : p.0 ≡ t = same_place t m in let n : p.0 < length us = p.1 in omega (arith, e, n)

  same_translation : (t : ℕ) → t < length ts → get_or ts t [] ≡ get_or us t []
  same_translation t m =
      let p = there l d ts us a b t m in
      a.shaped t m ∙ ap shift_of (sym p.2 ∙ ap (translation_at us) (same_place t m)) ∙ sym (b.shaped t (no_longer t m))

same_size : (m n : ℕ) → ((t : ℕ) → t < m → t < n) → ((t : ℕ) → t < n → t < m) → m ≡ n
same_size zero zero h k = refl
same_size zero (suc n) h k = let l : 0 < zero = k 0 (omega arith) in absurd (omega (arith, l))
same_size (suc m) zero h k = let l : 0 < zero = h 0 (omega arith) in absurd (omega (arith, l))
same_size (suc m) (suc n) h k =
    let p : m < suc n = h m (omega arith) in
    let q : n < suc m = k n (omega arith) in
    omega (arith, p, q)

pub translations-unique : (l : Lattice) (d : List ℕ) (ts us : List (List ℤ)) → AreTranslations l d ts → AreTranslations l d us → ts ≡ us
translations-unique l d ts us a b =
    ext_get_or [] ts us (same_size (length ts) (length us) (no_longer l d ts us a b) (no_longer l d us ts b a)) (same_translation l d ts us a b)

-- three multipliers are those of their axes
three_multipliers : (d e : List ℕ) → length d ≡ 3 → length e ≡ 3 → multiplier d 0 ≡ multiplier e 0 → multiplier d 1 ≡ multiplier e 1 → multiplier d 2 ≡ multiplier e 2 → d ≡ e
three_multipliers (x ∷ y ∷ z ∷ []) (u ∷ v ∷ w ∷ []) m n p q r = ap (λ t. t ∷ y ∷ z ∷ []) p ∙ ap (λ t. u ∷ t ∷ z ∷ []) q ∙ ap (λ t. u ∷ v ∷ t ∷ []) r
three_multipliers [] e m n p q r = absurd (omega (arith, m))
three_multipliers (x ∷ []) e m n p q r = absurd (omega (arith, m))
three_multipliers (x ∷ y ∷ []) e m n p q r = absurd (omega (arith, m))
three_multipliers (x ∷ y ∷ z ∷ t ∷ d) e m n p q r = absurd (omega (arith, m))
three_multipliers (x ∷ y ∷ z ∷ []) [] m n p q r = absurd (omega (arith, n))
three_multipliers (x ∷ y ∷ z ∷ []) (u ∷ []) m n p q r = absurd (omega (arith, n))
three_multipliers (x ∷ y ∷ z ∷ []) (u ∷ v ∷ []) m n p q r = absurd (omega (arith, n))
three_multipliers (x ∷ y ∷ z ∷ []) (u ∷ v ∷ w ∷ t ∷ e) m n p q r = absurd (omega (arith, n))

pub multiplier_list-unique : (ops : List Op) (dens : List (List ℕ)) (d e : List ℕ) → AreMultipliers ops dens d → AreMultipliers ops dens e → d ≡ e
multiplier_list-unique ops dens d e a b =
    let at : (i : ℕ) → i < 3 → multiplier d i ≡ multiplier e i = multipliers-unique ops dens d e a b in
    three_multipliers d e a.axes b.axes (at 0 (omega arith)) (at 1 (omega arith)) (at 2 (omega arith))
