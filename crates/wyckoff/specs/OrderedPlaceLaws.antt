-- A rising list of places is fixed by its members.
--
-- rising_lists-unique: two rising lists with the same members are equal
use Rattle.std.proofs.Common.{◌≡◌, refl, sym, ap, ◌∙◌, subst, ℕ, zero, suc, ◌<◌, ℤ, List, [], ◌∷◌, length, get_or, arith}
use Rattle.std.proofs.lemmas.Cmp.{lists_total, int_cmp_total, tied_itself}
use Rattle.std.specs.Cmp.Lexicographic.{slice_cmp}
use Rattle.std.specs.Ordering.{int_cmp, ordering_reverse}
use Rattle.std.specs.declared.cmp.Ordering.{Ordering}
use Rattle.std.specs.declared.cmp.Ordering.TheVariants.{Less, Equal, Greater}

abbrev cmp : List ℤ → List ℤ → Ordering
cmp = slice_cmp int_cmp

abbrev pub IsRisingArrays : List (List ℤ) → Type 0
IsRisingArrays v = (i j : ℕ) → i < j → j < length v → slice_cmp int_cmp (get_or v i []) (get_or v j []) ≡ Less

abbrev pub IsAmongArrays : List (List ℤ) → List ℤ → Type 0
IsAmongArrays v x = (i : ℕ) × (i < length v) × (get_or v i [] ≡ x)

abbrev pub AreAmongArrays : List (List ℤ) → List (List ℤ) → Type 0
AreAmongArrays v w = (i : ℕ) → i < length v → IsAmongArrays w (get_or v i [])

not_itself : (x y : List ℤ) → x ≡ y → cmp x y ≡ Less → ⊥
not_itself x y e l = let f : cmp x y ≡ Equal = ap (cmp x) (sym e) ∙ tied_itself (lists_total int_cmp_total) x in let g : Less ≡ Equal = sym l ∙ f in cc

not_both : (x y : List ℤ) → cmp x y ≡ Less → cmp y x ≡ Less → ⊥
not_both x y l m = let g : Less ≡ Greater = sym m ∙ (lists_total int_cmp_total).antisymm y x ∙ ap ordering_reverse l in cc

rest_rising : (x : List ℤ) (v : List (List ℤ)) → IsRisingArrays (x ∷ v) → IsRisingArrays v
rest_rising x v r i j l m = r (suc i) (suc j) (omega arith) (omega arith)

after_first : (x : List ℤ) (v : List (List ℤ)) → IsRisingArrays (x ∷ v) → (i : ℕ) → i < length v → cmp x (get_or v i []) ≡ Less
after_first x v r i l = r 0 (suc i) (omega arith) (omega arith)

rest_members : (x : List ℤ) (v w : List (List ℤ)) → IsRisingArrays (x ∷ v) → AreAmongArrays (x ∷ v) (x ∷ w) → AreAmongArrays v w
rest_members x v w r h i l = at (h (suc i) (omega arith)) where
  at : IsAmongArrays (x ∷ w) (get_or v i []) → IsAmongArrays w (get_or v i [])
  at (zero, m, e) = absurd (not_itself x (get_or v i []) e (after_first x v r i l))
  at (suc k, m, e) = (k, omega arith, e)

firsts_equal : (x y : List ℤ) (v w : List (List ℤ)) → IsRisingArrays (x ∷ v) → IsRisingArrays (y ∷ w) → IsAmongArrays (y ∷ w) x → IsAmongArrays (x ∷ v) y → x ≡ y
firsts_equal x y v w r t (zero, l, e) b = sym e
firsts_equal x y v w r t (suc i, l, e) (zero, m, f) = f
firsts_equal x y v w r t (suc i, l, e) (suc j, m, f) =
    absurd (not_both x y (ap (cmp x) (sym f) ∙ after_first x v r j (omega arith)) (ap (cmp y) (sym e) ∙ after_first y w t i (omega arith)))

pub rising_lists-unique : (v w : List (List ℤ)) → IsRisingArrays v → IsRisingArrays w → AreAmongArrays v w → AreAmongArrays w v → v ≡ w
rising_lists-unique [] [] r t h k = refl
rising_lists-unique [] (y ∷ w) r t h k = let a = k 0 (omega arith) in let l : a.0 < 0 = a.1 in absurd (omega (arith, l))
rising_lists-unique (x ∷ v) [] r t h k = let a = h 0 (omega arith) in let l : a.0 < 0 = a.1 in absurd (omega (arith, l))
rising_lists-unique (x ∷ v) (y ∷ w) r t h k =
    let e : x ≡ y = firsts_equal x y v w r t (h 0 (omega arith)) (k 0 (omega arith)) in
    let t' : IsRisingArrays (x ∷ w) = subst (λ (z : List ℤ). IsRisingArrays (z ∷ w)) (sym e) t in
    let h' : AreAmongArrays (x ∷ v) (x ∷ w) = subst (λ (z : List ℤ). AreAmongArrays (x ∷ v) (z ∷ w)) (sym e) h in
    let k' : AreAmongArrays (x ∷ w) (x ∷ v) = subst (λ (z : List ℤ). AreAmongArrays (z ∷ w) (x ∷ v)) (sym e) k in
    λ i. e i ∷ rising_lists-unique v w (rest_rising x v r) (rest_rising x w t') (rest_members x v w r h') (rest_members x w v t' k') i
