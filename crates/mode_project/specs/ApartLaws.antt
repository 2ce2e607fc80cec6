-- What modes of irreps that are apart obey, over a field where a sum of squares is zero only where each is.
--
-- ranges-meet: the ranges of two projections that are apart meet only in zero
-- sum-meets: the range of a projection meets the sum of those that are apart from it only in zero
-- own-span: the modes of an irrep span the range of its projection, where it is apart from those before it
use Rattle.std.proofs.Common.{◌≡◌, ℕ, suc, zero, ◌+◌, ◌<◌, ◌≤◌, ◌⊎◌, Bool, inl, inr, refl, sym, ◌∙◌, ap, subst, arith, List, [], ◌∷◌, ◌++◌, length, take, nat_eq, lt-ltb, le-ltb, if◌then◌else◌}
use Rattle.algebra.specs.SumLaws.{decide}
use Rattle.cyclo24.specs.FieldOn.{FieldOn}
use Rattle.cyclo24.specs.FieldLaws.{less-back, less-self, less-at-nought, plus-cancel, unit-times}
use Rattle.cyclo24.specs.Sums.{IsReal}
use Rattle.lin_alg.specs.EquationLaws.{dec, eq-self, eq-other}
use Rattle.lin_alg.specs.InsertLaws.{span-least, span-rows, rows-mono, has_less}
use Rattle.lin_alg.specs.SpanLaws.{funext}
use Rattle.lin_alg.specs.Spans.{row_vectors, less, IsInSpan, IsSubspace, HasRows, AreSame}
use Rattle.induce.specs.Apart.{AreApart}
use Rattle.mode_project.specs.AtomSpace.{AtomSpace, size_of, matrix_of, IsAtomSpace}
use Rattle.mode_project.specs.AtomSpaceLaws.{matrices-multiply, matrix-unit}
use Rattle.mode_project.specs.ApartModes.{of_irrep, MeetInZero, AreAllApart}
use Rattle.mode_project.specs.InvariantFormLaws.{form, form-same, form-plus, nought-form, positive, cross-nought}
use Rattle.mode_project.specs.KeptLaws.{EachPair, pairs-append, kept-each, kept-before}
use Rattle.mode_project.specs.ListLaws.{span-split, span-within, front-rows, back-rows}
use Rattle.mode_project.specs.Modes.{marked, AreRangeRows, AreIrrepModes, vector_at, before_irrep}
use Rattle.mode_project.specs.Projection.{projection, IsInRange, IsInSum}
use Rattle.mode_project.specs.ProjectionLaws.{range-subspace}

module _ {V : Type 0} where
  -- what the modes of irreps below j and those of j have, those of irreps below j + 1 have
  before-own : (P : V → Type 0) (j : ℕ) (ms : List (ℕ × V)) → EachPair (λ c. P c.1) (before_irrep j ms) → EachPair (λ c. P c.1) (of_irrep j ms) → EachPair (λ c. P c.1) (before_irrep (suc j) ms)
  before-own P j [] a b = tt
  before-own P j (m ∷ ms) a b =
      elim (three m.0 j) [
        | inl l ↦
            let x = subst (λ (t : Bool). EachPair (λ c. P c.1) (if t then m ∷ before_irrep j ms else before_irrep j ms)) (lt-ltb m.0 j l) a in
            let y = subst (λ (t : Bool). EachPair (λ c. P c.1) (if t then m ∷ of_irrep j ms else of_irrep j ms)) (eq-other m.0 j (λ e. absurd (omega (arith, l, e)))) b in
            subst (λ (t : Bool). EachPair (λ c. P c.1) (if t then m ∷ before_irrep (suc j) ms else before_irrep (suc j) ms)) (sym (lt-ltb m.0 (suc j) (omega (arith, l)))) (x.0, before-own P j ms x.1 y)
        | inr (inl e) ↦
            let k : j ≤ m.0 = omega (arith, e) in
            let x = subst (λ (t : Bool). EachPair (λ c. P c.1) (if t then m ∷ before_irrep j ms else before_irrep j ms)) (le-ltb m.0 j k) a in
            let y = subst (λ (t : Bool). EachPair (λ c. P c.1) (if t then m ∷ of_irrep j ms else of_irrep j ms)) (ap (λ i. nat_eq i j) e ∙ eq-self j) b in
            subst (λ (t : Bool). EachPair (λ c. P c.1) (if t then m ∷ before_irrep (suc j) ms else before_irrep (suc j) ms)) (sym (lt-ltb m.0 (suc j) (omega (arith, e)))) (y.0, before-own P j ms x y.1)
        | inr (inr l) ↦
            let k : j ≤ m.0 = omega (arith, l) in
            let x = subst (λ (t : Bool). EachPair (λ c. P c.1) (if t then m ∷ before_irrep j ms else before_irrep j ms)) (le-ltb m.0 j k) a in
            let y = subst (λ (t : Bool). EachPair (λ c. P c.1) (if t then m ∷ of_irrep j ms else of_irrep j ms)) (eq-other m.0 j (λ e. absurd (omega (arith, l, e)))) b in
            subst (λ (t : Bool). EachPair (λ c. P c.1) (if t then m ∷ before_irrep (suc j) ms else before_irrep (suc j) ms)) (sym (le-ltb m.0 (suc j) l)) (before-own P j ms x y)
      ]
    where
      three : (i k : ℕ) → (i < k) ⊎ ((i ≡ k) ⊎ (suc k ≤ i))
      three i k = grind arith

  -- what each pair has at its number, the modes of irrep j have at j
  own-pairs : (Q : ℕ → V → Type 0) (j : ℕ) (ms : List (ℕ × V)) → EachPair (λ c. Q c.0 c.1) ms → EachPair (λ c. Q j c.1) (of_irrep j ms)
  own-pairs Q j [] a = tt
  own-pairs Q j (m ∷ ms) a =
      elim (decide m.0 j) [
        | inl e ↦ subst (λ (t : Bool). EachPair (λ c. Q j c.1) (if t then m ∷ of_irrep j ms else of_irrep j ms)) (sym (ap (λ i. nat_eq i j) e ∙ eq-self j)) (subst (λ (i : ℕ). Q i m.1) e a.0, own-pairs Q j ms a.1)
        | inr n ↦ subst (λ (t : Bool). EachPair (λ c. Q j c.1) (if t then m ∷ of_irrep j ms else of_irrep j ms)) (sym (eq-other m.0 j n)) (own-pairs Q j ms a.1)
      ]

module _ {K : Type 0} where
  rows-pairs : (P : (ℕ → K) → Type 0) (ms : List (ℕ × (ℕ → K))) → HasRows P (row_vectors ms) → EachPair (λ c. P c.1) ms
  rows-pairs P [] a = tt
  rows-pairs P (m ∷ ms) a = (a.0, rows-pairs P ms a.1)

  pairs-rows : (P : (ℕ → K) → Type 0) (ms : List (ℕ × (ℕ → K))) → EachPair (λ c. P c.1) ms → HasRows P (row_vectors ms)
  pairs-rows P [] a = tt
  pairs-rows P (m ∷ ms) a = (a.0, pairs-rows P ms a.1)

module _ {K : Type 0} (f : FieldOn K) (s : AtomSpace) where
  -- the reduced rows of the range of an irrep's projection, by its number
  range-pairs : (Q : ℕ → (ℕ → K) → Type 0) (j : ℕ) (ws : List (ℕ → K)) → ((i : ℕ) → i < length ws → (v : ℕ → K) → IsInRange f (size_of s) (projection f s (vector_at f ws i)) v → Q (j + i) v)
      → (cs : List (ℕ × (ℕ → K))) → AreRangeRows f s j ws cs → EachPair (λ c. Q c.0 c.1) cs
  range-pairs Q j [] h cs a = subst (EachPair (λ c. Q c.0 c.1)) (sym a) tt
  range-pairs Q j (w ∷ ws) h cs a =
      let rs = a.0 in
      let zero_more : j + 0 ≡ j = omega arith in
      let own : HasRows (Q j) (row_vectors rs) =
      rows-mono f (IsInSpan f (row_vectors rs)) (Q j) (λ v k. subst (λ (i : ℕ). Q i v) zero_more (h 0 (omega arith) v ((a.1.spans v).0 k))) (row_vectors rs) (span-rows f (row_vectors rs)) in
      let later = range-pairs Q (suc j) ws (λ i l v k. let e : j + suc i ≡ suc j + i = omega arith in subst (λ (n : ℕ). Q n v) e (h (suc i) (omega (arith, l)) v k)) a.2.0 a.2.1 in
      subst (EachPair (λ c. Q c.0 c.1)) (sym a.2.2) (pairs-append (λ c. Q c.0 c.1) (marked j rs) a.2.0 (marked-pairs j rs own) later)
    where
      marked-pairs : (j : ℕ) (rs : List (ℕ × (ℕ → K))) → HasRows (Q j) (row_vectors rs) → EachPair (λ c. Q c.0 c.1) (marked j rs)
      marked-pairs j [] b = tt
      marked-pairs j (r ∷ rs) b = (b.0, marked-pairs j rs b.1)

  -- each mode is in the range of its irrep's projection
  mode-pairs : (ws : List (ℕ → K)) (ms : List (ℕ × (ℕ → K))) → AreIrrepModes f s ws ms → EachPair (λ c. IsInRange f (size_of s) (projection f s (vector_at f ws c.0)) c.1) ms
  mode-pairs ws ms h =
      let Q : (ℕ × (ℕ → K)) → Type 0 = λ c. IsInRange f (size_of s) (projection f s (vector_at f ws c.0)) c.1 in
      kept-each f (EachPair Q) Q (λ xs c p a _. pairs-append Q xs (c ∷ []) a (p, tt)) [] h.0 ms
      (range-pairs (λ i v. IsInRange f (size_of s) (projection f s (vector_at f ws i)) v) 0 ws
      (λ i l v k. let e : i ≡ 0 + i = omega arith in subst (λ (n : ℕ). IsInRange f (size_of s) (projection f s (vector_at f ws n)) v) e k) h.0 h.1) h.2 tt

module _ {K : Type 0} (f : FieldOn K) (real : IsReal f) (s : AtomSpace) (law : IsAtomSpace s) where
  abbrev d : ℕ
  d = size_of s

  abbrev IsOf : (ℕ → K) → (ℕ → K) → Type 0
  IsOf w v = IsInRange f d (projection f s w) v

  abbrev pair : (ℕ → K) → (ℕ → K) → K
  pair u v = form f s.group law.group d (matrix_of f s) (matrices-multiply f s law) u v

  -- the form of v with itself is 0, so v is
  vanishes : (v : ℕ → K) → ((i : ℕ) → d ≤ i → v i ≡ f.nought) → pair v v ≡ f.nought → (i : ℕ) → v i ≡ f.nought
  vanishes v w z i = elim (dec i d) [
    | inl l ↦ positive f s.group law.group d (matrix_of f s) (matrices-multiply f s law) real (matrix-unit f s law) v z i l
    | inr l ↦ w i l
  ]

  cross : (w u : ℕ → K) → AreApart f s.group w u → (x y : ℕ → K) → IsOf w x → IsOf u y → pair x y ≡ f.nought
  cross w u a x y hx hy = cross-nought f s.group law.group d (matrix_of f s) (matrices-multiply f s law) w u a.left a.sums x hx.1.0 y hy.1.0 hx.1.1 hy.1.1

  pub ranges-meet : (w u : ℕ → K) → AreApart f s.group w u → MeetInZero f d (projection f s w) (projection f s u)
  ranges-meet w u a v hw hu = vanishes v hw.0 (cross w u a v v hw hu)

  -- a sum of vectors of ranges that are apart from that of u
  sum-cross : (ws : List (ℕ → K)) (u : ℕ → K) → ((i : ℕ) → i < length ws → AreApart f s.group (vector_at f ws i) u) → (x y : ℕ → K) → IsInSum f s ws x → IsOf u y → pair x y ≡ f.nought
  sum-cross [] u a x y hx hy = nought-form f s.group law.group d (matrix_of f s) (matrices-multiply f s law) x y (λ i l. hx i)
  sum-cross (w ∷ ws) u a x y hx hy =
      let v : ℕ → K = hx.0 in
      let rest : ℕ → K = less f x f.unit v in
      let e : (i : ℕ) → x i ≡ f.plus (rest i) (v i) = λ i. sym (ap (f.plus (rest i)) (sym (unit-times f (v i))) ∙ less-back f (x i) f.unit (v i)) in
      form-same f s.group law.group d (matrix_of f s) (matrices-multiply f s law) x (λ i. f.plus (rest i) (v i)) y y (λ i l. e i) (λ i l. refl)
      ∙ form-plus f s.group law.group d (matrix_of f s) (matrices-multiply f s law) rest v y
      ∙ (λ t. f.plus (sum-cross ws u (λ i l. a (suc i) (omega (arith, l))) rest y hx.2 hy t) (cross w u (a 0 (omega arith)) v y hx.1 hy t))
      ∙ f.plus-nought f.nought

  pub sum-meets : (ws : List (ℕ → K)) (u : ℕ → K) → ((i : ℕ) → i < length ws → AreApart f s.group (vector_at f ws i) u) → (v : ℕ → K) → IsInSum f s ws v → IsOf u v → (i : ℕ) → v i ≡ f.nought
  sum-meets ws u a v hs hu = vanishes v hu.0 (sum-cross ws u a v v hs hu)

  -- a - (a - b) = b
  back-at : (a b : K) → f.plus a (f.neg (f.times f.unit (f.plus a (f.neg (f.times f.unit b))))) ≡ b
  back-at a b =
      let r : K = f.plus a (f.neg (f.times f.unit b)) in
      plus-cancel f (f.plus a (f.neg (f.times f.unit r))) b (f.times f.unit r)
      (less-back f a f.unit r ∙ sym (f.plus_comm b (f.times f.unit r) ∙ ap (λ z. f.plus z b) (unit-times f r) ∙ ap (f.plus r) (sym (unit-times f b)) ∙ less-back f a f.unit b))

  take-at : (ws : List (ℕ → K)) (j i : ℕ) → i < length (take j ws) → (i < j) × (vector_at f (take j ws) i ≡ vector_at f ws i)
  take-at ws zero i l = absurd (omega (arith, l))
  take-at [] (suc j) i l = absurd (omega (arith, l))
  take-at (w ∷ ws) (suc j) zero l = (omega arith, refl)
  take-at (w ∷ ws) (suc j) (suc i) l = let t = take-at ws j i (omega (arith, l)) in (let k : i < j = t.0 in omega (arith, k), t.1)

  take-all : (ws : List (ℕ → K)) (j : ℕ) → j < length ws → (v : ℕ → K) → IsOf (vector_at f ws j) v → IsInSum f s (take (suc j) ws) v
  take-all [] j l v h = absurd (omega (arith, l))
  take-all (w ∷ ws) zero l v h = (v, h, λ i. less-self f (v i))
  take-all (w ∷ ws) (suc j) l v h =
      let z : ℕ → K = λ _. f.nought in
      let e : v ≡ less f v f.unit z = funext (λ i. sym (less-at-nought f (v i) f.unit)) in
      (z, (range-subspace f d (projection f s w)).has_nought, subst (IsInSum f s (take (suc j) ws)) e (take-all ws j (omega (arith, l)) v h))

  pub own-span : (ws : List (ℕ → K)) (ms : List (ℕ × (ℕ → K))) → AreIrrepModes f s ws ms → AreAllApart f s.group ws → (j : ℕ) → j < length ws
      → AreSame (IsInSpan f (row_vectors (of_irrep j ms))) (IsOf (vector_at f ws j))
  own-span ws ms h apart j l v =
      let w : ℕ → K = vector_at f ws j in
      let own : List (ℕ → K) = row_vectors (of_irrep j ms) in
      let before : List (ℕ → K) = row_vectors (before_irrep j ms) in
      let sub : IsSubspace f (IsOf w) = range-subspace f d (projection f s w) in
      let rows : HasRows (IsOf w) own = pairs-rows (IsOf w) (of_irrep j ms) (own-pairs (λ i x. IsOf (vector_at f ws i) x) j ms (mode-pairs f s ws ms h)) in
      let into : (x : ℕ → K) → IsInSpan f own x → IsOf w x = span-least f (IsOf w) sub own rows in
      let all : List (ℕ → K) = before ++ own in
      let more : HasRows (IsInSpan f all) (row_vectors (before_irrep (suc j) ms)) =
      pairs-rows (IsInSpan f all) (before_irrep (suc j) ms)
      (before-own (IsInSpan f all) j ms (rows-pairs (IsInSpan f all) (before_irrep j ms) (front-rows f before own)) (rows-pairs (IsInSpan f all) (of_irrep j ms) (back-rows f before own))) in (
        into v,
        λ hv.
            let first : IsInSpan f (row_vectors (before_irrep (suc j) ms)) v = (kept-before f s ws h.0 ms h.1 h.2 (suc j) (omega (arith, l)) v).1 (take-all ws j l v hv) in
            let parts = span-split f before own v (span-within f (row_vectors (before_irrep (suc j) ms)) all more v first) in
            let x : ℕ → K = parts.0 in
            let rest : ℕ → K = less f v f.unit x in
            let sum : IsInSum f s (take j ws) x = (kept-before f s ws h.0 ms h.1 h.2 j (omega (arith, l)) x).0 parts.1 in
            let left : IsOf w x = subst (IsOf w) (funext (λ i. back-at (v i) (x i))) (has_less f (IsOf w) sub v f.unit rest hv (into rest parts.2)) in
            let zero_x : (i : ℕ) → x i ≡ f.nought =
            sum-meets (take j ws) w
            (λ i k. let t = take-at ws j i k in subst (λ (y : ℕ → K). AreApart f s.group y w) (sym t.1) (apart i j t.0 l)) x sum left in
            let e : rest ≡ v = funext (λ i. ap (λ y. f.plus (v i) (f.neg (f.times f.unit y))) (zero_x i) ∙ less-at-nought f (v i) f.unit) in
            subst (IsInSpan f own) e parts.2,
      )
