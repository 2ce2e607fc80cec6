-- A space over a field where no sum of ones is 0 is no finite union of proper subspaces.
--
-- two-points: a subspace that holds two points of a line holds the line
-- avoiding: a vector outside finitely many proper subspaces
use Rattle.std.proofs.Common.{◌≡◌, ℕ, suc, zero, ◌<◌, ◌≤◌, ◌+◌, ◌-◌, zero-add, ◌⊎◌, inl, inr, false, sym, ◌∙◌, ap, subst, arith}
use Rattle.cyclo24.specs.FieldOn.{FieldOn, ones}
use Rattle.lin_alg.specs.Spans.{IsSubspace}
use Rattle.cyclo24.specs.FieldLaws.{nought-plus, unit-times, plus-times}
use Rattle.lin_alg.specs.SpanLaws.{funext}
use Rattle.lin_alg.specs.InsertLaws.{has_less}

-- v + c w
abbrev pub more : {K : Type 0} → FieldOn K → (ℕ → K) → K → (ℕ → K) → ℕ → K
more f v c w = λ j. f.plus (v j) (f.times c (w j))

pub lower : (i n : ℕ) → i < suc n → (i < n) ⊎ (i ≡ n)
lower i n l = grind arith

below_suc : (bad : ℕ → ℕ → Type 0) (n t : ℕ) → ((i : ℕ) → i < n → bad i t → ⊥) → (bad n t → ⊥) → (i : ℕ) → i < suc n → bad i t → ⊥
below_suc bad n t g h i l b = elim (lower i n l) [ inl k ↦ g i k b | inr e ↦ h (subst (λ (z : ℕ). bad z t) e b) ]

-- tests of which each fails at most once leave a number past each bound
pub free_number : (bad : ℕ → ℕ → Type 0) (n : ℕ) →
    ((i t : ℕ) → i < n → bad i t ⊎ (bad i t → ⊥)) →
    ((i t u : ℕ) → i < n → t < u → bad i t → bad i u → ⊥) →
    (s : ℕ) → (t : ℕ) × (s ≤ t) × ((i : ℕ) → i < n → bad i t → ⊥)
free_number bad zero decide once s = (s, omega arith, λ i l. absurd (omega arith))
free_number bad (suc n) decide once s =
    let below : (u : ℕ) → (t : ℕ) × (u ≤ t) × ((i : ℕ) → i < n → bad i t → ⊥) =
    free_number bad n (λ i t l. let k : i < suc n = omega arith in decide i t k) (λ i t u l. let k : i < suc n = omega arith in once i t u k) in
    let first = below s in
    let last : n < suc n = omega arith in
    elim (decide n first.0 last) [
      | inl b ↦
          let next = below (suc first.0) in
          let l : first.0 < next.0 = let h = next.1 in omega arith in
          let ge : s ≤ next.0 = let h = first.1 in omega arith in
          (next.0, ge, below_suc bad n next.0 next.2 (λ h. once n first.0 next.0 last l b h))
      | inr g ↦ (first.0, first.1, below_suc bad n first.0 first.2 g)
    ]

module _ {K : Type 0} (f : FieldOn K) where
  ones-plus : (a b : ℕ) → ones f (a + b) ≡ f.plus (ones f a) (ones f b)
  ones-plus zero b = rw zero-add (sym (nought-plus f (ones f b)))
  ones-plus (suc a) b =
      let e : suc a + b ≡ suc (a + b) = omega arith in
      rw e (ap (f.plus f.unit) (ones-plus a b) ∙ sym (f.plus_assoc f.unit (ones f a) (ones f b)))

  -- (x + (a + b) y) - (x + a y) = b y
  step : (x y a b : K) → f.plus (f.plus x (f.times (f.plus a b) y)) (f.neg (f.times f.unit (f.plus x (f.times a y)))) ≡ f.times b y
  step x y a b =
      rw (
        unit-times f (f.plus x (f.times a y)),
        plus-times f a b y,
        ← f.plus_assoc x (f.times a y) (f.times b y),
        f.plus_comm (f.plus x (f.times a y)) (f.times b y),
        f.plus_assoc (f.times b y) (f.plus x (f.times a y)) (f.neg (f.plus x (f.times a y))),
        f.plus-neg (f.plus x (f.times a y)),
      ) (f.plus-nought (f.times b y))

  back : (x y a : K) → f.plus (f.plus x (f.times a y)) (f.neg (f.times a y)) ≡ x
  back x y a = f.plus_assoc x (f.times a y) (f.neg (f.times a y)) ∙ ap (f.plus x) (f.plus-neg (f.times a y)) ∙ f.plus-nought x

  -- a subspace that holds two points of a line holds the line
  pub two-points : ((n : ℕ) → f.is_nought (ones f (suc n)) ≡ false) → (P : (ℕ → K) → Type 0) → IsSubspace f P → (v w : ℕ → K) (t u : ℕ) → t < u →
      P (more f v (ones f t) w) → P (more f v (ones f u) w) → P w × P v
  two-points char P s v w t u l h k =
      let d : ℕ = u - suc t in
      let e : u ≡ t + suc d = omega arith in
      let k' : P (more f v (f.plus (ones f t) (ones f (suc d))) w) = subst (λ (c : K). P (more f v c w)) (ap (ones f) e ∙ ones-plus t (suc d)) k in
      let m : P (λ j. f.times (ones f (suc d)) (w j)) =
      subst P (funext (λ j. step (v j) (w j) (ones f t) (ones f (suc d)))) (has_less f P s (more f v (f.plus (ones f t) (ones f (suc d))) w) f.unit (more f v (ones f t) w) k' h) in
      let c : K = ones f (suc d) in
      let in_w : P w = subst P (funext (λ j. sym (f.times_assoc (f.inverse c) c (w j)) ∙ ap (λ x. f.times x (w j)) (f.times_comm (f.inverse c) c ∙ f.times-inverse c (char d)) ∙ unit-times f (w j))) (s.has_times (f.inverse c) _ m) in
      (in_w, subst P (funext (λ j. back (v j) (w j) (ones f t))) (has_less f P s (more f v (ones f t) w) (ones f t) w h in_w))

  -- a space where no sum of ones is 0 is no finite union of proper subspaces
  pub avoiding : ((n : ℕ) → f.is_nought (ones f (suc n)) ≡ false) → (U : (ℕ → K) → Type 0) → IsSubspace f U →
      (F : ℕ → (ℕ → K) → Type 0) (n : ℕ) → ((i : ℕ) → i < n → IsSubspace f (F i)) → ((i : ℕ) (v : ℕ → K) → i < n → F i v ⊎ (F i v → ⊥)) →
      ((i : ℕ) → i < n → (w : ℕ → K) × U w × (F i w → ⊥)) →
      (v : ℕ → K) × U v × ((i : ℕ) → i < n → F i v → ⊥)
  avoiding char U s F zero spaces decide proper = ((λ _. f.nought), s.has_nought, λ i l. absurd (omega arith))
  avoiding char U s F (suc n) spaces decide proper =
      let old = avoiding char U s F n (λ i l. let k : i < suc n = omega arith in spaces i k) (λ i v l. let k : i < suc n = omega arith in decide i v k) (λ i l. let k : i < suc n = omega arith in proper i k) in
      let last : n < suc n = omega arith in
      let new = proper n last in
      let v : ℕ → K = old.0 in
      let w : ℕ → K = new.0 in
      let bad : ℕ → ℕ → Type 0 = λ i t. F i (more f v (ones f t) w) in
      let once : (i t u : ℕ) → i < suc n → t < u → bad i t → bad i u → ⊥ =
      λ i t u l lt h k.
      let both : F i w × F i v = two-points char (F i) (spaces i l) v w t u lt h k in
      elim (lower i n l) [ inl b ↦ old.2 i b both.1 | inr e ↦ new.2 (subst (λ (z : ℕ). F z w) e both.0) ] in
      let free = free_number bad (suc n) (λ i t l. decide i (more f v (ones f t) w) l) once 0 in
      (more f v (ones f free.0) w, s.has_plus v (λ j. f.times (ones f free.0) (w j)) old.1 (s.has_times (ones f free.0) w new.1), free.2)
