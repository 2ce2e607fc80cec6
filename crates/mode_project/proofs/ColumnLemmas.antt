use Rattle.std.proofs.Common.{◌≡◌, ℕ, suc, zero, ◌+◌, ◌*◌, ◌/◌, ◌%◌, ◌<◌, ◌≤◌, ◌⊎◌, inl, inr, sym, ◌∙◌, ap, subst, arith, add-one, List, length, get_or, set, nat_eq, if◌then◌else◌}
use Rattle.algebra.specs.SumLaws.{decide}
use Rattle.cyclo24.specs.ExactField.{ExactField, Value}
use Rattle.cyclo24.specs.FieldLaws.{times-nought}
use Rattle.cyclo24.specs.Numerals.{of_whole}
use Rattle.cyclo24.specs.Sums.{total}
use Rattle.cyclo24.specs.TotalLaws.{total-same}
use Rattle.lin_alg.specs.EquationLaws.{dec, eq-self, eq-other}
use Rattle.lin_alg.specs.Matrix.{IsWideTerm}
use Rattle.lin_alg.specs.RowLaws.{vector-past}
use Rattle.lin_alg.specs.Rows.{vector}
use Rattle.lin_alg.specs.SpanLaws.{funext}
use Rattle.mode_project.specs.AtomSpace.{AtomSpace, size_of, matrix_of}
use Rattle.mode_project.specs.Parts.{IsPut}
use Rattle.mode_project.specs.Projection.{projection, column_of}
use Rattle.mode_project.specs.ProjectionLaws.{column-inside, column-past}
use Rattle.mode_project.specs.Wide.{IsWideColumn}
use Rattle.mode_project.proofs.PutLemmas.{put-next}
use Rattle.mode_project.proofs.VectorLemmas.{vector-at}

small-div : (c b : ℕ) → b < c → b / c ≡ 0
small-div c b l = grind arith

small-mod : (c b : ℕ) → b < c → b % c ≡ b
small-mod c b l = grind arith

pub split-at : (c r : ℕ) → 0 < c → r / c * c + r % c ≡ r
split-at c r l = let e : r / c * c ≡ c * (r / c) = omega arith in omega (arith, e, l)

pub some-each : (n c p : ℕ) → p < n * c → 0 < c
some-each n zero p l = let e : n * 0 ≡ 0 = omega arith in absurd (omega (arith, l, e))
some-each n (suc c) p l = omega arith

-- a place of an atom is inside
pub place-inside : (n c m a e len : ℕ) → m < n → e ≡ c → a < e → len ≡ n * c → m * e + a < len
place-inside n c m a e len lm ee la el = subst (λ (k : ℕ). m * e + a < k) (sym el) (subst (λ (k : ℕ). m * e + a < n * k) ee (inside n e m a lm la))
  where
    inside : (n c i a : ℕ) → i < n → a < c → i * c + a < n * c
    inside n c i a l m = grind arith

-- the places of an atom end inside
pub block-inside : (n c i : ℕ) → i < n → i * c + c ≤ n * c
block-inside n c i l = grind arith

-- a place of another atom is before or behind those of atom m
pub outside : (c r m : ℕ) → 0 < c → (r / c ≡ m → ⊥) → (r < m * c) ⊎ (m * c + c ≤ r)
outside c r m l n = grind arith

module _ (f : ExactField) (s : AtomSpace) where
  -- an entry in a column of the first atom
  pub first-entry : (q r b : ℕ) → b < s.each → matrix_of f.laws s q r b ≡ (if nat_eq (r / s.each) (s.image q 0) then of_whole f.laws (s.turn q (r % s.each) b) else f.laws.nought)
  first-entry q r b l = λ t. if nat_eq (r / s.each) (s.image q (small-div s.each b l t)) then of_whole f.laws (s.turn q (r % s.each) (small-mod s.each b l t)) else f.laws.nought

  pub own-entry : (q a b : ℕ) → a < s.each → b < s.each → matrix_of f.laws s q (s.image q 0 * s.each + a) b ≡ of_whole f.laws (s.turn q a b)
  own-entry q a b la lb =
      let m = s.image q 0 in
      let row : (m * s.each + a) / s.each ≡ m = row-of s.each m a la in
      let number : (m * s.each + a) % s.each ≡ a = number-of s.each m a la in
      first-entry q (m * s.each + a) b lb ∙ (λ t. if nat_eq (row t) m then of_whole f.laws (s.turn q (number t) b) else f.laws.nought)
      ∙ ap (λ x. if x then of_whole f.laws (s.turn q a b) else f.laws.nought) (eq-self m)
    where
      row-of : (c m b : ℕ) → b < c → (m * c + b) / c ≡ m
      row-of c m b l = grind arith

      number-of : (c m b : ℕ) → b < c → (m * c + b) % c ≡ b
      number-of c m b l = grind arith

  -- what adding the turned column gives, entry by entry
  pub turned-added : (old new : ℕ → Value f) (q b : ℕ) (w : Value f) → b < s.each
      → IsPut old (s.image q 0 * s.each) s.each (λ a. f.laws.plus (old (s.image q 0 * s.each + a)) (f.laws.times (of_whole f.laws (s.turn q a b)) w)) new
      → (r : ℕ) → new r ≡ f.laws.plus (old r) (f.laws.times w (matrix_of f.laws s q r b))
  turned-added old new q b w lb t r =
      let c = s.each in
      let m = s.image q 0 in
      let lc : 0 < c = omega (arith, lb) in
      elim (decide (r / c) m) [
        | inl h ↦
            let a = r % c in
            let la : a < c = omega (arith, lc) in
            let e : m * c + a ≡ r = ap (λ z. z * c + a) (sym h) ∙ split-at c r lc in
            subst (λ (z : ℕ). new z ≡ f.laws.plus (old z) (f.laws.times w (matrix_of f.laws s q z b))) e
            (t.here a la ∙ ap (f.laws.plus (old (m * c + a))) (f.laws.times_comm (of_whole f.laws (s.turn q a b)) w ∙ ap (f.laws.times w) (sym (own-entry q a b la lb))))
        | inr n ↦
            let zero : matrix_of f.laws s q r b ≡ f.laws.nought =
            first-entry q r b lb ∙ ap (λ x. if x then of_whole f.laws (s.turn q (r % c) b) else f.laws.nought) (eq-other (r / c) m n) in
            let same : new r ≡ old r = elim (outside c r m lc n) [ inl l ↦ t.before r l | inr l ↦ t.behind r l ] in
            same ∙ sym (ap (λ x. f.laws.plus (old r) (f.laws.times w x)) zero ∙ ap (f.laws.plus (old r)) (times-nought f.laws w) ∙ f.laws.plus-nought (old r))
      ]

  -- a term that is wide
  pub turned-wide : (old current : ℕ → Value f) (q a b : ℕ) (w : Value f) (target : ℕ → Value f) → a < s.each → b < s.each
      → IsPut old (s.image q 0 * s.each) a target current → IsWideTerm f (current (s.image q 0 * s.each + a)) (of_whole f.laws (s.turn q a b)) w
      → IsWideTerm f (old (s.image q 0 * s.each + a)) (matrix_of f.laws s q (s.image q 0 * s.each + a) b) w
  turned-wide old current q a b w target la lb t h =
      let at = s.image q 0 * s.each in
      let own : at + a ≤ at + a = omega arith in
      subst (λ (x : Value f). IsWideTerm f (old (at + a)) x w) (sym (own-entry q a b la lb)) (subst (λ (x : Value f). IsWideTerm f x (of_whole f.laws (s.turn q a b)) w) (t.behind (at + a) own) h)

  module _ {A : Type 0} (value : A → Value f) (column : List A) (old : ℕ → Value f) (q a b first : ℕ) (x : A) (w : Value f) (fe : first ≡ s.image q 0 * s.each)
      (la : a < s.each) (lb : b < s.each) (inside : first + a < length column) (own : x ≡ get_or column (first + a) x)
      (put : IsPut old (s.image q 0 * s.each) a (λ a. f.laws.plus (old (s.image q 0 * s.each + a)) (f.laws.times (of_whole f.laws (s.turn q a b)) w)) (vector f.laws value column)) where
    abbrev at : ℕ
    at = s.image q 0 * s.each

    abbrev target : ℕ → Value f
    target a = f.laws.plus (old (at + a)) (f.laws.times (of_whole f.laws (s.turn q a b)) w)

    current : vector f.laws value column (at + a) ≡ value x
    current = ap (λ z. vector f.laws value column (z + a)) (sym fe) ∙ vector-at f value column (first + a) x inside own

    pub added-next : (y : A) → value y ≡ f.laws.plus (value x) (f.laws.times (of_whole f.laws (s.turn q a b)) w) → IsPut old at (a + 1) target (vector f.laws value (set column (first + a) y))
    added-next y e =
        let here : at + a ≤ at + a = omega arith in
        let known : value x ≡ old (at + a) = sym current ∙ put.behind (at + a) here in
        let place : at + a < length column = subst (λ (z : ℕ). z + a < length column) fe inside in
        subst (λ (z : ℕ). IsPut old at (a + 1) target (vector f.laws value (set column (z + a) y))) (sym fe)
        (put-next f value old target column at a y place (e ∙ ap (λ z. f.laws.plus z (f.laws.times (of_whole f.laws (s.turn q a b)) w)) known) put)

    pub added-wide : length column ≡ size_of s → IsWideTerm f (value x) (of_whole f.laws (s.turn q a b)) w → (r : ℕ) × (r < size_of s) × IsWideTerm f (old r) (matrix_of f.laws s q r b) w
    added-wide len h =
        let place : at + a < size_of s = subst (λ (n : ℕ). at + a < n) len (subst (λ (z : ℕ). z + a < length column) fe inside) in
        (at + a, place, turned-wide old (vector f.laws value column) q a b w target la lb put (subst (λ (y : Value f). IsWideTerm f y (of_whole f.laws (s.turn q a b)) w) (sym current) h))

  module _ (w : ℕ → Value f) where
    -- the sum over the first q elements, with one more
    pub sum-next : (b q : ℕ) (old new : ℕ → Value f) (x : Value f) → x ≡ w q → ((r : ℕ) → old r ≡ total f.laws q (λ p. f.laws.times (w p) (matrix_of f.laws s p r b)))
        → ((r : ℕ) → new r ≡ f.laws.plus (old r) (f.laws.times x (matrix_of f.laws s q r b)))
        → (r : ℕ) → new r ≡ total f.laws (q + 1) (λ p. f.laws.times (w p) (matrix_of f.laws s p r b))
    sum-next b q old new x e t k r =
        k r ∙ (λ z. f.laws.plus (t r z) (f.laws.times (e z) (matrix_of f.laws s q r b)))
        ∙ ap (λ n. total f.laws n (λ p. f.laws.times (w p) (matrix_of f.laws s p r b))) (sym (add-one q))

    pub sum-wide : (b q : ℕ) (old : ℕ → Value f) (x : Value f) → b < s.each → q < s.group.order → x ≡ w q → ((r : ℕ) → old r ≡ total f.laws q (λ p. f.laws.times (w p) (matrix_of f.laws s p r b)))
        → (r : ℕ) × (r < size_of s) × IsWideTerm f (old r) (matrix_of f.laws s q r b) x → IsWideColumn f s w
    sum-wide b q old x lb lq e t h =
        let r = h.0 in
        let turned : old r ≡ total f.laws q (λ p. f.laws.times (matrix_of f.laws s p r b) (w p)) =
        t r ∙ total-same f.laws q _ _ (λ p l. f.laws.times_comm (w p) (matrix_of f.laws s p r b)) in (
          r,
          b,
          h.1,
          lb,
          (q, lq, subst (λ (y : Value f). IsWideTerm f y (matrix_of f.laws s q r b) (w q)) turned (subst (λ (y : Value f). IsWideTerm f (old r) (matrix_of f.laws s q r b) y) e h.2)),
        )

    pub sum-end : {A : Type 0} (value : A → Value f) (b q : ℕ) (column : List A) → length column ≡ size_of s → q ≡ s.group.order
        → ((r : ℕ) → vector f.laws value column r ≡ total f.laws q (λ p. f.laws.times (w p) (matrix_of f.laws s p r b)))
        → vector f.laws value column ≡ column_of f.laws (size_of s) (projection f.laws s w) b
    sum-end value b q column e k t =
        funext (λ r. elim (dec r (size_of s)) [
          | inl l ↦ t r ∙ ap (λ n. total f.laws n (λ p. f.laws.times (w p) (matrix_of f.laws s p r b))) k ∙ sym (column-inside f.laws (size_of s) (projection f.laws s w) b r l)
          | inr l ↦ vector-past f value column r (subst (λ (n : ℕ). n ≤ r) (sym e) l) ∙ sym (column-past f.laws (size_of s) (projection f.laws s w) b r l)
        ])
