use Rattle.std.proofs.Common.{◌≡◌, ℕ, ◌+◌, ◌*◌, ◌/◌, ◌%◌, ◌<◌, ◌≤◌, inl, inr, refl, sym, ◌∙◌, ap, subst, arith, add-one, below_more, List, length, if◌then◌else◌}
use Rattle.cyclo24.specs.ExactField.{ExactField, Value}
use Rattle.cyclo24.specs.FieldOn.{FieldOn}
use Rattle.cyclo24.specs.FieldLaws.{nought-times, times-nought}
use Rattle.cyclo24.specs.Numerals.{of_whole}
use Rattle.cyclo24.specs.Sums.{total}
use Rattle.cyclo24.specs.SumLaws.{one-term, total-rows, all-nought}
use Rattle.cyclo24.specs.TotalLaws.{total-same}
use Rattle.lin_alg.specs.EquationLaws.{dec, eq-self, eq-other}
use Rattle.lin_alg.specs.Matrices.{apply}
use Rattle.lin_alg.specs.Matrix.{IsWideTerm, IsWideDot}
use Rattle.lin_alg.specs.RowLaws.{vector-past}
use Rattle.lin_alg.specs.Rows.{vector}
use Rattle.lin_alg.specs.SpanLaws.{funext}
use Rattle.mode_project.specs.AtomSpace.{AtomSpace, size_of, matrix_of, IsAtomSpace}
use Rattle.mode_project.specs.AtomSpaceLaws.{row-at, atom-below, number-below, entry-at}
use Rattle.mode_project.specs.Parts.{IsPut, image_row, more, turned_row}
use Rattle.mode_project.specs.ProjectionLaws.{cut-inside, cut-past}
use Rattle.mode_project.proofs.ColumnLemmas.{outside, split-at, some-each}

module _ {K : Type 0} (f : FieldOn K) (s : AtomSpace) where
  -- the images of the first atoms are written, and those of the others are 0
  pub record AreMoved (q : ℕ) (v : ℕ → K) (k : ℕ) (new : ℕ → K) : Type 0 where
    pub each : (i : ℕ) → i < k → (a : ℕ) → a < s.each → new (s.image q i * s.each + a) ≡ total f s.each (λ b. f.times (of_whole f (s.turn q a b)) (v (i * s.each + b)))
    pub rest : (i : ℕ) → k ≤ i → i < s.atoms → (a : ℕ) → a < s.each → new (s.image q i * s.each + a) ≡ f.nought

  -- nothing is written where the numbers are 0
  pub zeros-put : (v old : ℕ → K) (at q i : ℕ) → ((a : ℕ) → a < s.each → old (at + a) ≡ f.nought) → ((b : ℕ) → b < s.each → v (i * s.each + b) ≡ f.nought)
      → IsPut old at s.each (λ a. total f s.each (λ b. f.times (of_whole f (s.turn q a b)) (v (i * s.each + b)))) old
  zeros-put v old at q i zero none = record {
    here = λ a l. zero a l ∙ sym (all-nought f s.each _ (λ b lb. ap (f.times (of_whole f (s.turn q a b))) (none b lb) ∙ times-nought f (of_whole f (s.turn q a b))));
    before = λ k l. refl;
    behind = λ k l. refl;
  }

module _ {K : Type 0} (f : FieldOn K) (s : AtomSpace) (law : IsAtomSpace s) where
  image-apart : (q i j : ℕ) → q < s.group.order → i < s.atoms → j < s.atoms → s.image q i ≡ s.image q j → i ≡ j
  image-apart q i j lq li lj e = sym (law.images.back q i lq li) ∙ ap (s.image (s.group.inverse q)) e ∙ law.images.back q j lq lj

  pub apply-block : (q i a : ℕ) (v : ℕ → K) → q < s.group.order → i < s.atoms → a < s.each
      → apply f (size_of s) (matrix_of f s q) v (s.image q i * s.each + a) ≡ total f s.each (λ b. f.times (of_whole f (s.turn q a b)) (v (i * s.each + b)))
  apply-block q i a v lq li la =
      let c = s.each in
      let r = s.image q i * c + a in
      total-rows f s.atoms c (λ k. f.times (matrix_of f s q r k) (v k))
      ∙ one-term f s.atoms i (λ m. total f c (λ b. f.times (matrix_of f s q r (m * c + b)) (v (m * c + b)))) li
      (λ m lm n. all-nought f c _ (λ b lb.
      ap (λ x. f.times x (v (m * c + b)))
      (entry-at f s q (s.image q i) a m b la lb ∙ ap (λ t. if t then of_whole f (s.turn q a b) else f.nought) (eq-other (s.image q i) (s.image q m) (λ e. n (sym (image-apart q i m lq li lm e)))))
      ∙ nought-times f (v (m * c + b))))
      ∙ total-same f c _ _ (λ b lb. ap (λ x. f.times x (v (i * c + b))) (entry-at f s q (s.image q i) a i b la lb ∙ ap (λ t. if t then of_whole f (s.turn q a b) else f.nought) (eq-self (s.image q i))))

  pub moved-start : (q : ℕ) (v new : ℕ → K) → ((r : ℕ) → new r ≡ f.nought) → AreMoved f s q v 0 new
  moved-start q v new zero = record { each = λ i l a la. absurd (omega (arith, l)); rest = λ i l li a la. zero (s.image q i * s.each + a) }

  pub moved-next : (q k : ℕ) (v old new : ℕ → K) → q < s.group.order → k < s.atoms → AreMoved f s q v k old
      → IsPut old (s.image q k * s.each) s.each (λ a. total f s.each (λ b. f.times (of_whole f (s.turn q a b)) (v (k * s.each + b)))) new → AreMoved f s q v (k + 1) new
  moved-next q k v old new lq lk h p =
      let c = s.each in
      let kept : (i : ℕ) → i < s.atoms → (i ≡ k → ⊥) → (a : ℕ) → a < c → new (s.image q i * c + a) ≡ old (s.image q i * c + a) =
      λ i li other a la.
      let lc : 0 < c = omega (arith, la) in
      let n : s.image q i ≡ s.image q k → ⊥ = λ e. other (image-apart q i k lq li lk e) in
      let r = s.image q i * c + a in
      let d : r / c ≡ s.image q k → ⊥ = λ e. n (sym (row-at c (s.image q i) a la) ∙ e) in
      elim (outside c r (s.image q k) lc d) [ inl l ↦ p.before r l | inr l ↦ p.behind r l ] in
      record {
        each =
            below_more (λ i. (a : ℕ) → a < c → new (s.image q i * c + a) ≡ total f c (λ b. f.times (of_whole f (s.turn q a b)) (v (i * c + b)))) k
            (λ i li a la. kept i (omega (arith, li, lk)) (λ e. absurd (omega (arith, li, e))) a la ∙ h.each i li a la)
            p.here;
        rest = λ i ki li a la. kept i li (λ e. absurd (omega (arith, ki, e))) a la ∙ h.rest i (omega (arith, ki)) li a la;
      }

pub moved-end : {A : Type 0} (f : ExactField) (value : A → Value f) (s : AtomSpace) (law : IsAtomSpace s) (q k : ℕ) (v : ℕ → Value f) (row : List A) → q < s.group.order → length row ≡ size_of s → k ≡ s.atoms
    → AreMoved f.laws s q v k (vector f.laws value row) → vector f.laws value row ≡ image_row f.laws s q v
moved-end f value s law q k v row lq e ek h =
    let c = s.each in
    let d = size_of s in
    funext (λ r. elim (dec r d) [
      | inr l ↦ vector-past f value row r (subst (λ (n : ℕ). n ≤ r) (sym e) l) ∙ sym (cut-past f.laws d (apply f.laws d (matrix_of f.laws s q) v) r l)
      | inl l ↦
          let lc : 0 < c = some-each s.atoms c r l in
          let m = r / c in
          let a = r % c in
          let lm : m < s.atoms = atom-below s.atoms c r l in
          let la : a < c = number-below s.atoms c r l in
          let p = s.group.inverse q in
          let i = s.image p m in
          let li : i < s.atoms = law.images.below p m (law.group.inverse_below q lq) lm in
          let at : s.image q i * c + a ≡ r = ap (λ z. z * c + a) (law.images.forth q m lq lm) ∙ split-at c r lc in
          subst (λ (z : ℕ). vector f.laws value row z ≡ image_row f.laws s q v z) at
          (h.each i (subst (λ (n : ℕ). i < n) (sym ek) li) a la
          ∙ sym (cut-inside f.laws d (apply f.laws d (matrix_of f.laws s q) v) (s.image q i * c + a) (subst (λ (z : ℕ). z < d) (sym at) l) ∙ apply-block f.laws s law q i a v lq li la))
    ])

module _ {K : Type 0} (f : FieldOn K) (s : AtomSpace) (p a : ℕ) (rows : ℕ → ℕ → K) where
  -- the sum of the first rows
  abbrev pub sums : ℕ → ℕ → K
  sums k r = total f k (λ b. f.times (of_whole f (s.turn p b a)) (rows b r))

  pub sums-next : (k : ℕ) (v new row : ℕ → K) → v ≡ sums k → row ≡ rows k → new ≡ more f v (of_whole f (s.turn p k a)) row → new ≡ sums (k + 1)
  sums-next k v new row e er h = h ∙ (λ z r. f.plus (e z r) (f.times (of_whole f (s.turn p k a)) (er z r))) ∙ ap sums (sym (add-one k))

module _ (f : ExactField) (s : AtomSpace) (p a : ℕ) (rows : ℕ → ℕ → Value f) where
  pub sums-end : {A : Type 0} (value : A → Value f) (into : List A) (k : ℕ) → length into ≡ size_of s → k ≡ s.each → vector f.laws value into ≡ sums f.laws s p a rows k → vector f.laws value into ≡ turned_row f.laws s p a rows
  sums-end value into k el ek h =
      let d = size_of s in
      funext (λ r. elim (dec r d) [
        | inl l ↦ ap (λ v. v r) h ∙ ap (λ n. sums f.laws s p a rows n r) ek ∙ sym (cut-inside f.laws d (sums f.laws s p a rows s.each) r l)
        | inr l ↦ vector-past f value into r (subst (λ (n : ℕ). n ≤ r) (sym el) l) ∙ sym (cut-past f.laws d (sums f.laws s p a rows s.each) r l)
      ])

  pub sums-wide : (k r : ℕ) (v row : ℕ → Value f) → k < s.each → v ≡ sums f.laws s p a rows k → row ≡ rows k → IsWideTerm f (v r) (of_whole f.laws (s.turn p k a)) (row r)
      → IsWideDot f s.each (λ b. of_whole f.laws (s.turn p b a)) (λ b. rows b r)
  sums-wide k r v row l e er h =
      (k, l, subst (λ (x : Value f). IsWideTerm f x (of_whole f.laws (s.turn p k a)) (rows k r)) (ap (λ u. u r) e) (subst (λ (y : Value f). IsWideTerm f (v r) (of_whole f.laws (s.turn p k a)) y) (ap (λ u. u r) er) h))
