-- The modes of an orbit, and those of an irrep for a direction, are one answer.
--
-- alike-sym: either of two alike spaces may stand first
-- same-matrices, same-projections: the matrices M(q), and P, of alike spaces are equal
-- form-unique: there is one reduced form of a span
-- rows-unique, kept-unique: one list of the reduced rows of the ranges, and one list of those that are kept
-- modes-unique, direction-unique: one list of modes
use Rattle.std.proofs.Common.{◌≡◌, ℕ, suc, ◌*◌, ◌/◌, ◌%◌, ◌<◌, inl, inr, sym, ◌∙◌, ap, subst, List, [], ◌∷◌, ◌++◌, All, nat_eq, if◌then◌else◌}
use Rattle.std.proofs.lemmas.List.Elements.{All-head, All-tail}
use Rattle.cyclo24.specs.FieldOn.{FieldOn}
use Rattle.cyclo24.specs.Numerals.{of_whole}
use Rattle.cyclo24.specs.Sums.{total}
use Rattle.cyclo24.specs.TotalLaws.{total-same}
use Rattle.lin_alg.specs.Fixed.{IsFixedByAll}
use Rattle.lin_alg.specs.Matrices.{apply, AreEqualBelow}
use Rattle.lin_alg.specs.Reduced.{free_columns}
use Rattle.lin_alg.specs.SpanLaws.{reduced-unique}
use Rattle.lin_alg.specs.Spans.{row_vectors, IsInSpan, AreSame}
use Rattle.mode_project.specs.AtomSpace.{AtomSpace, size_of, matrix_of}
use Rattle.mode_project.specs.AtomSpaceLaws.{atom-below, number-below}
use Rattle.mode_project.specs.DirectionModes.{IsLeftBy, IsLeftInRange, AreModesOf}
use Rattle.mode_project.specs.Modes.{marked, AreRangeRows, IsKept, AreKept, AreModes}
use Rattle.mode_project.specs.OneBasis.{AreAlike}
use Rattle.mode_project.specs.Projection.{projection, IsInRange, IsReducedFormOf}

pub alike-sym : (s t : AtomSpace) → AreAlike s t → AreAlike t s
alike-sym s t a =
    let order : t.group.order ≡ s.group.order = ap (λ g. g.order) (sym a.group) in
    let atoms : t.atoms ≡ s.atoms = sym a.atoms in
    let each : t.each ≡ s.each = sym a.each in
    record {
      group = sym a.group;
      atoms = atoms;
      each = each;
      images = λ q i lq li. sym (a.images q i (subst (λ (n : ℕ). q < n) order lq) (subst (λ (n : ℕ). i < n) atoms li));
      turns = λ q x y lq lx ly. sym (a.turns q x y (subst (λ (n : ℕ). q < n) order lq) (subst (λ (n : ℕ). x < n) each lx) (subst (λ (n : ℕ). y < n) each ly));
    }

module _ {K : Type 0} (f : FieldOn K) where
  -- one reduced form of a span
  pub form-unique : (d e : ℕ) (V W : (ℕ → K) → Type 0) → AreSame V W → (rs ss : List (ℕ × (ℕ → K))) → IsReducedFormOf f d V rs → IsReducedFormOf f e W ss → rs ≡ ss
  form-unique d e V W same rs ss r k =
      reduced-unique f rs ss r.form.reduced k.form.reduced
      (λ v h. (k.spans v).1 ((same v).0 ((r.spans v).0 h)))
      (λ v h. (r.spans v).1 ((same v).1 ((k.spans v).0 h)))

  next-unique : (ms : List (ℕ × (ℕ → K))) (c : ℕ × (ℕ → K)) (xs ys : List (ℕ × (ℕ → K))) → IsKept f ms c xs → IsKept f ms c ys → xs ≡ ys
  next-unique ms c xs ys h k =
      elim h [
        | inl a ↦ elim k [ inl b ↦ a.1 ∙ sym b.1 | inr b ↦ absurd (b.0 a.0) ]
        | inr a ↦ elim k [ inl b ↦ absurd (a.0 b.0) | inr b ↦ a.1 ∙ sym b.1 ]
      ]

  pub kept-unique : (ms cs kept others : List (ℕ × (ℕ → K))) → AreKept f ms cs kept → AreKept f ms cs others → kept ≡ others
  kept-unique ms [] kept others h k = h ∙ sym k
  kept-unique ms (c ∷ cs) kept others h k =
      let e : h.0 ≡ k.0 = next-unique ms c h.0 k.0 h.1 k.1 in
      kept-unique h.0 cs kept others h.2 (subst (λ xs. AreKept f xs cs others) (sym e) k.2)

  -- a matrix has the range, and leaves the vectors, of one with the same entries
  range-to : (d e : ℕ) (m n : ℕ → ℕ → K) (v : ℕ → K) → d ≡ e → AreEqualBelow d m n → IsInRange f d m v → IsInRange f e n v
  range-to d e m n v p a h =
      subst (λ (x : ℕ). IsInRange f x n v) p
      (h.0, (h.1.0, λ i l. h.1.1 i l ∙ total-same f d _ _ (λ k b. ap (λ x. f.times x (h.1.0 k)) (a i k l b))))

  left-to : (d e : ℕ) (m n : ℕ → ℕ → K) (v : ℕ → K) → d ≡ e → AreEqualBelow d m n
      → ((i : ℕ) → i < d → apply f d m v i ≡ v i) → (i : ℕ) → i < e → apply f e n v i ≡ v i
  left-to d e m n v p a h =
      subst (λ (x : ℕ). (i : ℕ) → i < x → apply f x n v i ≡ v i) p
      (λ i l. sym (total-same f d _ _ (λ k b. ap (λ x. f.times x (v k)) (a i k l b))) ∙ h i l)

  module _ (s t : AtomSpace) (a : AreAlike s t) where
    pub same-size : size_of s ≡ size_of t
    same-size = λ i. a.atoms i * a.each i

    same-order : s.group.order ≡ t.group.order
    same-order = ap (λ g. g.order) a.group

    pub same-matrices : (q : ℕ) → q < s.group.order → AreEqualBelow (size_of s) (matrix_of f s q) (matrix_of f t q)
    same-matrices q lq r k lr lk =
        let i = k / s.each in
        let x = r % s.each in
        let y = k % s.each in
        let image : s.image q i ≡ t.image q (k / t.each) = a.images q i lq (atom-below s.atoms s.each k lk) ∙ ap (λ c. t.image q (k / c)) a.each in
        let turn : s.turn q x y ≡ t.turn q (r % t.each) (k % t.each) =
        a.turns q x y lq (number-below s.atoms s.each r lr) (number-below s.atoms s.each k lk) ∙ ap (λ c. t.turn q (r % c) (k % c)) a.each in
        λ u. if nat_eq (r / a.each u) (image u) then of_whole f (turn u) else f.nought

    pub same-projections : (w : ℕ → K) → AreEqualBelow (size_of s) (projection f s w) (projection f t w)
    same-projections w r k lr lk =
        total-same f s.group.order _ _ (λ q lq. ap (f.times (w q)) (same-matrices q lq r k lr lk))
        ∙ ap (λ n. total f n (λ q. f.times (w q) (matrix_of f t q r k))) same-order

    alike-range : (w v : ℕ → K) → IsInRange f (size_of s) (projection f s w) v → IsInRange f (size_of t) (projection f t w) v
    alike-range w v = range-to (size_of s) (size_of t) (projection f s w) (projection f t w) v same-size (same-projections w)

    alike-fixed : (h : List ℕ) (v : ℕ → K) → All (λ q. q < s.group.order) h → IsFixedByAll (IsLeftBy f s) h v → IsFixedByAll (IsLeftBy f t) h v
    alike-fixed [] v b k = tt
    alike-fixed (q ∷ h) v b k = (
      left-to (size_of s) (size_of t) (matrix_of f s q) (matrix_of f t q) v same-size (same-matrices q (All-head (λ p. p < s.group.order) q h b)) k.0,
      alike-fixed h v (All-tail (λ p. p < s.group.order) q h b) k.1,
    )

    alike-left : (w : ℕ → K) (h : List ℕ) (v : ℕ → K) → All (λ q. q < s.group.order) h → IsLeftInRange f s w h v → IsLeftInRange f t w h v
    alike-left w h v b k = (alike-range w v k.0, alike-fixed h v b k.1)

  module _ (s t : AtomSpace) (a : AreAlike s t) where
    same-range : (w : ℕ → K) → AreSame (IsInRange f (size_of s) (projection f s w)) (IsInRange f (size_of t) (projection f t w))
    same-range w v = (alike-range s t a w v, alike-range t s (alike-sym s t a) w v)

    pub rows-unique : (j : ℕ) (ws : List (ℕ → K)) (cs ds : List (ℕ × (ℕ → K))) → AreRangeRows f s j ws cs → AreRangeRows f t j ws ds → cs ≡ ds
    rows-unique j [] cs ds h k = h ∙ sym k
    rows-unique j (w ∷ ws) cs ds h k =
        let own : h.0 ≡ k.0 = form-unique (size_of s) (size_of t) _ _ (same-range w) h.0 k.0 h.1 k.1 in
        let rest : h.2.0 ≡ k.2.0 = rows-unique (suc j) ws h.2.0 k.2.0 h.2.1 k.2.1 in
        h.2.2 ∙ (λ u. marked j (own u) ++ rest u) ∙ sym k.2.2

    pub modes-unique : (ws : List (ℕ → K)) (ms ns : List (ℕ × (ℕ → K))) (sites columns : List ℕ) → AreModes f s ws ms sites → AreModes f t ws ns columns → (ms ≡ ns) × (sites ≡ columns)
    modes-unique ws ms ns sites columns h k =
        let cs = h.irreps.0 in
        let ds = k.irreps.0 in
        let rows : cs ≡ ds = rows-unique 0 ws cs ds h.irreps.1 k.irreps.1 in
        let modes : ms ≡ ns = kept-unique [] cs ms ns h.irreps.2 (subst (λ xs. AreKept f [] xs ns) (sym rows) k.irreps.2) in
        let span : AreSame (IsInSpan f (row_vectors ms)) (IsInSpan f (row_vectors ns)) = λ v. (subst (λ xs. IsInSpan f (row_vectors xs) v) modes, subst (λ xs. IsInSpan f (row_vectors xs) v) (sym modes)) in
        let form : h.free.0 ≡ k.free.0 = form-unique (size_of s) (size_of t) _ _ span h.free.0 k.free.0 h.free.1 k.free.1 in
        let size = same-size s t a in
        (modes, h.free.2 ∙ (λ u. free_columns (size u) (form u)) ∙ sym k.free.2)

    pub direction-unique : (w : ℕ → K) (h : List ℕ) (rs ts : List (ℕ × (ℕ → K))) → All (λ q. q < s.group.order) h → AreModesOf f s w h rs → AreModesOf f t w h ts → rs ≡ ts
    direction-unique w h rs ts b m n =
        let order : s.group.order ≡ t.group.order = ap (λ g. g.order) a.group in
        let c : All (λ q. q < t.group.order) h = subst (λ (n : ℕ). All (λ q. q < n) h) order b in
        let same : AreSame (IsLeftInRange f s w h) (IsLeftInRange f t w h) = λ v. (alike-left s t a w h v b, alike-left t s (alike-sym s t a) w h v c) in
        form-unique (size_of s) (size_of t) _ _ same rs ts m n
