-- Vectors of which an image of one is a multiple of the other: the spans of their orbits have one dimension.
--
-- scaled p n c v: c times the complex vector of v, as a real one
-- image-few: the images of a form's rows under such a map have a form that is no longer
-- moved-fits: where D(t) w = c v, the orbit of w fits if that of v does
use Rattle.std.proofs.Common.{◌≡◌, ℕ, suc, ◌+◌, ◌<◌, ◌≤◌, inl, inr, refl, sym, ◌∙◌, ap, subst, arith, List, [], ◌∷◌, length}
use Rattle.algebra.specs.NumberedGroup.{Group, IsGroup}
use Rattle.algebra.specs.NumberedGroupLaws.{product-identity}
use Rattle.cyclo24.specs.FieldLaws.{times-nought, nought-times}
use Rattle.lin_alg.specs.EquationLaws.{within-subspace, dec}
use Rattle.lin_alg.specs.InsertLaws.{span-subspace, span-least, span-rows, rows-mono}
use Rattle.lin_alg.specs.LengthLaws.{span-form}
use Rattle.lin_alg.specs.Matrices.{apply, IsRepresentation}
use Rattle.lin_alg.specs.Reduced.{IsReduced, IsWithin, PivotsBelow}
use Rattle.lin_alg.specs.Solving.{plain_rows}
use Rattle.lin_alg.specs.SpanLaws.{funext, unit-not-nought}
use Rattle.lin_alg.specs.Spans.{row_vectors, IsInSpan, IsSubspace, HasRows}
use Rattle.real_form.specs.Parts.{Parts, parts, lifted, orbit}
use Rattle.real_form.specs.Orbits.{IsFormOf, Fits}
use Rattle.real_form.proofs.OrbitLaws.{plain-member, plain-each, fewer}
use Rattle.real_form.proofs.PartsLaws.{parts-same, parts-plus, parts-times, parts-past, lifted-parts, lifted-plus, lifted-times, apply-same, apply-times, apply-product}

module _ {Z K : Type 0} (p : Parts Z K) (n : ℕ) where
  abbrev pub scaled : Z → (ℕ → K) → ℕ → K
  scaled c v = parts p n (λ x. p.complex.times c (lifted p n v x))

  scaled-plus : (c : Z) (v w : ℕ → K) (j : ℕ) → scaled c (λ k. p.real.plus (v k) (w k)) j ≡ p.real.plus (scaled c v j) (scaled c w j)
  scaled-plus c v w j =
      parts-same p n _ (λ x. p.complex.plus (p.complex.times c (lifted p n v x)) (p.complex.times c (lifted p n w x)))
      (λ x l. ap (p.complex.times c) (lifted-plus p n v w x l) ∙ p.complex.times-plus c (lifted p n v x) (lifted p n w x)) j
      ∙ parts-plus p n (λ x. p.complex.times c (lifted p n v x)) (λ x. p.complex.times c (lifted p n w x)) j

  scaled-times : (c : Z) (k : K) (v : ℕ → K) (j : ℕ) → scaled c (λ i. p.real.times k (v i)) j ≡ p.real.times k (scaled c v j)
  scaled-times c k v j =
      parts-same p n _ (λ x. p.complex.times (p.from k) (p.complex.times c (lifted p n v x)))
      (λ x l. ap (p.complex.times c) (lifted-times p n k v x l) ∙ turn c (p.from k) (lifted p n v x)) j
      ∙ parts-times p n k (λ x. p.complex.times c (lifted p n v x)) j
    where
      turn : (a b d : Z) → p.complex.times a (p.complex.times b d) ≡ p.complex.times b (p.complex.times a d)
      turn a b d = sym (p.complex.times_assoc a b d) ∙ ap (λ z. p.complex.times z d) (p.complex.times_comm a b) ∙ p.complex.times_assoc b a d

  scaled-subspace : (c : Z) (P : (ℕ → K) → Type 0) → IsSubspace p.real P → IsSubspace p.real (λ v. P (scaled c v))
  scaled-subspace c P h = record {
    has_nought =
        let zero_row : ℕ → K = λ _. p.real.nought in
        let e : scaled c zero_row ≡ zero_row =
        funext (λ j. ap (λ v. scaled c v j) (funext (λ k. sym (times-nought p.real p.real.nought)))
        ∙ scaled-times c p.real.nought zero_row j ∙ nought-times p.real (scaled c zero_row j)) in
        subst P (sym e) h.has_nought;
    has_plus = λ v u a b. subst P (sym (funext (λ j. scaled-plus c v u j))) (h.has_plus (scaled c v) (scaled c u) a b);
    has_times = λ k v a. subst P (sym (funext (λ j. scaled-times c k v j))) (h.has_times k (scaled c v) a);
  }

  scaled-parts : (c : Z) (w : ℕ → Z) → scaled c (parts p n w) ≡ parts p n (λ x. p.complex.times c (w x))
  scaled-parts c w = funext (λ j. parts-same p n _ _ (λ x l. ap (p.complex.times c) (lifted-parts p n w x l)) j)

  abbrev images : Z → List (ℕ → K) → List (ℕ → K)
  images c [] = []
  images c (r ∷ rs) = scaled c r ∷ images c rs

  images-within : (c : Z) (rs : List (ℕ → K)) → HasRows (IsWithin p.real (n + n)) (images c rs)
  images-within c [] = tt
  images-within c (r ∷ rs) = (λ j l. parts-past p n (λ x. p.complex.times c (lifted p n r x)) j l, images-within c rs)

  images-length : (c : Z) (rs : List (ℕ × (ℕ → K))) → length (images c (row_vectors rs)) ≡ length rs
  images-length c [] = refl
  images-length c (r ∷ rs) = ap suc (images-length c rs)

  images-each : (c : Z) (P : (ℕ → K) → Type 0) (rs : List (ℕ → K)) → HasRows P (images c rs) → HasRows (λ v. P (scaled c v)) rs
  images-each c P [] h = tt
  images-each c P (r ∷ rs) h = (h.0, images-each c P rs h.1)

  -- rows that are images of those of a form's span have a form that is no longer
  image-few : (m : ℕ) (a b : ℕ → ℕ → K) (c : Z) (s : ℕ → ℕ) → ((q : ℕ) → q < m → (s q < m) × (b q ≡ scaled c (a (s q)))) → (rs ss : List (ℕ × (ℕ → K))) →
      IsFormOf p.real (n + n) m a rs → IsFormOf p.real (n + n) m b ss → length ss ≤ length rs
  image-few m a b c s at rs ss h k =
      let rows : List (ℕ → K) = images c (row_vectors rs) in
      let f = span-form p.real (n + n) rows (images-within c (row_vectors rs)) in
      let ts : List (ℕ × (ℕ → K)) = f.0 in
      let P : (ℕ → K) → Type 0 = IsInSpan p.real (row_vectors ts) in
      let sub : IsSubspace p.real P = span-subspace p.real (row_vectors ts) in
      let each : HasRows (λ v. P (scaled c v)) (row_vectors rs) =
      images-each c P (row_vectors rs) (rows-mono p.real (IsInSpan p.real rows) P (λ x t. (f.2 x).1 t) rows (span-rows p.real rows)) in
      let of_a : (v : ℕ → K) → IsInSpan p.real (plain_rows a m) v → P (scaled c v) =
      λ v t. span-least p.real (λ u. P (scaled c u)) (scaled-subspace c P sub) (row_vectors rs) each v ((h.span v).1 t) in
      let of_b : (v : ℕ → K) → IsInSpan p.real (plain_rows b m) v → P v =
      λ v t. span-least p.real P sub (plain_rows b m) (plain-each p.real b P m (λ q l. subst P (sym (at q l).1) (of_a (a (s q)) (plain-member p.real a m (s q) (at q l).0)))) v t in
      let less : length ss ≤ length ts = fewer p.real ss ts k.form.reduced f.1 (λ v t. of_b v ((k.span v).0 t)) in
      let few : length ts ≤ length rows = f.3 in
      let e : length rows ≡ length rs = images-length c rs in
      omega (arith, less, few, e)

  pivots-below : (rs : List (ℕ × (ℕ → K))) → IsReduced p.real rs → HasRows (IsWithin p.real (n + n)) (row_vectors rs) → PivotsBelow (n + n) rs
  pivots-below [] r a = tt
  pivots-below (x ∷ rs) r a =
      (elim (dec x.0 (n + n)) as (λ _. x.0 < n + n) [ inl l ↦ l | inr l ↦ absurd (unit-not-nought p.real (sym r.0.0 ∙ a.0 x.0 l)) ], pivots-below rs r.2 a.1)

  -- the span of rows has a form
  some-form : (m : ℕ) (a : ℕ → ℕ → K) → ((q : ℕ) → IsWithin p.real (n + n) (a q)) → (rs : List (ℕ × (ℕ → K))) × IsFormOf p.real (n + n) m a rs
  some-form m a inside =
      let each : HasRows (IsWithin p.real (n + n)) (plain_rows a m) = plain-each p.real a (IsWithin p.real (n + n)) m (λ q _. inside q) in
      let f = span-form p.real (n + n) (plain_rows a m) each in
      let rs : List (ℕ × (ℕ → K)) = f.0 in
      let within : HasRows (IsWithin p.real (n + n)) (row_vectors rs) =
      rows-mono p.real (IsInSpan p.real (row_vectors rs)) (IsWithin p.real (n + n)) (λ x k. span-least p.real (IsWithin p.real (n + n)) (within-subspace p.real (n + n)) (plain_rows a m) each x ((f.2 x).0 k)) (row_vectors rs) (span-rows p.real (row_vectors rs)) in
      (rs, record { form = record { reduced = f.1; pivots = pivots-below rs f.1 within; within = within }; span = f.2 })

  module _ (g : Group) (law : IsGroup g) (D : ℕ → ℕ → ℕ → Z) (rep : IsRepresentation p.complex g n D) (w v : ℕ → Z) (c d : Z) (t : ℕ) where
    -- D(u t) w = c D(u) v
    moved-image : t < g.order → ((x : ℕ) → x < n → apply p.complex n (D t) w x ≡ p.complex.times c (v x)) → (u : ℕ) → u < g.order →
        orbit p n D w (g.product u t) ≡ parts p n (λ x. p.complex.times c (apply p.complex n (D u) v x))
    unfolding orbit
    moved-image lt e u lu =
        funext (λ j. parts-same p n (apply p.complex n (D (g.product u t)) w) _
        (λ x l. apply-product p.complex n (D u) (D t) (D (g.product u t)) (rep u t lu lt) w x l
        ∙ apply-same p.complex n (D u) (apply p.complex n (D t) w) (λ y. p.complex.times c (v y)) e x
        ∙ apply-times p.complex n (D u) c v x) j)

    moved-orbit : t < g.order → ((x : ℕ) → x < n → apply p.complex n (D t) w x ≡ p.complex.times c (v x)) → (u : ℕ) → u < g.order →
        orbit p n D w (g.product u t) ≡ scaled c (orbit p n D v u)
    unfolding orbit
    moved-orbit lt e u lu = moved-image lt e u lu ∙ sym (scaled-parts c (apply p.complex n (D u) v))

    moved-back : t < g.order → ((x : ℕ) → x < n → apply p.complex n (D t) w x ≡ p.complex.times c (v x)) → p.complex.times d c ≡ p.complex.unit → (u : ℕ) → u < g.order →
        orbit p n D v u ≡ scaled d (orbit p n D w (g.product u t))
    unfolding orbit
    moved-back lt e one u lu =
        sym (ap (scaled d) (moved-image lt e u lu) ∙ scaled-parts d (λ x. p.complex.times c (apply p.complex n (D u) v x))
        ∙ funext (λ j. parts-same p n _ (apply p.complex n (D u) v)
        (λ x l. sym (p.complex.times_assoc d c (apply p.complex n (D u) v x)) ∙ ap (λ z. p.complex.times z (apply p.complex n (D u) v x)) one
        ∙ p.complex.times_comm p.complex.unit (apply p.complex n (D u) v x) ∙ p.complex.times-unit (apply p.complex n (D u) v x)) j))

    orbit-within : (x : ℕ → Z) (q : ℕ) → IsWithin p.real (n + n) (orbit p n D x q)
    unfolding orbit
    orbit-within x q j l = parts-past p n (apply p.complex n (D q) x) j l

    pub moved-fits : t < g.order → ((x : ℕ) → x < n → apply p.complex n (D t) w x ≡ p.complex.times c (v x)) → p.complex.times d c ≡ p.complex.unit → Fits p n g.order D v → Fits p n g.order D w
    moved-fits lt e one h =
        let m : ℕ = g.order in
        let r : ℕ = g.inverse t in
        let lr : r < m = law.inverse_below t lt in
        let f = some-form m (orbit p n D w) (λ q. orbit-within w q) in
        let whole : (q : ℕ) → q < m → g.product (g.product q r) t ≡ q =
        λ q l. law.product_assoc q r t l lr lt ∙ ap (g.product q) (law.inverse-product t lt) ∙ product-identity g law q l in
        let there : length f.0 ≤ length h.0 = image-few m (orbit p n D v) (orbit p n D w) c (λ q. g.product q r) (λ q l.
        let lq : g.product q r < m = law.product_below q r l lr in
        (lq, ap (orbit p n D w) (sym (whole q l)) ∙ moved-orbit lt e (g.product q r) lq)) h.0 f.0 h.1 f.1 in
        let back : length h.0 ≤ length f.0 = image-few m (orbit p n D w) (orbit p n D v) d (λ q. g.product q t) (λ q l. (law.product_below q t l lt, moved-back lt e one q l)) f.0 h.0 f.1 h.1 in
        let k : length h.0 ≡ n = h.2 in
        (f.0, f.1, omega (arith, there, back, k))
