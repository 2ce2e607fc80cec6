-- What complex vectors seen as real ones obey.
--
-- parts-re, parts-im, parts-past: the entries; parts-plus, parts-times, parts-same: linear, and read only n entries
-- lifted-at, lifted-past: a real vector as a complex one; lifted-parts, parts-lifted: there and back
-- apply-plus, apply-times, apply-same, apply-product, apply-unit: images of complex vectors
-- image-plus, image-times, image-nought, image-past, image-orbit, image-product, image-identity: images of real vectors
use Rattle.std.proofs.Common.{◌≡◌, ℕ, ◌+◌, ◌-◌, ◌<◌, ◌≤◌, ◌⊎◌, inl, inr, sym, ◌∙◌, ap, subst, arith, ltb, lt-ltb, le-ltb, if◌then◌else◌}
use Rattle.std.specs.Cmp.{nat_eq_equiv}
use Rattle.algebra.specs.NumberedGroup.{Group}
use Rattle.cyclo24.specs.FieldOn.{FieldOn}
use Rattle.cyclo24.specs.FieldLaws.{plus-swap, times-nought}
use Rattle.cyclo24.specs.Sums.{total}
use Rattle.algebra.specs.SumLaws.{below}
use Rattle.cyclo24.specs.TotalLaws.{total-same, total-plus, total-times, times-total, total-swap}
use Rattle.lin_alg.specs.Reduced.{IsWithin}
use Rattle.lin_alg.specs.Equations.{unit_vector}
use Rattle.lin_alg.specs.EquationLaws.{dot-unit}
use Rattle.lin_alg.specs.Matrices.{apply, mul, AreEqualBelow, unit_entry, IsRepresentation}
use Rattle.real_form.specs.Parts.{Parts, parts, lifted, orbit, real_image}

-- a place among 2n: a real part, an imaginary part, or past the end
pub place : (n j : ℕ) → (j < n) ⊎ (((i : ℕ) × (i < n) × (j ≡ n + i)) ⊎ (n + n ≤ j))
place n j =
    elim (below j n) [
      | inl l ↦ inl l
      | inr l ↦ elim (below j (n + n)) [
        | inl m ↦ let e : j ≡ n + (j - n) = omega arith in let k : j - n < n = omega arith in inr (inl (j - n, k, e))
        | inr m ↦ inr (inr m)
      ]
    ]

-- what holds at each place holds everywhere
by_place : (n : ℕ) (P : ℕ → Type 0) → ((j : ℕ) → j < n → P j) → ((i : ℕ) → i < n → P (n + i)) → ((j : ℕ) → n + n ≤ j → P j) → (j : ℕ) → P j
by_place n P first second past j =
    elim (place n j) [
      | inl l ↦ first j l
      | inr (inl k) ↦ subst P (sym k.2) (second k.0 k.1)
      | inr (inr m) ↦ past j m
    ]

module _ {Z K : Type 0} (p : Parts Z K) (n : ℕ) where
  pub parts-re : (w : ℕ → Z) (j : ℕ) → j < n → parts p n w j ≡ p.re (w j)
  unfolding parts
  parts-re w j l = ap (λ b. if b then p.re (w j) else (if ltb j (n + n) then p.im (w (j - n)) else p.real.nought)) (lt-ltb j n l)

  pub parts-im : (w : ℕ → Z) (i : ℕ) → i < n → parts p n w (n + i) ≡ p.im (w i)
  unfolding parts
  parts-im w i l =
      let a : n ≤ n + i = omega arith in
      let b : n + i < n + n = omega arith in
      let e : (n + i) - n ≡ i = omega arith in
      ap (λ t. if t then p.re (w (n + i)) else (if ltb (n + i) (n + n) then p.im (w ((n + i) - n)) else p.real.nought)) (le-ltb (n + i) n a)
      ∙ ap (λ t. if t then p.im (w ((n + i) - n)) else p.real.nought) (lt-ltb (n + i) (n + n) b)
      ∙ ap (λ k. p.im (w k)) e

  pub parts-past : (w : ℕ → Z) (j : ℕ) → n + n ≤ j → parts p n w j ≡ p.real.nought
  unfolding parts
  parts-past w j l =
      let a : n ≤ j = omega arith in
      ap (λ t. if t then p.re (w j) else (if ltb j (n + n) then p.im (w (j - n)) else p.real.nought)) (le-ltb j n a)
      ∙ ap (λ t. if t then p.im (w (j - n)) else p.real.nought) (le-ltb j (n + n) l)

  pub parts-same : (v w : ℕ → Z) → ((j : ℕ) → j < n → v j ≡ w j) → (j : ℕ) → parts p n v j ≡ parts p n w j
  parts-same v w e =
      by_place n (λ j. parts p n v j ≡ parts p n w j)
      (λ j l. parts-re v j l ∙ ap p.re (e j l) ∙ sym (parts-re w j l))
      (λ i l. parts-im v i l ∙ ap p.im (e i l) ∙ sym (parts-im w i l))
      (λ j l. parts-past v j l ∙ sym (parts-past w j l))

  pub parts-plus : (v w : ℕ → Z) (j : ℕ) → parts p n (λ k. p.complex.plus (v k) (w k)) j ≡ p.real.plus (parts p n v j) (parts p n w j)
  parts-plus v w =
      let s : ℕ → Z = λ k. p.complex.plus (v k) (w k) in
      by_place n (λ j. parts p n s j ≡ p.real.plus (parts p n v j) (parts p n w j))
      (λ j l. parts-re s j l ∙ p.re-plus (v j) (w j) ∙ sym (λ t. p.real.plus (parts-re v j l t) (parts-re w j l t)))
      (λ i l. parts-im s i l ∙ p.im-plus (v i) (w i) ∙ sym (λ t. p.real.plus (parts-im v i l t) (parts-im w i l t)))
      (λ j l. parts-past s j l ∙ sym (p.real.plus-nought p.real.nought) ∙ sym (λ t. p.real.plus (parts-past v j l t) (parts-past w j l t)))

  pub parts-times : (c : K) (w : ℕ → Z) (j : ℕ) → parts p n (λ k. p.complex.times (p.from c) (w k)) j ≡ p.real.times c (parts p n w j)
  parts-times c w =
      let s : ℕ → Z = λ k. p.complex.times (p.from c) (w k) in
      by_place n (λ j. parts p n s j ≡ p.real.times c (parts p n w j))
      (λ j l. parts-re s j l ∙ p.re-times c (w j) ∙ sym (ap (p.real.times c) (parts-re w j l)))
      (λ i l. parts-im s i l ∙ p.im-times c (w i) ∙ sym (ap (p.real.times c) (parts-im w i l)))
      (λ j l. parts-past s j l ∙ sym (times-nought p.real c) ∙ sym (ap (p.real.times c) (parts-past w j l)))

  -- a + i b
  abbrev number : K → K → Z
  number a b = p.complex.plus (p.from a) (p.complex.times p.imaginary (p.from b))

  pub lifted-at : (v : ℕ → K) (j : ℕ) → j < n → lifted p n v j ≡ p.complex.plus (p.from (v j)) (p.complex.times p.imaginary (p.from (v (n + j))))
  unfolding lifted
  lifted-at v j l = ap (λ b. if b then number (v j) (v (n + j)) else p.complex.nought) (lt-ltb j n l)

  pub lifted-past : (v : ℕ → K) (j : ℕ) → n ≤ j → lifted p n v j ≡ p.complex.nought
  unfolding lifted
  lifted-past v j l = ap (λ b. if b then number (v j) (v (n + j)) else p.complex.nought) (le-ltb j n l)

  -- a complex vector, seen as a real one and back
  pub lifted-parts : (w : ℕ → Z) (i : ℕ) → i < n → lifted p n (parts p n w) i ≡ w i
  lifted-parts w i l = lifted-at (parts p n w) i l ∙ (λ t. number (parts-re w i l t) (parts-im w i l t)) ∙ sym (p.whole (w i))

  pub parts-lifted : (v : ℕ → K) → IsWithin p.real (n + n) v → (j : ℕ) → parts p n (lifted p n v) j ≡ v j
  parts-lifted v h =
      by_place n (λ j. parts p n (lifted p n v) j ≡ v j)
      (λ j l. parts-re (lifted p n v) j l ∙ ap p.re (lifted-at v j l) ∙ p.re-parts (v j) (v (n + j)))
      (λ i l. parts-im (lifted p n v) i l ∙ ap p.im (lifted-at v i l) ∙ p.im-parts (v i) (v (n + i)))
      (λ j l. parts-past (lifted p n v) j l ∙ sym (h j l))

  pub lifted-plus : (v w : ℕ → K) (j : ℕ) → j < n → lifted p n (λ k. p.real.plus (v k) (w k)) j ≡ p.complex.plus (lifted p n v j) (lifted p n w j)
  lifted-plus v w j l =
      lifted-at (λ k. p.real.plus (v k) (w k)) j l
      ∙ (λ t. p.complex.plus (p.from-plus (v j) (w j) t) ((ap (p.complex.times p.imaginary) (p.from-plus (v (n + j)) (w (n + j))) ∙ p.complex.times-plus p.imaginary (p.from (v (n + j))) (p.from (w (n + j)))) t))
      ∙ plus-swap p.complex (p.from (v j)) (p.from (w j)) (p.complex.times p.imaginary (p.from (v (n + j)))) (p.complex.times p.imaginary (p.from (w (n + j))))
      ∙ sym (λ t. p.complex.plus (lifted-at v j l t) (lifted-at w j l t))

  pub lifted-times : (c : K) (v : ℕ → K) (j : ℕ) → j < n → lifted p n (λ k. p.real.times c (v k)) j ≡ p.complex.times (p.from c) (lifted p n v j)
  lifted-times c v j l =
      lifted-at (λ k. p.real.times c (v k)) j l
      ∙ (λ t. p.complex.plus (p.from-times c (v j) t) ((ap (p.complex.times p.imaginary) (p.from-times c (v (n + j))) ∙ turn (p.from c) (p.from (v (n + j)))) t))
      ∙ sym (p.complex.times-plus (p.from c) (p.from (v j)) (p.complex.times p.imaginary (p.from (v (n + j)))))
      ∙ sym (ap (p.complex.times (p.from c)) (lifted-at v j l))
    where
      turn : (x y : Z) → p.complex.times p.imaginary (p.complex.times x y) ≡ p.complex.times x (p.complex.times p.imaginary y)
      turn x y = sym (p.complex.times_assoc p.imaginary x y) ∙ ap (λ z. p.complex.times z y) (p.complex.times_comm p.imaginary x) ∙ p.complex.times_assoc x p.imaginary y

module _ {Z : Type 0} (f : FieldOn Z) (n : ℕ) where
  pub apply-plus : (a : ℕ → ℕ → Z) (v w : ℕ → Z) (i : ℕ) → apply f n a (λ k. f.plus (v k) (w k)) i ≡ f.plus (apply f n a v i) (apply f n a w i)
  apply-plus a v w i =
      total-same f n _ _ (λ k l. f.times-plus (a i k) (v k) (w k)) ∙ total-plus f n (λ k. f.times (a i k) (v k)) (λ k. f.times (a i k) (w k))

  pub apply-times : (a : ℕ → ℕ → Z) (c : Z) (v : ℕ → Z) (i : ℕ) → apply f n a (λ k. f.times c (v k)) i ≡ f.times c (apply f n a v i)
  apply-times a c v i =
      total-same f n _ _ (λ k l. sym (f.times_assoc (a i k) c (v k)) ∙ ap (λ z. f.times z (v k)) (f.times_comm (a i k) c) ∙ f.times_assoc c (a i k) (v k))
      ∙ total-times f n c (λ k. f.times (a i k) (v k))

  pub apply-same : (a : ℕ → ℕ → Z) (v w : ℕ → Z) → ((j : ℕ) → j < n → v j ≡ w j) → (i : ℕ) → apply f n a v i ≡ apply f n a w i
  apply-same a v w e i = total-same f n _ _ (λ k l. ap (f.times (a i k)) (e k l))

  pub apply-product : (a b c : ℕ → ℕ → Z) → AreEqualBelow n c (mul f n a b) → (v : ℕ → Z) (i : ℕ) → i < n → apply f n c v i ≡ apply f n a (apply f n b v) i
  apply-product a b c e v i li =
      let x : ℕ → ℕ → Z = λ k j. f.times (f.times (a i k) (b k j)) (v j) in
      total-same f n _ (λ j. total f n (λ k. x k j)) (λ j l. ap (λ y. f.times y (v j)) (e i j li l) ∙ sym (times-total f n (v j) (λ k. f.times (a i k) (b k j))))
      ∙ total-swap f n n (λ j k. x k j)
      ∙ total-same f n _ _ (λ k l. total-same f n _ _ (λ j m. f.times_assoc (a i k) (b k j) (v j)) ∙ total-times f n (a i k) (λ j. f.times (b k j) (v j)))

  pub apply-unit : (a : ℕ → ℕ → Z) → AreEqualBelow n a (unit_entry f) → (v : ℕ → Z) (i : ℕ) → i < n → apply f n a v i ≡ v i
  apply-unit a e v i l =
      total-same f n _ _ (λ j m. ap (λ x. f.times x (v j)) (e i j l m) ∙ f.times_comm (unit_entry f i j) (v j) ∙ ap (f.times (v j)) (turned i j))
      ∙ dot-unit f n v i l
    where
      turned : (i j : ℕ) → unit_entry f i j ≡ unit_vector f i j
      turned i j = ap (λ b. if b then f.unit else f.nought) (nat_eq_equiv.symm i j)

module _ {Z K : Type 0} (p : Parts Z K) (n : ℕ) (g : Group) (D : ℕ → ℕ → ℕ → Z) where
  pub image-plus : (q : ℕ) (v w : ℕ → K) (j : ℕ) → real_image p n D q (λ k. p.real.plus (v k) (w k)) j ≡ p.real.plus (real_image p n D q v j) (real_image p n D q w j)
  unfolding orbit
  image-plus q v w j =
      parts-same p n (apply p.complex n (D q) (lifted p n (λ k. p.real.plus (v k) (w k)))) (λ k. p.complex.plus (apply p.complex n (D q) (lifted p n v) k) (apply p.complex n (D q) (lifted p n w) k))
      (λ k l. apply-same p.complex n (D q) _ _ (λ i m. lifted-plus p n v w i m) k ∙ apply-plus p.complex n (D q) (lifted p n v) (lifted p n w) k) j
      ∙ parts-plus p n (apply p.complex n (D q) (lifted p n v)) (apply p.complex n (D q) (lifted p n w)) j

  pub image-times : (q : ℕ) (c : K) (v : ℕ → K) (j : ℕ) → real_image p n D q (λ k. p.real.times c (v k)) j ≡ p.real.times c (real_image p n D q v j)
  unfolding orbit
  image-times q c v j =
      parts-same p n (apply p.complex n (D q) (lifted p n (λ k. p.real.times c (v k)))) (λ k. p.complex.times (p.from c) (apply p.complex n (D q) (lifted p n v) k))
      (λ k l. apply-same p.complex n (D q) _ _ (λ i m. lifted-times p n c v i m) k ∙ apply-times p.complex n (D q) (p.from c) (lifted p n v) k) j
      ∙ parts-times p n c (apply p.complex n (D q) (lifted p n v)) j

  pub image-past : (q : ℕ) (v : ℕ → K) (j : ℕ) → n + n ≤ j → real_image p n D q v j ≡ p.real.nought
  unfolding orbit
  image-past q v j l = parts-past p n (apply p.complex n (D q) (lifted p n v)) j l

  pub orbit-past : (q : ℕ) (w : ℕ → Z) (j : ℕ) → n + n ≤ j → orbit p n D w q j ≡ p.real.nought
  unfolding orbit
  orbit-past q w j l = parts-past p n (apply p.complex n (D q) w) j l

  pub orbit-re : (w : ℕ → Z) (q j : ℕ) → j < n → orbit p n D w q j ≡ p.re (apply p.complex n (D q) w j)
  unfolding orbit
  orbit-re w q j l = parts-re p n (apply p.complex n (D q) w) j l

  pub orbit-im : (w : ℕ → Z) (q i : ℕ) → i < n → orbit p n D w q (n + i) ≡ p.im (apply p.complex n (D q) w i)
  unfolding orbit
  orbit-im w q i l = parts-im p n (apply p.complex n (D q) w) i l

  -- the image of D(b) w under D(a) is D(ab) w
  pub image-orbit : IsRepresentation p.complex g n D → (w : ℕ → Z) (a b : ℕ) → a < g.order → b < g.order → (j : ℕ) → real_image p n D a (orbit p n D w b) j ≡ orbit p n D w (g.product a b) j
  unfolding orbit
  image-orbit rep w a b la lb =
      let y : ℕ → Z = apply p.complex n (D b) w in
      parts-same p n (apply p.complex n (D a) (lifted p n (parts p n y))) (apply p.complex n (D (g.product a b)) w)
      (λ i l. apply-same p.complex n (D a) (lifted p n (parts p n y)) y (λ k m. lifted-parts p n y k m) i
      ∙ sym (apply-product p.complex n (D a) (D b) (D (g.product a b)) (rep a b la lb) w i l))

  pub image-product : IsRepresentation p.complex g n D → (a b : ℕ) → a < g.order → b < g.order → (v : ℕ → K) (j : ℕ) → real_image p n D (g.product a b) v j ≡ real_image p n D a (real_image p n D b v) j
  image-product rep a b la lb v j = sym (image-orbit rep (lifted p n v) a b la lb j)

  pub image-identity : AreEqualBelow n (D 0) (unit_entry p.complex) → (v : ℕ → K) → IsWithin p.real (n + n) v → (j : ℕ) → real_image p n D 0 v j ≡ v j
  unfolding orbit
  image-identity e v h j =
      parts-same p n (apply p.complex n (D 0) (lifted p n v)) (lifted p n v) (λ i l. apply-unit p.complex n (D 0) e (lifted p n v) i l) j ∙ parts-lifted p n v h j
