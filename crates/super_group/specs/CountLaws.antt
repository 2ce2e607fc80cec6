-- The number of lattice translations inside a supercell.
--
-- translations-count: centrings times cells
-- order-cells: the order of a quotient is rotations times centrings times cells
use Rattle.std.proofs.Common.{◌≡◌, refl, sym, ap, ◌∙◌, subst, ℕ, ◌<◌, ◌≤◌, ◌+◌, ◌*◌, ◌/◌, ◌%◌, ℤ, pos, negsuc, ◌+ℤ◌, ◌*ℤ◌, ◌≤ℤ◌, ◌<ℤ◌, unsigned_abs, List, length, arith}
use Rattle.std.proofs.Math.Nat.{mul_assoc}
use Rattle.std.proofs.lemmas.Int.{ints}
use Rattle.std.proofs.lemmas.Nat.{div-add-mod', mul-add-lt, div_below, mod_below, same_from_place}
use Rattle.space_ops.specs.declared.lattice.Lattice.{Lattice}
use Rattle.space_ops.specs.Matrix.{Vector}
use Rattle.space_ops.specs.MatrixLaws.{same_vector}
use Rattle.space_ops.specs.Lattice.{centrings_of}
use Rattle.space_ops.specs.Words.{centring_at, IsLatticeVector}
use Rattle.space_ops.specs.LeastShift.{IsTwelfth}
use Rattle.algebra.specs.PigeonholeLaws.{pigeonhole}
use Rattle.super_group.specs.Supercell.{multiplier, IsInside}
use Rattle.super_group.specs.Quotient.{translation_at, AreTranslations, SupercellGroup, IsQuotient, order_of, order_in}
use Rattle.super_group.specs.TranslationLaws.{centrings-in_cell, lattice_vector, lattice_numbers-unique}
use Rattle.super_group.specs.PlaceLaws.{translations-apart}

place_below : (a b m n : ℕ) → a < m → b < n → a * n + b < m * n
place_below a b m n l k = let h = mul-add-lt a n b m l k in omega (arith, h)

-- centring twelfths and so many whole edges, between 0 and d edges
inside_edge : (c : ℤ) (a d : ℕ) → IsTwelfth c → a < d → (pos 0 ≤ℤ (c +ℤ (pos 12 *ℤ pos a))) × ((c +ℤ (pos 12 *ℤ pos a)) <ℤ pos (12 * d))
inside_edge c a d h l = (omega (arith, ints, h.0, h.1, l), omega (arith, ints, h.0, h.1, l))

edges_whole : (c u : ℤ) → IsTwelfth c → pos 0 ≤ℤ (c +ℤ (pos 12 *ℤ u)) → u ≡ pos (unsigned_abs u)
edges_whole c (pos a) h l = refl
edges_whole c (negsuc a) h l = absurd (omega (arith, ints, h.0, h.1, l))

edges_few : (c : ℤ) (a d : ℕ) → IsTwelfth c → (c +ℤ (pos 12 *ℤ pos a)) <ℤ pos (12 * d) → a < d
edges_few c a d h l = omega (arith, ints, h.0, h.1, l)

-- the number of centring i and cell x, y, z of d0, d1 and d2 cells
abbrev number : ℕ → ℕ → ℕ → ℕ → ℕ → ℕ → ℕ → ℕ
number d0 d1 d2 i x y z = ((i * d0 + x) * d1 + y) * d2 + z

number-below : (c d0 d1 d2 i x y z : ℕ) → i < c → x < d0 → y < d1 → z < d2 → number d0 d1 d2 i x y z < c * d0 * d1 * d2
number-below c d0 d1 d2 i x y z l m n o =
    place_below ((i * d0 + x) * d1 + y) z (c * d0 * d1) d2 (place_below (i * d0 + x) y (c * d0) d1 (place_below i x c d0 l m) n) o

number-same : (d0 d1 d2 i x y z i' x' y' z' : ℕ) → x < d0 → y < d1 → z < d2 → x' < d0 → y' < d1 → z' < d2
    → number d0 d1 d2 i x y z ≡ number d0 d1 d2 i' x' y' z' → (i ≡ i') × (x ≡ x') × (y ≡ y') × (z ≡ z')
number-same d0 d1 d2 i x y z i' x' y' z' l m n l' m' n' e =
    let f = same_from_place ((i * d0 + x) * d1 + y) z ((i' * d0 + x') * d1 + y') z' d2 n n' e in
    let g = same_from_place (i * d0 + x) y (i' * d0 + x') y' d1 m m' f.0 in
    let h = same_from_place i x i' x' d0 l l' g.0 in (h.0, h.1, g.1, f.1)

number-digits : (d0 d1 d2 n : ℕ) → number d0 d1 d2 (n / d2 / d1 / d0) (n / d2 / d1 % d0) (n / d2 % d1) (n % d2) ≡ n
number-digits d0 d1 d2 n =
    ap (λ q. (q * d1 + n / d2 % d1) * d2 + n % d2) (div-add-mod' (n / d2 / d1) d0) ∙ ap (λ q. q * d2 + n % d2) (div-add-mod' (n / d2) d1) ∙ div-add-mod' n d2

-- whole numbers of cell edges
abbrev edges : ℕ → ℕ → ℕ → Vector ℤ
edges x y z = record { x = pos x; y = pos y; z = pos z }

same_bounds : {a b : ℕ} → a ≤ b → b ≤ a → a ≡ b
same_bounds l m = omega arith

regroup : (a b c d : ℕ) → a * b * c * d ≡ a * (b * c * d)
regroup a b c d = omega arith

pos-same : (a b : ℕ) → pos a ≡ pos b → a ≡ b
pos-same a b e = ap unsigned_abs e

module _ (lattice : Lattice) (d : List ℕ) (ts : List (List ℤ)) (positive : (i : ℕ) → i < 3 → 0 < multiplier d i) (h : AreTranslations lattice d ts) where
  abbrev c : ℕ
  c = length (centrings_of lattice)

  abbrev d0 : ℕ
  d0 = multiplier d 0

  abbrev d1 : ℕ
  d1 = multiplier d 1

  abbrev d2 : ℕ
  d2 = multiplier d 2

  p0 : 0 < d0
  p0 = positive 0 (omega arith)

  p1 : 0 < d1
  p1 = positive 1 (omega arith)

  p2 : 0 < d2
  p2 = positive 2 (omega arith)

  vector-lattice : (i : ℕ) (u : Vector ℤ) → i < c → IsLatticeVector lattice (lattice_vector lattice i u)
  vector-lattice i u l = record { centring = i; listed = l; edges = u; is = refl }

  vector-inside : (i x y z : ℕ) → i < c → x < d0 → y < d1 → z < d2 → IsInside d (lattice_vector lattice i (edges x y z))
  vector-inside i x y z l m n o =
      let t = centring_at lattice i in
      let s = centrings-in_cell lattice i l in
      (inside_edge t.x x d0 s.0 m, inside_edge t.y y d1 s.1 n, inside_edge t.z z d2 s.2 o)

  -- the place of the translation with these numbers
  record Place (i x y z : ℕ) : Type 0 where
    place : ℕ
    below : place < length ts
    is : translation_at ts place ≡ lattice_vector lattice i (edges x y z)

  place_of : (i x y z : ℕ) → i < c → x < d0 → y < d1 → z < d2 → Place i x y z
  place_of i x y z l m n o =
      let v = lattice_vector lattice i (edges x y z) in
      let w = h.every v (vector-lattice i (edges x y z) l) (vector-inside i x y z l m n o) in
      record { place = w.0; below = w.1; is = w.2 }

  place-same : (i x y z i' x' y' z' : ℕ) → i < c → i' < c → (p : Place i x y z) (q : Place i' x' y' z') → p.place ≡ q.place → (i ≡ i') × (x ≡ x') × (y ≡ y') × (z ≡ z')
  place-same i x y z i' x' y' z' l m p q e =
      let f = lattice_numbers-unique lattice i i' (edges x y z) (edges x' y' z') l m (sym p.is ∙ ap (translation_at ts) e ∙ q.is) in (
        f.0,
        pos-same x x' (ap (λ (v : Vector ℤ). v.x) f.1),
        pos-same y y' (ap (λ (v : Vector ℤ). v.y) f.1),
        pos-same z z' (ap (λ (v : Vector ℤ). v.z) f.1),
      )

  -- the place of a number
  centring-below : (n : ℕ) → n < c * d0 * d1 * d2 → n / d2 / d1 / d0 < c
  centring-below n l = div_below (n / d2 / d1) d0 c p0 (div_below (n / d2) d1 (c * d0) p1 (div_below n d2 (c * d0 * d1) p2 l))

  place_at : (n : ℕ) → n < c * d0 * d1 * d2 → Place (n / d2 / d1 / d0) (n / d2 / d1 % d0) (n / d2 % d1) (n % d2)
  place_at n l =
      place_of (n / d2 / d1 / d0) (n / d2 / d1 % d0) (n / d2 % d1) (n % d2) (centring-below n l) (mod_below (n / d2 / d1) d0 p0) (mod_below (n / d2) d1 p1)
      (mod_below n d2 p2)

  many : c * d0 * d1 * d2 ≤ length ts
  many =
      pigeonhole (c * d0 * d1 * d2) (length ts) (λ n l. (place_at n l).place) (λ n l. (place_at n l).below)
      (λ m n l k e.
      let f =
      place-same (m / d2 / d1 / d0) (m / d2 / d1 % d0) (m / d2 % d1) (m % d2) (n / d2 / d1 / d0) (n / d2 / d1 % d0) (n / d2 % d1) (n % d2) (centring-below m l)
      (centring-below n k) (place_at m l) (place_at n k) e in
      sym (number-digits d0 d1 d2 m) ∙ (λ t. number d0 d1 d2 (f.0 t) (f.1 t) (f.2 t) (f.3 t)) ∙ number-digits d0 d1 d2 n)

  -- the numbers of the translation at a place
  record Numbers (t : ℕ) : Type 0 where
    centring : ℕ
    listed : centring < c
    x : ℕ
    y : ℕ
    z : ℕ
    x_below : x < d0
    y_below : y < d1
    z_below : z < d2
    is : translation_at ts t ≡ lattice_vector lattice centring (edges x y z)

  numbers_of : (t : ℕ) → t < length ts → Numbers t
  numbers_of t l =
      let v = h.in_lattice t l in
      let b = centring_at lattice v.centring in
      let s = centrings-in_cell lattice v.centring v.listed in
      let m = subst (IsInside d) v.is (h.inside t l) in
      let ex = edges_whole b.x v.edges.x s.0 m.0.0 in
      let ey = edges_whole b.y v.edges.y s.1 m.1.0 in
      let ez = edges_whole b.z v.edges.z s.2 m.2.0 in
      let x = unsigned_abs v.edges.x in
      let y = unsigned_abs v.edges.y in
      let z = unsigned_abs v.edges.z in
      let e : v.edges ≡ edges x y z = same_vector v.edges (edges x y z) ex ey ez in
      let n = subst (λ (u : Vector ℤ). IsInside d (lattice_vector lattice v.centring u)) e m in
      record {
        centring = v.centring;
        listed = v.listed;
        x = x;
        y = y;
        z = z;
        x_below = edges_few b.x x d0 s.0 n.0.1;
        y_below = edges_few b.y y d1 s.1 n.1.1;
        z_below = edges_few b.z z d2 s.2 n.2.1;
        is = v.is ∙ ap (lattice_vector lattice v.centring) e;
      }

  few : length ts ≤ c * d0 * d1 * d2
  few =
      pigeonhole (length ts) (c * d0 * d1 * d2) (λ t l. let n = numbers_of t l in number d0 d1 d2 n.centring n.x n.y n.z)
      (λ t l. let n = numbers_of t l in number-below c d0 d1 d2 n.centring n.x n.y n.z n.listed n.x_below n.y_below n.z_below)
      (λ s t l k e.
      let m = numbers_of s l in
      let n = numbers_of t k in
      let f = number-same d0 d1 d2 m.centring m.x m.y m.z n.centring n.x n.y n.z m.x_below m.y_below m.z_below n.x_below n.y_below n.z_below e in
      translations-apart lattice d ts h s t l k (m.is ∙ (λ i. lattice_vector lattice (f.0 i) (edges (f.1 i) (f.2 i) (f.3 i))) ∙ sym n.is))

  -- centrings times cells
  pub translations-count : length ts ≡ length (centrings_of lattice) * (multiplier d 0 * multiplier d 1 * multiplier d 2)
  translations-count = same_bounds few many ∙ regroup c d0 d1 d2

-- the order of a quotient
pub order-cells : (s : SupercellGroup) → IsQuotient s → order_of s ≡ order_in s.parent s.d
order-cells s h =
    ap (λ n. length s.parent.ops * n) (translations-count s.parent.lattice s.d s.translations h.supercell.positive h.translations)
    ∙ sym (mul_assoc (length s.parent.ops) (length (centrings_of s.parent.lattice)) (multiplier s.d 0 * multiplier s.d 1 * multiplier s.d 2))
