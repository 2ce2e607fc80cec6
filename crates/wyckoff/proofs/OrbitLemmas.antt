-- An orbit from its places and its tables.
use Rattle.std.proofs.Common.{◌≡◌, refl, sym, ap, ◌∙◌, subst, ℕ, ◌<◌, ◌+◌, ◌*◌, ◌/◌, ◌%◌, ℤ, List, length, arith}
use Rattle.std.proofs.lemmas.List.{get_or_default}
use Rattle.std.proofs.lemmas.Nat.{div_below, mod_below}
use Rattle.iso_text.specs.declared.sections.AtomText.{AtomText}
use Rattle.space_ops.specs.Op.{vector_of, shift_of}
use Rattle.super_group.specs.Quotient.{SupercellGroup, IsQuotient, order_of}
use Rattle.super_group.specs.QuotientLaws.{row_below, places-below, quotient-lawful}
use Rattle.wyckoff.specs.Places.{place_at, image_in}
use Rattle.wyckoff.specs.PlaceLaws.{image-factors}
use Rattle.wyckoff.specs.Orbit.{ArePlacesOf, OrbitView, entry_of, image_of, IsOrbitOf}
use Rattle.wyckoff.specs.OrbitParts.{turned_at, shifted_at, IsFilled, IsNumberOf}
use Rattle.wyckoff.specs.OrbitTables.{IsTable}
use Rattle.wyckoff.proofs.TableLemmas.{filled-at}

-- the entries of a table of numbers of atoms are below their count
pub table-filled : (rows : ℕ) (places : List (List ℤ)) (V : ℕ → ℕ → List ℤ) (table : List ℕ) → IsFilled rows (length places) (λ r i. IsNumberOf places (V r i)) 0 table
    → IsTable rows (length places) table
table-filled rows places V table f = record {
  size = f.size;
  below = λ k d l.
      let p = filled-at rows (length places) (λ r i. IsNumberOf places (V r i)) 0 table f k l in
      subst (λ n. n < length places) (get_or_default table k 0 d l) p.4.0;
}

-- the entry of a row and a column
pub entry-below : (rows atoms : ℕ) (table : List ℕ) → IsTable rows atoms table → (r i : ℕ) → r < rows → i < atoms
    → (r * atoms + i < length table) × (entry_of table atoms r i < atoms)
entry-below rows atoms table t r i l m =
    let b : r * atoms + i < length table = subst (λ n. r * atoms + i < n) (sym t.size) (row_below rows atoms r i l m) in
    (b, t.below (r * atoms + i) 0 b)

pub element-parts : (rows T q : ℕ) → 0 < T → q < rows * T → (q / T < rows) × (q % T < T)
element-parts rows T q some l = (div_below q T rows some l, mod_below q T some)

pub image-entry : (o : OrbitView) (q i : ℕ) → image_of o q i ≡ entry_of o.shifts (length o.places) (q % o.translations) (entry_of o.turns (length o.places) (q / o.translations) i)
unfolding image_of
image-entry o q i = refl

-- the entries that give the image of atom i under element q
module _ (rotations T n : ℕ) (turns shifts : List ℕ) (some : 0 < T) (a : IsTable rotations n turns) (b : IsTable T n shifts) (q i : ℕ) (l : q < rotations * T) (m : i < n) where
  pub turned-within : (k : ℕ) (u : List ℕ) → k ≡ n → u ≡ turns → q / T * k + i < length u
  turned-within k u e f =
      let c = entry-below rotations n turns a (q / T) i (element-parts rotations T q some l).0 m in
      subst (λ x. q / T * x + i < length u) (sym e) (subst (λ (v : List ℕ). q / T * n + i < length v) (sym f) c.0)

  pub turned-entry : (k : ℕ) (u : List ℕ) → k ≡ n → u ≡ turns → (j : ℕ) → j ≡ entry_of u k (q / T) i → (j ≡ entry_of turns n (q / T) i) × (j < n)
  turned-entry k u e f j g =
      let c = entry-below rotations n turns a (q / T) i (element-parts rotations T q some l).0 m in
      let same : j ≡ entry_of turns n (q / T) i = g ∙ (λ t. entry_of (f t) (e t) (q / T) i) in
      (same, subst (λ x. x < n) (sym same) c.1)

  pub shifted-within : (k : ℕ) (u : List ℕ) → k ≡ n → u ≡ shifts → (j : ℕ) → j < n → q % T * k + j < length u
  shifted-within k u e f j d =
      let c = entry-below T n shifts b (q % T) j (element-parts rotations T q some l).1 d in
      subst (λ x. q % T * x + j < length u) (sym e) (subst (λ (v : List ℕ). q % T * n + j < length v) (sym f) c.0)

  pub shifted-entry : (k : ℕ) (u : List ℕ) → k ≡ n → u ≡ shifts → (j r : ℕ) → (j ≡ entry_of turns n (q / T) i) × (j < n) → r ≡ entry_of u k (q % T) j
      → (r ≡ entry_of shifts n (q % T) (entry_of turns n (q / T) i)) × (r < n)
  shifted-entry k u e f j r d g =
      let c = entry-below T n shifts b (q % T) j (element-parts rotations T q some l).1 d.1 in
      let same : r ≡ entry_of shifts n (q % T) j = g ∙ (λ t. entry_of (f t) (e t) (q % T) j) in
      (same ∙ ap (entry_of shifts n (q % T)) d.0, subst (λ x. x < n) (sym same) c.1)

module _ (s : SupercellGroup) (h : IsQuotient s) (places : List (List ℤ)) (turns shifts : List ℕ)
    (a : IsFilled (length s.parent.ops) (length places) (λ r i. IsNumberOf places (shift_of (turned_at s r (place_at places i)))) 0 turns)
    (b : IsFilled (length s.translations) (length places) (λ t i. IsNumberOf places (shift_of (shifted_at s t (place_at places i)))) 0 shifts) where
  abbrev n : ℕ
  n = length places

  abbrev T : ℕ
  T = length s.translations

  image-number : (q i : ℕ) → q < order_of s → i < n → (entry_of shifts n (q % T) (entry_of turns n (q / T) i) < n)
      × (place_at places (entry_of shifts n (q % T) (entry_of turns n (q / T) i)) ≡ image_in s q (place_at places i))
  image-number q i l m =
      let p = places-below s h q l in
      let k = a.each (q / T) i p.0 m in
      let j = entry_of turns n (q / T) i in
      let u = b.each (q % T) j p.1 k.0 in
      (u.0, ap vector_of u.1 ∙ ap (λ v. shifted_at s (q % T) (vector_of v)) k.1 ∙ sym (image-factors s h q l (place_at places i)))

  -- the orbit with these tables
  pub orbit-made : (atom : AtomText) → ArePlacesOf s (vector_of atom.place) places → (o : OrbitView) → o.label ≡ atom.label → o.line ≡ atom.line → o.places ≡ places
      → o.order ≡ order_of s → o.translations ≡ T → o.turns ≡ turns → o.shifts ≡ shifts → IsOrbitOf s atom o
  unfolding image_of
  orbit-made atom w o label line e order f g k =
      let same : (q i : ℕ) → image_of o q i ≡ entry_of shifts n (q % T) (entry_of turns n (q / T) i) =
      λ q i. (λ t. entry_of (k t) (length (e t)) (q % f t) (entry_of (g t) (length (e t)) (q / f t) i)) in
      record {
        label = label;
        line = line;
        order = order;
        places = subst (ArePlacesOf s (vector_of atom.place)) (sym e) w;
        image_below = λ q i l m.
            let c = image-number q i (subst (λ c. q < c) order l) (subst (λ (v : List (List ℤ)). i < length v) e m) in
            subst (λ (v : List (List ℤ)). image_of o q i < length v) (sym e) (subst (λ c. c < n) (sym (same q i)) c.0);
        images = λ q i l m.
            let c = image-number q i (subst (λ c. q < c) order l) (subst (λ (v : List (List ℤ)). i < length v) e m) in
            (λ t. place_at (e t) (same q i t)) ∙ c.1 ∙ ap (λ v. image_in s q (place_at v i)) (sym e);
      }

-- the group has a translation
pub some-translation : (s : SupercellGroup) → IsQuotient s → 0 < length s.translations
some-translation s h = at (length s.translations) (places-below s h 0 (quotient-lawful s h).identity_below).1 where
  at : (T : ℕ) → 0 % T < T → 0 < T
  at T l = omega (arith, l)
