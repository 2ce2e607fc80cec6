-- The places of an orbit, from those under the listed operations and the translations.
use Rattle.std.proofs.Common.{◌≡◌, sym, ap, ◌∙◌, subst, ℕ, ◌<◌, ◌≤◌, ◌+◌, ◌*◌, ◌/◌, ◌%◌, ℤ, pos, ◌≤ℤ◌, ◌<ℤ◌, List, [], length, get_or, arith}
use Rattle.std.proofs.lemmas.Int.{ints}
use Rattle.std.proofs.lemmas.List.{get_or_default}
use Rattle.std.proofs.lemmas.List.Elements.{All-weaker, Contains-get_or}
use Rattle.std.proofs.lemmas.Nat.{div-mul-add, mod-mul-add}
use Rattle.std.specs.List.{All, Contains}
use Rattle.space_ops.specs.declared.op.Op.{Op}
use Rattle.algebra.specs.Whole.{whole}
use Rattle.space_ops.specs.Matrix.{Vector, vector_sum}
use Rattle.space_ops.specs.Op.{vector_of, shift_of, seitz_of, identity_op, IsWithin, IsShiftWithin}
use Rattle.space_ops.specs.Group.{Parent}
use Rattle.space_ops.specs.Words.{op_at}
use Rattle.space_ops.specs.WithinLaws.{shift_more}
use Rattle.super_group.specs.Supercell.{multiplier}
use Rattle.super_group.specs.Quotient.{SupercellGroup, IsQuotient, order_of}
use Rattle.super_group.specs.QuotientLaws.{row_below, places-below, number-below}
use Rattle.super_group.specs.ElementLaws.{number-operation}
use Rattle.wyckoff.specs.Places.{in_units, moved, reduced_place, place_at, image_in, IsInSupercell}
use Rattle.wyckoff.specs.PlaceLaws.{image-inside, image-turned, image-shifted, image-factors}
use Rattle.wyckoff.specs.Orbit.{ArePlacesOf}
use Rattle.wyckoff.specs.OrbitLaws.{places-inside, places-closed}
use Rattle.wyckoff.specs.OrbitParts.{turned_at, shifted_at, IsTurned, IsShifted, IsFilled, IsRowAdded, AreShaped, AreDistinct, AreNear, AreClosedPlaces}
use Rattle.wyckoff.proofs.TableLemmas.{filled-at}

-- a place that is listed, by its number
number_of_place : (list : List (List ℤ)) (v : List ℤ) → Contains list v → (k : ℕ) × (k < length list) × (get_or list k [] ≡ v)
number_of_place list v (k, l, e) = (k, l, get_or_default list k [] v l ∙ e)

place_listed : (list : List (List ℤ)) (v : List ℤ) (k : ℕ) → k < length list → get_or list k [] ≡ v → Contains list v
place_listed list v k l e = (k, l, get_or_default list k v [] l ∙ e)

within_length : (m : ℕ) (c : ℤ) → m ≤ 12 → (pos 0 ≤ℤ c) × (c <ℤ pos (12000000 * m)) → IsWithin 144000000 c
within_length m c few h = (omega (arith, ints, h.0), omega (arith, ints, h.1, few))

module _ (s : SupercellGroup) (h : IsQuotient s) where
  inside_near : (x : Vector ℤ) → IsInSupercell s.d x → IsShiftWithin 144000000 (shift_of x)
  inside_near x i = (
    within_length (multiplier s.d 0) x.x (h.supercell.few 0 (omega arith)) i.0,
    within_length (multiplier s.d 1) x.y (h.supercell.few 1 (omega arith)) i.1,
    within_length (multiplier s.d 2) x.z (h.supercell.few 2 (omega arith)) i.2,
  )

  pub places-near : (x : Vector ℤ) (places : List (List ℤ)) → ArePlacesOf s x places → All (IsShiftWithin 144000000) places
  places-near x places a i e l =
      subst (IsShiftWithin 144000000) (get_or_default places i [] e l)
      (inside_near (place_at places i) (places-inside s h x places a i l))

  pub near-more : (places : List (List ℤ)) → All (IsShiftWithin 144000000) places → AreNear places
  near-more places = All-weaker (IsShiftWithin 144000000) (IsShiftWithin 1200000000) (λ v n. shift_more 144000000 1200000000 v (omega arith) n) places

  operation_below : (r : ℕ) → r < length s.parent.ops → r * length s.translations < order_of s
  operation_below r l = subst (λ n. n < order_of s) (number-operation s h r l) (number-below s h (op_at s.parent.ops r) (h.parent.list.are_words r l))

  translation_below : (t : ℕ) → t < length s.translations → t < order_of s
  translation_below t l =
      let m = row_below (length s.parent.ops) (length s.translations) 0 t h.parent.list.some l in
      let e : 0 * length s.translations + t ≡ t = omega arith in
      subst (λ k. k < order_of s) e m

  pub places-closed_under : (x : Vector ℤ) (places : List (List ℤ)) → ArePlacesOf s x places → AreClosedPlaces s places
  places-closed_under x places a = record {
    rising = a.rising;
    shaped = a.shaped;
    turned = λ r i l m.
        let k = places-closed s h x places a (r * length s.translations) i (operation_below r l) m in
        place_listed places (shift_of (turned_at s r (place_at places i))) k.0 k.1 (a.shaped k.0 k.1 ∙ ap shift_of (k.2 ∙ image-turned s h r l (place_at places i)));
    shifted = λ t i l m.
        let k = places-closed s h x places a t i (translation_below t l) m in
        place_listed places (shift_of (shifted_at s t (place_at places i))) k.0 k.1 (a.shaped k.0 k.1 ∙ ap shift_of (k.2 ∙ image-shifted s h t l (place_at places i)));
  }

  module _ (x : Vector ℤ) (turned distinct : List (List ℤ)) (a : IsRowAdded (length s.parent.ops) (IsTurned s x) [] [] turned) (b : AreDistinct turned distinct) where
    turned_place : (r : ℕ) → r < length s.parent.ops → get_or turned r [] ≡ shift_of (turned_at s r x)
    turned_place r l = ap (λ (v : List (List ℤ)). get_or v r []) a.is ∙ a.each r l

    turned_count : length turned ≡ length s.parent.ops
    turned_count = ap length a.is ∙ a.count

    turned_below : (k : ℕ) → k < length turned → k < length s.parent.ops
    turned_below k l = subst (λ n. k < n) turned_count l

    -- each place under a listed operation, and only those
    distinct_is : (i : ℕ) → i < length distinct → (r : ℕ) × (r < length s.parent.ops) × (get_or distinct i [] ≡ shift_of (turned_at s r x))
    distinct_is i l =
        let k = number_of_place turned (get_or distinct i []) (b.only (get_or distinct i []) (Contains-get_or distinct i [] l)) in
        (k.0, turned_below k.0 k.1, sym k.2 ∙ turned_place k.0 (turned_below k.0 k.1))

    has_turned : (r : ℕ) → r < length s.parent.ops → (i : ℕ) × (i < length distinct) × (get_or distinct i [] ≡ shift_of (turned_at s r x))
    has_turned r l =
        let v = shift_of (turned_at s r x) in
        number_of_place distinct v (b.kept v (place_listed turned v r (subst (λ n. r < n) (sym turned_count) l) (turned_place r l)))

    turned_near : (r : ℕ) → r < length s.parent.ops → IsShiftWithin 144000000 (shift_of (turned_at s r x))
    turned_near r l = inside_near (turned_at s r x) (subst (IsInSupercell s.d) (image-turned s h r l x) (image-inside s h (r * length s.translations) x))

    pub distinct-near : AreNear distinct
    distinct-near =
        near-more distinct
        (λ i e l.
        let k = distinct_is i l in
        subst (IsShiftWithin 144000000) (sym k.2 ∙ get_or_default distinct i [] e l) (turned_near k.0 k.1))

    -- the image under element r T + t
    image_of_both : (r t : ℕ) → r < length s.parent.ops → t < length s.translations → image_in s (r * length s.translations + t) x ≡ shifted_at s t (turned_at s r x)
    image_of_both r t l m =
        image-factors s h (r * length s.translations + t) (row_below (length s.parent.ops) (length s.translations) r t l m) x
        ∙ (λ i. shifted_at s (mod-mul-add r (length s.translations) t m i) (turned_at s (div-mul-add r (length s.translations) t m i) x))

    module _ (shifted places : List (List ℤ)) (c : IsFilled (length distinct) (length s.translations) (λ r. IsShifted s (place_at distinct r)) [] shifted) (e : AreDistinct shifted places) where
      shifted_shaped : AreShaped shifted
      shifted_shaped k l =
          let p = filled-at (length distinct) (length s.translations) (λ r. IsShifted s (place_at distinct r)) [] shifted c k l in
          p.4 ∙ sym (ap (λ v. shift_of (vector_of v)) p.4)

      place_is : (i : ℕ) → i < length places → (q : ℕ) × (q < order_of s) × (get_or places i [] ≡ shift_of (image_in s q x))
      place_is i l =
          let k = number_of_place shifted (get_or places i []) (e.only (get_or places i []) (Contains-get_or places i [] l)) in
          let p = filled-at (length distinct) (length s.translations) (λ r. IsShifted s (place_at distinct r)) [] shifted c k.0 k.1 in
          let r = distinct_is p.0 p.2 in (
            r.0 * length s.translations + p.1,
            row_below (length s.parent.ops) (length s.translations) r.0 p.1 r.1 p.3,
            sym k.2 ∙ p.4 ∙ ap (λ v. shift_of (shifted_at s p.1 (vector_of v))) r.2 ∙ ap shift_of (sym (image_of_both r.0 p.1 r.1 p.3)),
          )

      has_image : (q : ℕ) → q < order_of s → (i : ℕ) × (i < length places) × (get_or places i [] ≡ shift_of (image_in s q x))
      has_image q l =
          let m = places-below s h q l in
          let i = has_turned (q / length s.translations) m.0 in
          let k = i.0 * length s.translations + q % length s.translations in
          let v = shift_of (image_in s q x) in
          let f : get_or shifted k [] ≡ v =
          c.each i.0 (q % length s.translations) i.1 m.1 ∙ ap (λ u. shift_of (shifted_at s (q % length s.translations) (vector_of u))) i.2 ∙ ap shift_of (sym (image-factors s h q l x)) in
          let below : k < length shifted = subst (λ n. k < n) (sym c.size) (row_below (length distinct) (length s.translations) i.0 (q % length s.translations) i.1 m.1) in
          number_of_place places v (e.kept v (place_listed shifted v k below f))

      pub places-made : ArePlacesOf s x places
      places-made = record {
        rising = e.rising shifted_shaped;
        are_images = λ i l. let p = place_is i l in (p.0, p.1, ap vector_of p.2);
        every = λ q l. let p = has_image q l in (p.0, p.1, ap vector_of p.2);
        shaped = λ i l. let p = place_is i l in p.2 ∙ sym (ap (λ v. shift_of (vector_of v)) p.2);
      }

-- what the code's calls give
pub turned_is : (s : SupercellGroup) (r : ℕ) (p : Parent) (op : Op) (d : List ℕ) (x : Vector ℤ) (v : List ℤ) → p ≡ s.parent → op ≡ get_or p.ops r identity_op → d ≡ s.d
    → v ≡ shift_of (reduced_place d (moved (seitz_of op) x)) → IsTurned s x r v
turned_is s r p op d x v e f g k = k ∙ (λ t. shift_of (reduced_place (g t) (moved (seitz_of ((f ∙ ap (λ (q : Parent). get_or q.ops r identity_op) e) t)) x)))

pub shifted_is : (s : SupercellGroup) (t : ℕ) (ts : List (List ℤ)) (shift : List ℤ) (d : List ℕ) (x : Vector ℤ) (v : List ℤ) → ts ≡ s.translations → t < length ts
    → shift ≡ get_or ts t [] → d ≡ s.d → v ≡ shift_of (reduced_place d (vector_sum whole x (in_units (vector_of shift)))) → IsShifted s x t v
shifted_is s t ts shift d x v e l f g k =
    let i : shift ≡ get_or s.translations t [] = f ∙ ap (λ (us : List (List ℤ)). get_or us t []) e in
    k ∙ (λ j. shift_of (reduced_place (g j) (vector_sum whole x (in_units (vector_of (i j))))))

pub positive-at : (s : SupercellGroup) → IsQuotient s → (d : List ℕ) → d ≡ s.d → (i : ℕ) → i < 3 → 0 < multiplier d i
positive-at s h d e i l = subst (λ (c : List ℕ). 0 < multiplier c i) (sym e) (h.supercell.positive i l)

pub few-at : (s : SupercellGroup) → IsQuotient s → (d : List ℕ) → d ≡ s.d → (i : ℕ) → i < 3 → multiplier d i ≤ 12
few-at s h d e i l = subst (λ (c : List ℕ). multiplier c i ≤ 12) (sym e) (h.supercell.few i l)

below_edge : (m : ℕ) (c : ℤ) → m ≤ 12 → (pos 0 ≤ℤ c) × (c <ℤ pos (12 * m)) → IsWithin 144 c
below_edge m c few i = (omega (arith, ints, i.0), omega (arith, ints, i.1, few))

pub translation-within : (s : SupercellGroup) → IsQuotient s → (t : ℕ) (ts : List (List ℤ)) (shift : List ℤ) → ts ≡ s.translations → t < length ts → shift ≡ get_or ts t []
    → IsShiftWithin 144 shift
translation-within s h t ts shift e l f =
    let i : shift ≡ get_or s.translations t [] = f ∙ ap (λ (us : List (List ℤ)). get_or us t []) e in
    let m : t < length s.translations = subst (λ (us : List (List ℤ)). t < length us) e l in
    let v = h.translations.inside t m in
    let few = h.supercell.few in
    subst (IsShiftWithin 144) (sym i)
    (below_edge (multiplier s.d 0) _ (few 0 (omega arith)) v.0, below_edge (multiplier s.d 1) _ (few 1 (omega arith)) v.1, below_edge (multiplier s.d 2) _ (few 2 (omega arith)) v.2)

pub near-at : (places : List (List ℤ)) (i : ℕ) → AreNear places → i < length places → IsShiftWithin 1200000000 (get_or places i [])
near-at places i near l = near i [] l
