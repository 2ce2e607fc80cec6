-- Elements and numbers as the code forms them.
use Rattle.std.proofs.Common.{◌≡◌, sym, ap, ◌∙◌, subst, ℕ, ◌<◌, ◌≤◌, ◌+◌, ◌*◌, ◌/◌, ◌%◌, ℤ, List, [], length, get_or, arith}
use Rattle.std.proofs.lemmas.Int.{ints}
use Rattle.space_ops.specs.declared.op.Op.{Op}
use Rattle.algebra.specs.Whole.{whole}
use Rattle.space_ops.specs.Matrix.{Vector, matrix_times, vector_sum}
use Rattle.space_ops.specs.Op.{vector_of, shift_of, matrix_of, rows_of, seitz_of, op_of, identity_op, product_of, inverse_of, IsWithin, IsShiftWithin, IsSmallRotation, IsUnimodular}
use Rattle.space_ops.specs.Seitz.{Seitz, seitz_product, seitz_inverse}
use Rattle.space_ops.specs.OpLaws.{seitz_of-product_of, seitz_of-inverse_of}
use Rattle.space_ops.specs.Words.{op_at, vector_difference}
use Rattle.space_ops.specs.LeastShift.{IsTwelfth, IsInCell}
use Rattle.space_ops.specs.GroupLaws.{place_of}
use Rattle.super_group.specs.Supercell.{multiplier, IsSameElement, IsBelowEdge, IsInside, reduced}
use Rattle.super_group.specs.Quotient.{SupercellGroup, IsQuotient, IsMember, order_of, element_of, place_among, number_of}
use Rattle.super_group.specs.QuotientParts.{IsAmong}
use Rattle.super_group.specs.QuotientLaws.{element-parts, places-below, rest-among, element-number, element-inside, element-member, member-unimodular}

twelfth_within : (x : ℤ) → IsTwelfth x → IsWithin 144 x
twelfth_within x h = (omega (arith, ints, h.0, h.1), omega (arith, ints, h.0, h.1))

edge_within : (d : List ℕ) (i : ℕ) → multiplier d i ≤ 12 → (x : ℤ) → IsBelowEdge d i x → IsWithin 144 x
edge_within d i l x h = (omega (arith, ints, h.0, h.1), omega (arith, ints, h.0, h.1))

-- a listed operation's translation
pub cell_within : (shift : List ℤ) → IsInCell (vector_of shift) → IsShiftWithin 144 shift
cell_within shift h = (twelfth_within _ h.0, twelfth_within _ h.1, twelfth_within _ h.2)

-- a translation inside the supercell
pub inside_within : (d : List ℕ) → ((i : ℕ) → i < 3 → multiplier d i ≤ 12) → (v : Vector ℤ) → IsInside d v → IsShiftWithin 144 (shift_of v)
inside_within d few v h = (
  edge_within d 0 (few 0 (omega arith)) v.x h.0,
  edge_within d 1 (few 1 (omega arith)) v.y h.1,
  edge_within d 2 (few 2 (omega arith)) v.z h.2,
)

nearer : (x : ℤ) → IsWithin 144 x → IsWithin 1000000 x
nearer x h = (omega (arith, ints, h.0, h.1), omega (arith, ints, h.0, h.1))

near : (v : Vector ℤ) → IsShiftWithin 144 (shift_of v) → IsShiftWithin 1000000 (shift_of v)
near v h = (nearer v.x h.0, nearer v.y h.1, nearer v.z h.2)

module _ (s : SupercellGroup) (h : IsQuotient s) where
  pub listed_within : (r : ℕ) → r < length s.parent.ops → (op : Op) → op ≡ get_or s.parent.ops r identity_op → IsShiftWithin 144 op.shift
  listed_within r l op e = subst (λ (o : Op). IsShiftWithin 144 o.shift) (sym e) (cell_within (get_or s.parent.ops r identity_op).shift (h.parent.list.in_cell r l))

  pub translation_within : (t : ℕ) → t < length s.translations → (v : List ℤ) → v ≡ get_or s.translations t [] → IsShiftWithin 144 v
  translation_within t l v e =
      subst (IsShiftWithin 144) (sym (e ∙ h.translations.shaped t l)) (inside_within s.d h.supercell.few (vector_of (get_or s.translations t [])) (h.translations.inside t l))

  pub rotation_below : (q : ℕ) → q < order_of s → (n : ℕ) → n ≡ length s.translations → q / n < length s.parent.ops
  rotation_below q l n e = subst (λ m. q / m < length s.parent.ops) (sym e) (places-below s h q l).0

  pub translation_below : (q : ℕ) → q < order_of s → (n : ℕ) → n ≡ length s.translations → q % n < length s.translations
  translation_below q l n e = subst (λ m. q % m < length s.translations) (sym e) (places-below s h q l).1

  pub element_is : (q : ℕ) → q < order_of s → (n : ℕ) → n ≡ length s.translations → (op : Op) → op ≡ get_or s.parent.ops (q / n) identity_op
      → (v : List ℤ) → v ≡ get_or s.translations (q % n) [] → (shift : List ℤ) → shift ≡ shift_of (reduced s.d (vector_sum whole (vector_of op.shift) (vector_of v)))
      → (let o : Op = record { rot = op.rot; shift = shift } in o) ≡ op_of (element_of s q)
  element_is q l n e op f v g shift k =
      let r = q / length s.translations in
      let t = q % length s.translations in
      let f' : op ≡ get_or s.parent.ops r identity_op = f ∙ ap (λ m. get_or s.parent.ops (q / m) identity_op) e in
      let g' : v ≡ get_or s.translations t [] = g ∙ ap (λ m. get_or s.translations (q % m) []) e in
      let rot : op.rot ≡ rows_of (matrix_of (get_or s.parent.ops r identity_op).rot) =
      ap (λ (o : Op). o.rot) f' ∙ ap (λ (o : Op). o.rot) (h.parent.list.shaped r (places-below s h q l).0) in
      (λ i. record { rot = rot i; shift = (k ∙ (λ j. shift_of (reduced s.d (vector_sum whole (vector_of (f' j).shift) (vector_of (g' j)))))) i })
      ∙ ap op_of (sym (element-parts s h q))

  pub element_small : (q : ℕ) → q < order_of s → (op : Op) → op ≡ op_of (element_of s q) → IsSmallRotation op.rot
  element_small q l op e =
      subst (λ (o : Op). IsSmallRotation o.rot) (sym (e ∙ ap op_of (element-parts s h q))) (h.parent.small (q / length s.translations) (places-below s h q l).0)

  pub element_near : (q : ℕ) → (op : Op) → op ≡ op_of (element_of s q) → IsShiftWithin 1000000 op.shift
  element_near q op e = subst (λ (o : Op). IsShiftWithin 1000000 o.shift) (sym e) (near (element_of s q).shift (inside_within s.d h.supercell.few (element_of s q).shift (element-inside s h q)))

  pub element_unimodular : (q : ℕ) → q < order_of s → (op : Op) → op ≡ op_of (element_of s q) → IsUnimodular (matrix_of op.rot)
  element_unimodular q l op e =
      subst (λ (o : Op). IsUnimodular (matrix_of o.rot)) (sym e) (member-unimodular s h (element_of s q) (element-member s h q l))

  module _ (op : Op) (m : IsMember s (seitz_of op)) (r : ℕ) (e : r ≡ place_of s.parent.ops (matrix_of op.rot)) (listed : Op) (f : listed ≡ get_or s.parent.ops r identity_op)
      (rest : List ℤ) (k : rest ≡ shift_of (reduced s.d (vector_difference (vector_of op.shift) (vector_of listed.shift)))) where
    rest_is : vector_of rest ≡ reduced s.d (vector_difference (vector_of op.shift) (vector_of (get_or s.parent.ops (place_of s.parent.ops (matrix_of op.rot)) identity_op).shift))
    rest_is =
        ap vector_of k
        ∙ ap (λ (o : Op). reduced s.d (vector_difference (vector_of op.shift) (vector_of o.shift))) (f ∙ ap (λ n. get_or s.parent.ops n identity_op) e)

    pub rest_among : IsAmong s.translations (vector_of rest)
    rest_among = subst (IsAmong s.translations) (sym rest_is) (rest-among s h (seitz_of op) m)

    pub number_is : (n t : ℕ) → n ≡ length s.translations → t ≡ place_among s.translations (vector_of rest) → r * n + t ≡ number_of s (seitz_of op)
    unfolding number_of
    number_is n t c p = λ i. e i * c i + (p ∙ ap (place_among s.translations) rest_is) i

    pub number_same : (n t : ℕ) → n ≡ length s.translations → t ≡ place_among s.translations (vector_of rest) → IsSameElement s.d (element_of s (r * n + t)) (seitz_of op)
    number_same n t c p = subst (λ q. IsSameElement s.d (element_of s q) (seitz_of op)) (sym (number_is n t c p)) (element-number s h (seitz_of op) m)

-- the product and the inverse of elements, as the code forms them
pub composed_is : (g k : Seitz ℤ) (left right op : Op) → left ≡ op_of g → right ≡ op_of k → op ≡ product_of left right → seitz_of op ≡ seitz_product whole g k
composed_is g k left right op e f p = ap seitz_of p ∙ seitz_of-product_of left right ∙ (λ i. seitz_product whole (seitz_of (e i)) (seitz_of (f i)))

pub inverted_is : (g : Seitz ℤ) (element op : Op) → element ≡ op_of g → op ≡ inverse_of element → seitz_of op ≡ seitz_inverse whole g
inverted_is g element op e p = ap seitz_of p ∙ seitz_of-inverse_of element ∙ ap (λ (o : Op). seitz_inverse whole (seitz_of o)) e

-- the rotation of a product of elements
pub composed_rotation : (s : SupercellGroup) (a b : ℕ) (left right op : Op) → left ≡ op_of (element_of s a) → right ≡ op_of (element_of s b) → op ≡ product_of left right
    → matrix_of op.rot ≡ matrix_times whole (op_at s.parent.ops (a / length s.translations)).rot (op_at s.parent.ops (b / length s.translations)).rot
unfolding element_of
composed_rotation s a b left right op e f p = ap (λ (g : Seitz ℤ). g.rot) (composed_is (element_of s a) (element_of s b) left right op e f p)
