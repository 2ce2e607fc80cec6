-- Filling a table of products.
use Rattle.std.proofs.Common.{◌≡◌, sym, ap, ◌∙◌, subst, below_more, ℕ, ◌<◌, ◌+◌, ◌/◌, ℤ, List, [], length, get_or, set, arith}
use Rattle.std.proofs.lemmas.List.{get_or-set_same, get_or-set_other}
use Rattle.space_ops.specs.declared.op.Op.{Op}
use Rattle.algebra.specs.Whole.{whole}
use Rattle.space_ops.specs.Matrix.{matrix_times}
use Rattle.space_ops.specs.Op.{matrix_of, identity_op, product_of}
use Rattle.space_ops.specs.OpLaws.{seitz_of-product_of}
use Rattle.space_ops.specs.Seitz.{Seitz}
use Rattle.space_ops.specs.Words.{op_at}
use Rattle.space_ops.specs.Group.{Parent, IsParentGroup}
use Rattle.space_ops.specs.GroupLaws.{place_of, place_of-is, parent-product, rotation_group, rotation_group-lawful}
use Rattle.super_group.specs.Quotient.{SupercellGroup, IsQuotient, order_of}
use Rattle.super_group.specs.QuotientLaws.{places-below}
use Rattle.super_group.specs.RotationTable.{IsProductTable}

-- what holds of the first n entries, and of one that is put behind them
pub kept_more : {X : Type 0} (d : X) (P : ℕ → X → Type 0) (n : ℕ) (xs : List X) (y : X) → n < length xs → ((i : ℕ) → i < n → P i (get_or xs i d)) → P n y
    → (i : ℕ) → i < n + 1 → P i (get_or (set xs n y) i d)
kept_more d P n xs y l h k =
    below_more (λ i. P i (get_or (set xs n y) i d)) n
    (λ i m. subst (P i) (sym (get_or-set_other xs n i y d (λ e. let q : i ≡ n = e in absurd (omega (arith, m, q))))) (h i m))
    (subst (P n) (sym (get_or-set_same xs n y d l)) k)

-- the rotation of a product
composed : (ops : List Op) (a b : ℕ) (left right op : Op) → left ≡ get_or ops a identity_op → right ≡ get_or ops b identity_op → op ≡ product_of left right
    → matrix_of op.rot ≡ matrix_times whole (op_at ops a).rot (op_at ops b).rot
composed ops a b left right op e f g =
    ap (λ (o : Op). matrix_of o.rot) g ∙ ap (λ (x : Seitz ℤ). x.rot) (seitz_of-product_of left right) ∙ (λ j. matrix_times whole (matrix_of (e j).rot) (matrix_of (f j).rot))

module _ (p : Parent) (h : IsParentGroup p) (a b : ℕ) (left right op : Op) (e : left ≡ get_or p.ops a identity_op) (f : right ≡ get_or p.ops b identity_op) (g : op ≡ product_of left right) where
  -- it is listed
  pub product_listed : a < length p.ops → b < length p.ops → (i : ℕ) × (i < length p.ops) × ((op_at p.ops i).rot ≡ matrix_of op.rot)
  product_listed l m =
      let w = parent-product p h a b l m in
      (w.place, w.below, sym w.same.rotation ∙ sym (composed p.ops a b left right op e f g))

  -- and its place is the number of the product
  pub product_is : (i : ℕ) → i < length p.ops → (op_at p.ops i).rot ≡ matrix_of op.rot → i ≡ (rotation_group p.ops).product a b
  product_is i l k =
      let r = matrix_times whole (op_at p.ops a).rot (op_at p.ops b).rot in
      let c : matrix_of op.rot ≡ r = composed p.ops a b left right op e f g in
      let q = place_of-is p.ops r (i, l, sym (k ∙ c)) in
      h.list.apart i (place_of p.ops r) l q.0 (k ∙ c ∙ sym q.1)

-- the entry for two elements
pub table_entry : (s : SupercellGroup) → IsQuotient s → (table : List (List ℕ)) → IsProductTable s.parent.ops (length s.parent.ops) table → (a b : ℕ) → a < order_of s → b < order_of s
    → (n : ℕ) → n ≡ length s.translations → (x : ℕ) → x ≡ get_or (get_or table (a / n) []) (b / n) 0
    → (x ≡ (rotation_group s.parent.ops).product (a / length s.translations) (b / length s.translations)) × (x < length s.parent.ops)
table_entry s h table filled a b l m n e x f =
    let T = length s.translations in
    let i = (places-below s h a l).0 in
    let j = (places-below s h b m).0 in
    let k : x ≡ (rotation_group s.parent.ops).product (a / T) (b / T) = f ∙ (λ t. get_or (get_or table (a / e t) []) (b / e t) 0) ∙ filled (a / T) i (b / T) j in
    (k, subst (λ y. y < length s.parent.ops) (sym k) ((rotation_group-lawful s.parent h.parent).product_below (a / T) (b / T) i j))
