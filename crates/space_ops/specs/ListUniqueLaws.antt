-- A group has one list.
--
-- list-unique: two lists of one group are equal
use Rattle.std.proofs.Common.{◌≡◌, refl, sym, ap, ◌∙◌, ℕ, zero, suc, ◌<◌, ◌≤◌, ◌-◌, ℤ, List, length, get_or, arith}
use Rattle.std.proofs.lemmas.Cmp.{lists_total, int_cmp_total}
use Rattle.std.proofs.lemmas.List.{ext_get_or}
use Rattle.std.specs.Cmp.{IsTotalOrder}
use Rattle.std.specs.Ordering.{ordering_reverse}
use Rattle.std.specs.declared.cmp.Ordering.TheVariants.{Less, Greater}
use Rattle.space_ops.specs.declared.op.Op.{Op}
use Rattle.space_ops.specs.declared.lattice.Lattice.{Lattice}
use Rattle.space_ops.specs.Seitz.{Seitz}
use Rattle.space_ops.specs.Op.{op_of, identity_op, rows_of}
use Rattle.space_ops.specs.OpLaws.{same_seitz}
use Rattle.space_ops.specs.Words.{op_at}
use Rattle.space_ops.specs.LeastShiftLaws.{not_greater}
use Rattle.space_ops.specs.Order.{rows_cmp}
use Rattle.space_ops.specs.Group.{matrix_cmp, IsListed, IsListOf}

rows_total : IsTotalOrder rows_cmp
rows_total = lists_total (lists_total int_cmp_total)

positive : (n : ℕ) → (n ≡ 0 → ⊥) → 0 < n
positive zero h = absurd (h refl)
positive (suc n) h = omega arith

smaller : (p q : ℕ) → (p ≡ q → ⊥) → (q < p → ⊥) → p < q
smaller p q h k = grind arith

module _ (G : List Op) (L : Lattice) (xs ys : List Op) (a : IsListOf G L xs) (b : IsListOf G L ys) where
  -- the operation of the second list with the rotation of operation i of the first
  there : (i : ℕ) → i < length xs → IsListed L ys (op_at xs i)
  there i l = b.complete (op_at xs i) (a.are_words i l)

  not_first : (i : ℕ) (l : i < length xs) → 0 < i → 0 < (there i l).place
  not_first i l z =
      positive (there i l).place
      (λ e. let k : i ≡ 0 =
      a.apart i 0 l a.some
      ((there i l).same.rotation ∙ ap (λ n. (op_at ys n).rot) e ∙ ap (λ (g : Seitz ℤ). g.rot) b.identity ∙ sym (ap (λ (g : Seitz ℤ). g.rot) a.identity)) in
      absurd (omega arith))

  rises : (i j : ℕ) (l : i < length xs) (m : j < length xs) → 0 < i → i < j → (there i l).place < (there j m).place
  rises i j l m z k =
      let p = there i l in
      let q = there j m in
      smaller p.place q.place
      (λ e. let f : i ≡ j = a.apart i j l m (p.same.rotation ∙ ap (λ n. (op_at ys n).rot) e ∙ sym q.same.rotation) in absurd (omega arith))
      (λ t.
      let up : matrix_cmp (op_at ys q.place).rot (op_at ys p.place).rot ≡ Less = b.rising q.place p.place (not_first j m (omega arith)) t p.below in
      let down : matrix_cmp (op_at xs i).rot (op_at xs j).rot ≡ Less = a.rising i j z k m in
      let back : matrix_cmp (op_at xs j).rot (op_at xs i).rot ≡ Greater = rows_total.antisymm (rows_of (op_at xs j).rot) (rows_of (op_at xs i).rot) ∙ ap ordering_reverse down in
      let same : matrix_cmp (op_at xs j).rot (op_at xs i).rot ≡ matrix_cmp (op_at ys q.place).rot (op_at ys p.place).rot = (λ t. matrix_cmp (q.same.rotation t) (p.same.rotation t)) in
      let d : Less ≡ Greater = sym up ∙ sym same ∙ back in
      cc)

  grows : (i : ℕ) (l : i < length xs) → i ≤ (there i l).place
  grows zero l = omega arith
  grows (suc zero) l = let k : 0 < (there 1 l).place = not_first 1 l (omega arith) in omega arith
  grows (suc (suc i)) l =
      let m : suc i < length xs = omega arith in
      let k : (there (suc i) m).place < (there (suc (suc i)) l).place = rises (suc i) (suc (suc i)) m l (omega arith) (omega arith) in
      let n : suc i ≤ (there (suc i) m).place = grows (suc i) m in
      omega arith

module _ (G : List Op) (L : Lattice) (xs ys : List Op) (a : IsListOf G L xs) (b : IsListOf G L ys) where
  same_place : (i : ℕ) (l : i < length xs) → (there G L xs ys a b i l).place ≡ i
  same_place i l =
      let p = there G L xs ys a b i l in
      let q = there G L ys xs b a p.place p.below in
      let e : q.place ≡ i = a.apart q.place i q.below l (sym (p.same.rotation ∙ q.same.rotation)) in
      let f : i ≤ p.place = grows G L xs ys a b i l in
      let g : p.place ≤ q.place = grows G L ys xs b a p.place p.below in
      omega arith

  below : (i : ℕ) → i < length xs → i < length ys
  below i l = let e : (there G L xs ys a b i l).place ≡ i = same_place i l in let k : (there G L xs ys a b i l).place < length ys = (there G L xs ys a b i l).below in omega arith

  no_longer : length xs ≤ length ys
  no_longer = let s : 0 < length xs = a.some in let l : length xs - 1 < length ys = below (length xs - 1) (omega arith) in omega arith

  same_rotation : (i : ℕ) → i < length xs → (op_at xs i).rot ≡ (op_at ys i).rot
  same_rotation i l = (there G L xs ys a b i l).same.rotation ∙ ap (λ n. (op_at ys n).rot) (same_place i l)

pub list-unique : (G : List Op) (L : Lattice) (xs ys : List Op) → IsListOf G L xs → IsListOf G L ys → xs ≡ ys
list-unique G L xs ys a b = ext_get_or identity_op xs ys same_length same where
  same_length : length xs ≡ length ys
  same_length = let p : length xs ≤ length ys = no_longer G L xs ys a b in let q : length ys ≤ length xs = no_longer G L ys xs b a in omega arith

  same : (i : ℕ) → i < length xs → get_or xs i identity_op ≡ get_or ys i identity_op
  same i l =
      let m = below G L xs ys a b i l in
      let r = same_rotation G L xs ys a b i l in
      a.shaped i l
      ∙ ap op_of (same_seitz (op_at xs i) (op_at ys i) r
      (not_greater (op_at xs i).shift (op_at ys i).shift
      (a.least i l (op_at ys i) (b.are_words i m) (sym r) (b.in_cell i m))
      (b.least i m (op_at xs i) (a.are_words i l) r (a.in_cell i l))))
      ∙ sym (b.shaped i m)
