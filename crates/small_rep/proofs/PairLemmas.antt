-- Products of two listed operations.
use Rattle.std.proofs.Common.{◌≡◌, sym, ap, ◌∙◌, subst, ℕ, ◌<◌, ◌+◌, ◌/◌, ◌%◌, ℤ, List, [], ◌∷◌, ◌++◌, length, get_or, below_more, arith}
use Rattle.std.proofs.lemmas.Int.{ints}
use Rattle.std.proofs.lemmas.List.{length-append, get_or_append_left}
use Rattle.std.proofs.Math.Seq.{get_or-append_seam}
use Rattle.std.specs.Prelude.{slice_index_or}
use Rattle.space_ops.specs.declared.op.Op.{Op}
use Rattle.space_ops.specs.declared.lattice.Lattice.{Lattice}
use Rattle.algebra.specs.Whole.{whole}
use Rattle.space_ops.specs.Seitz.{Seitz, seitz_product}
use Rattle.space_ops.specs.Op.{seitz_of, matrix_of, vector_of, shift_of, identity_op, product_of, IsWithin, IsShiftWithin, number_at}
use Rattle.space_ops.specs.OpLaws.{seitz_of-product_of}
use Rattle.space_ops.specs.Words.{op_at, vector_difference, IsLatticeVector}
use Rattle.space_ops.specs.WordLaws.{word-product}
use Rattle.space_ops.specs.Group.{Parent, IsParentGroup}
use Rattle.space_ops.specs.GroupLaws.{parent-product, rotation_group}
use Rattle.kstar.specs.Star.{WaveStar}
use Rattle.space_ops.specs.MemberLaws.{rotation_of-listed, member-rest}
use Rattle.small_rep.specs.SmallRep.{factor_of}
use Rattle.small_rep.specs.declared.pairs.Pair.{Pair}
use Rattle.small_rep.specs.Pairs.{IsPair, no_pair}

module _ (p : Parent) (h : IsParentGroup p) (a b : ℕ) (la : a < length p.ops) (lb : b < length p.ops) where
  -- the product of the listed operations
  abbrev g : Seitz ℤ
  g = seitz_product whole (op_at p.ops a) (op_at p.ops b)

  module _ (left right o : Op) (el : left ≡ slice_index_or p.ops a identity_op) (er : right ≡ slice_index_or p.ops b identity_op) (e : o ≡ product_of left right) where
    product-is : seitz_of o ≡ g
    product-is = ap seitz_of e ∙ seitz_of-product_of left right ∙ (λ i. seitz_product whole (seitz_of (el i)) (seitz_of (er i)))

    pub product_listed : ((j : ℕ) → j < length p.ops → (op_at p.ops j).rot ≡ matrix_of o.rot → ⊥) → ⊥
    product_listed none = let w = parent-product p h a b la lb in none w.place w.below (sym w.same.rotation ∙ ap (λ (x : Seitz ℤ). x.rot) (sym product-is))

    module _ (n : ℕ) (ln : n < length p.ops) (en : (op_at p.ops n).rot ≡ matrix_of o.rot) where
      pub number_is : n ≡ (rotation_group p.ops).product a b
      number_is = sym (rotation_of-listed p h g n ln (sym (en ∙ ap (λ (x : Seitz ℤ). x.rot) product-is)))

      pub rest_is : (listed : Op) (t : List ℤ) → listed ≡ slice_index_or p.ops n identity_op → t ≡ shift_of (vector_difference (vector_of o.shift) (vector_of listed.shift)) → vector_of t ≡ factor_of p a b
      rest_is listed t f d =
          ap vector_of d ∙ (λ i. vector_difference (product-is i).shift (vector_of (f i).shift)) ∙ ap (λ m. vector_difference g.shift (op_at p.ops m).shift) number_is

      pub rest_lattice : (lattice : Lattice) → lattice ≡ p.lattice → (listed : Op) (t : List ℤ) → listed ≡ slice_index_or p.ops n identity_op
          → t ≡ shift_of (vector_difference (vector_of o.shift) (vector_of listed.shift)) → IsLatticeVector lattice (vector_of t)
      rest_lattice lattice l listed t f d =
          subst (λ x. IsLatticeVector x (vector_of t)) (sym l)
          (subst (IsLatticeVector p.lattice) (sym (rest_is listed t f d)) (member-rest p h g (word-product p.generators p.lattice (op_at p.ops a) (op_at p.ops b) (h.list.are_words a la) (h.list.are_words b lb))))

-- one pair more
pub pairs_more : (p : Parent) (s : WaveStar) (little : List ℕ) (n e : ℕ) (pairs pairs' : List Pair) (pair : Pair) → pairs' ≡ pairs ++ pair ∷ [] → length pairs ≡ e
    → ((i : ℕ) → i < e → IsPair p s (get_or little (i / n) 0) (get_or little (i % n) 0) (get_or pairs i no_pair)) → IsPair p s (get_or little (e / n) 0) (get_or little (e % n) 0) pair
    → (length pairs' ≡ e + 1) × ((i : ℕ) → i < e + 1 → IsPair p s (get_or little (i / n) 0) (get_or little (i % n) 0) (get_or pairs' i no_pair))
pairs_more p s little n e pairs pairs' pair g c h w =
    let P : ℕ → Pair → Type 0 = λ i x. IsPair p s (get_or little (i / n) 0) (get_or little (i % n) 0) x in
    let l : length (pairs ++ pair ∷ []) ≡ length pairs + 1 = length-append pairs (pair ∷ []) in
    let m : length (pairs ++ pair ∷ []) ≡ e + 1 = omega (arith, l, c) in (
      ap length g ∙ m,
      below_more (λ i. P i (get_or pairs' i no_pair)) e
          (λ i b. subst (P i) (sym (ap (λ xs. get_or xs i no_pair) g ∙ get_or_append_left pairs (pair ∷ []) no_pair i (subst (λ k. i < k) (sym c) b))) (h i b))
          (subst (P e) (sym (ap (λ xs. get_or xs e no_pair) g ∙ ap (λ k. get_or (pairs ++ pair ∷ []) k no_pair) (sym c) ∙ get_or-append_seam pairs pair [] no_pair)) w),
    )
