-- Membership of an operation in a listed group.
use Rattle.std.proofs.Common.{◌≡◌, sym, ◌∙◌, subst, ℕ, ◌<◌, length}
use Rattle.space_ops.specs.declared.op.Op.{Op}
use Rattle.space_ops.specs.Op.{seitz_of}
use Rattle.space_ops.specs.Words.{op_at, vector_difference, IsLatticeVector, IsWord}
use Rattle.space_ops.specs.WordLaws.{word-same}
use Rattle.space_ops.specs.Group.{Parent, IsParentGroup}

module _ (p : Parent) (h : IsParentGroup p) (op : Op) where
  pub member_yes : (i : ℕ) → i < length p.ops → (op_at p.ops i).rot ≡ (seitz_of op).rot → IsLatticeVector p.lattice (vector_difference (seitz_of op).shift (op_at p.ops i).shift)
      → IsWord p.generators p.lattice (seitz_of op)
  member_yes i l e t = word-same p.generators p.lattice (seitz_of op) (op_at p.ops i) (h.list.are_words i l) (record { rotation = sym e; translation = t })

  pub member_no : (i : ℕ) → i < length p.ops → (op_at p.ops i).rot ≡ (seitz_of op).rot → (IsLatticeVector p.lattice (vector_difference (seitz_of op).shift (op_at p.ops i).shift) → ⊥)
      → IsWord p.generators p.lattice (seitz_of op) → ⊥
  member_no i l e n w =
      let a = h.list.complete (seitz_of op) w in
      let k : a.place ≡ i = h.list.apart a.place i a.below l (sym a.same.rotation ∙ sym e) in
      n (subst (λ j. IsLatticeVector p.lattice (vector_difference (seitz_of op).shift (op_at p.ops j).shift)) k a.same.translation)

  pub member_unlisted : ((j : ℕ) → j < length p.ops → (op_at p.ops j).rot ≡ (seitz_of op).rot → ⊥) → IsWord p.generators p.lattice (seitz_of op) → ⊥
  member_unlisted n w = let a = h.list.complete (seitz_of op) w in n a.place a.below (sym a.same.rotation)
