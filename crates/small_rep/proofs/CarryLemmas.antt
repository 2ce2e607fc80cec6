-- One `mat` line.
use Rattle.std.proofs.Common.{◌≡◌, sym, ap, ◌∙◌, subst, ℕ, ◌<◌, ℤ, pos, true, false, List, length, nat_eq, arith}
use Rattle.std.proofs.lemmas.Bool.{both_ways}
use Rattle.std.proofs.lemmas.Int.{ints}
use Rattle.std.specs.Prelude.{slice_index_or}
use Rattle.std.specs.List.{list_any}
use Rattle.iso_text.specs.RangeLaws.{AreThree-entry}
use Rattle.iso_text.specs.WordRanges as ranges
use Rattle.iso_text.specs.WordRanges.{IsOperation}
use Rattle.iso_text.specs.declared.numbers.OpText.{OpText}
use Rattle.space_ops.specs.declared.op.Op.{Op}
use Rattle.space_ops.specs.declared.lattice.Lattice.{Lattice}
use Rattle.algebra.specs.Whole.{whole}
use Rattle.space_ops.specs.Matrix.{Vector, minus_vector}
use Rattle.space_ops.specs.MatrixLaws.{same_vector}
use Rattle.space_ops.specs.LatticeLaws.{minus-lattice}
use Rattle.space_ops.specs.Op.{seitz_of, matrix_of, vector_of, shift_of, identity_op, IsWithin, IsShiftWithin, number_at}
use Rattle.space_ops.specs.Words.{op_at, vector_difference, IsLatticeVector}
use Rattle.space_ops.specs.Group.{Parent, IsParentGroup}
use Rattle.kstar.specs.Star.{WaveStar}
use Rattle.space_ops.specs.Member.{IsMemberOf, rotation_of, rest_of}
use Rattle.space_ops.specs.MemberLaws.{member-rotation, member-rest, rotation_of-listed}
use Rattle.small_rep.specs.LittleMatrixLaws.{listed-contains, contains-listed}
use Rattle.small_rep.specs.SmallRep.{IsLittleOp}

module _ (p : Parent) (h : IsParentGroup p) (s : WaveStar) (op : Op) where
  number_is : (r : ℕ) → r < length p.ops → (op_at p.ops r).rot ≡ matrix_of op.rot → r ≡ rotation_of p (seitz_of op)
  number_is r l e = sym (rotation_of-listed p h (seitz_of op) r l (sym e))

  pub little_op : (r : ℕ) → IsMemberOf p (seitz_of op) → r < length p.ops → (op_at p.ops r).rot ≡ matrix_of op.rot → (ls : List ℕ) → ls ≡ s.little → list_any (λ y. nat_eq y r) ls ≡ true
      → IsLittleOp p s (seitz_of op) × (r ≡ rotation_of p (seitz_of op)) × (r < length p.ops)
  little_op r m l e ls f t =
      let n = number_is r l e in (
        record { member = m; little = listed-contains s.little (rotation_of p (seitz_of op)) (subst (λ xs. list_any (λ y. nat_eq y (rotation_of p (seitz_of op))) xs ≡ true) f (subst (λ k. list_any (λ y. nat_eq y k) ls ≡ true) n t)) },
        n,
        l,
      )

  pub not_little : (r : ℕ) → r < length p.ops → (op_at p.ops r).rot ≡ matrix_of op.rot → (ls : List ℕ) → ls ≡ s.little → list_any (λ y. nat_eq y r) ls ≡ false → IsLittleOp p s (seitz_of op) → ⊥
  not_little r l e ls f t k =
      both_ways (list_any (λ y. nat_eq y r) ls) t
      (subst (λ xs. list_any (λ y. nat_eq y r) xs ≡ true) (sym f) (subst (λ n. list_any (λ y. nat_eq y n) s.little ≡ true) (sym (number_is r l e)) (contains-listed s.little (rotation_of p (seitz_of op)) k.little)))

  pub not_listed : ((j : ℕ) → j < length p.ops → (op_at p.ops j).rot ≡ matrix_of op.rot → ⊥) → IsLittleOp p s (seitz_of op) → ⊥
  not_listed none k = let q = member-rotation p h (seitz_of op) k.member in none (rotation_of p (seitz_of op)) q.0 q.1

turned : (a b : Vector ℤ) → vector_difference a b ≡ minus_vector whole (vector_difference b a)
turned a b = same_vector _ _ (omega (arith, ints)) (omega (arith, ints)) (omega (arith, ints))

-- what the listed operation has more
pub less_rest : (p : Parent) (op listed : Op) (r : ℕ) (t : List ℤ) → r ≡ rotation_of p (seitz_of op) → listed ≡ slice_index_or p.ops r identity_op
    → t ≡ shift_of (vector_difference (vector_of listed.shift) (vector_of op.shift)) → vector_of t ≡ minus_vector whole (rest_of p (seitz_of op))
less_rest p op listed r t e f g =
    ap vector_of g ∙ turned (vector_of listed.shift) (vector_of op.shift)
    ∙ (λ i. minus_vector whole (vector_difference (vector_of op.shift) (vector_of (f i).shift)))
    ∙ ap (λ n. minus_vector whole (vector_difference (vector_of op.shift) (op_at p.ops n).shift)) e

pub less-lattice : (p : Parent) → IsParentGroup p → (lattice : Lattice) → lattice ≡ p.lattice → (op : Op) → IsMemberOf p (seitz_of op) → (t : List ℤ) → vector_of t ≡ minus_vector whole (rest_of p (seitz_of op)) → IsLatticeVector lattice (vector_of t)
less-lattice p h lattice e op m t f = subst (λ l. IsLatticeVector l (vector_of t)) (sym e) (subst (IsLatticeVector p.lattice) (sym f) (minus-lattice p.lattice (rest_of p (seitz_of op)) (member-rest p h (seitz_of op) m)))

-- the ranges of a file's operations
pub nearer : (op : OpText) → IsOperation op → (o : Op) → o.shift ≡ op.shift → IsShiftWithin 1440 o.shift
nearer op h o e =
    let at : (i : ℕ) → i < 3 → IsWithin 1440 (number_at op.shift i) = λ i l. AreThree-entry (ranges.IsWithin 1440) op.shift i (pos 0) h.shift l in
    subst (IsShiftWithin 1440) (sym e) (at 0 (omega arith), at 1 (omega arith), at 2 (omega arith))

pub rotation_below : (p : Parent) → IsParentGroup p → (op : Op) (r : ℕ) → r ≡ rotation_of p (seitz_of op) → IsMemberOf p (seitz_of op) → r < length p.ops
rotation_below p h op r e m = subst (λ n. n < length p.ops) (sym e) (member-rotation p h (seitz_of op) m).0
