-- The lists of a small representation belong together.
use Rattle.std.proofs.Common.{◌≡◌, sym, ◌∙◌, subst, ℕ, ◌<◌, ◌≤◌, ◌*◌, ◌/◌, ◌%◌, ℤ, true, List, length, get_or}
use Rattle.std.proofs.lemmas.List.{get_or_default}
use Rattle.std.proofs.lemmas.List.Elements.{Contains-get_or}
use Rattle.std.specs.Prelude.{slice_index_or}
use Rattle.cyclo24.specs.declared.z24.Z24.{Z24}
use Rattle.lin_alg.specs.Matrix.{MatrixView}
use Rattle.space_ops.specs.declared.op.Op.{Op}
use Rattle.space_ops.specs.Matrix.{Vector}
use Rattle.space_ops.specs.Group.{Parent, IsParentGroup}
use Rattle.space_ops.specs.GroupLaws.{rotation_group}
use Rattle.kstar.specs.PhaseLaws.{phase_of-below}
use Rattle.kstar.specs.Star.{WaveStar, IsStarOf}
use Rattle.kstar.specs.StarLaws.{star-subgroup}
use Rattle.small_rep.specs.SmallRep.{factor_of, is_listed}
use Rattle.small_rep.specs.LittleMatrixLaws.{listed-contains, contains-listed}
use Rattle.small_rep.specs.declared.pairs.Pair.{Pair}
use Rattle.small_rep.specs.Check.{left_of, right_of}
use Rattle.small_rep.specs.Pairs.{no_pair, ArePairs, AreListed}
use Rattle.small_rep.specs.Rep.{RepView, IsRep}
use Rattle.small_rep.specs.LinesRead.{AreSquare}
use Rattle.small_rep.specs.RepCheckLaws.{row-below, column-below}

-- a rotation of the little group has a line
pub given_listed : (little rotations : List ℕ) → AreListed little rotations → (r : ℕ) → is_listed little r ≡ true → is_listed rotations r ≡ true
given_listed little rotations given r t =
    let c = listed-contains little r t in
    subst (λ x. is_listed rotations x ≡ true) (get_or_default little c.0 0 r c.1 ∙ c.2) (given c.0 c.1)

module _ (p : Parent) (h : IsParentGroup p) (k : Vector ℤ) (s : WaveStar) (star : IsStarOf p k s) where
  product_little : (pairs : List Pair) → ArePairs p s s.little pairs → (e : ℕ) → e < length pairs → is_listed s.little (slice_index_or pairs e no_pair).product ≡ true
  product_little pairs w e l =
      let n = length s.little in
      let b : e < n * n = subst (λ x. e < x) w.count l in
      subst (λ x. is_listed s.little x ≡ true) (sym (w.each e l).product)
      (contains-listed s.little ((rotation_group p.ops).product (left_of s.little e) (right_of s.little e))
      ((star-subgroup p h k s star).product (left_of s.little e) (right_of s.little e) (Contains-get_or s.little (e / n) 0 (row-below n e b)) (Contains-get_or s.little (e % n) 0 (column-below n e b))))

  pub rep_held : (n : ℕ) (little : List ℕ) (ops : List Op) (pairs : List Pair) (rotations : List ℕ) (matrices : List (MatrixView Z24)) → 1 ≤ n → n ≤ 6 → length little ≤ 48 → little ≡ s.little
      → length ops ≡ length little → ArePairs p s little pairs → AreListed s.little rotations → AreSquare n rotations matrices
      → IsRep (record { size = n; little = little; ops = ops; pairs = pairs; rotations = rotations; matrices = matrices })
  rep_held n little ops pairs rotations matrices some few rotations_few e count w given square =
      let w' : ArePairs p s s.little pairs = subst (λ xs. ArePairs p s xs pairs) e w in
      record {
        some = some;
        few = few;
        rotations_few = rotations_few;
        ops_count = count;
        pairs_count = w.count;
        products = λ i l. subst (λ xs. is_listed xs (slice_index_or pairs i no_pair).product ≡ true) (sym e) (product_little pairs w' i l);
        powers = λ i l. subst (λ x. x < 24) (sym (w'.each i l).power) (phase_of-below s.row (factor_of p (left_of s.little i) (right_of s.little i)));
        given = subst (λ xs. AreListed xs rotations) (sym e) given;
        identity = subst (λ xs. is_listed xs 0 ≡ true) (sym e) (contains-listed s.little 0 (star-subgroup p h k s star).identity);
        matrix_count = square.count;
        rows = square.rows;
        cols = square.cols;
      }

pub held_listed : (v : RepView) → IsRep v → (r : ℕ) → is_listed v.little r ≡ true → is_listed v.rotations r ≡ true
held_listed v h r t = given_listed v.little v.rotations h.given r t
