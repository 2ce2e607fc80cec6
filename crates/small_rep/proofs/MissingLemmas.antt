-- All lines read: a rotation without a line, or matrices for the little group.
use Rattle.std.proofs.Common.{◌≡◌, sym, ap, ◌∙◌, subst, ℕ, ◌<◌, List, length, get_or, ne_eqb, arith}
use Rattle.std.proofs.lemmas.Bool.{both_ways}
use Rattle.iso_text.specs.declared.sections.MatText.{MatText}
use Rattle.cyclo24.specs.declared.z24.Z24.{Z24}
use Rattle.lin_alg.specs.Matrix.{MatrixView}
use Rattle.space_ops.specs.declared.op.Op.{Op}
use Rattle.space_ops.specs.Group.{Parent}
use Rattle.kstar.specs.Star.{WaveStar}
use Rattle.small_rep.specs.Pairs.{IsFirstUnlisted, AreListed}
use Rattle.small_rep.specs.Reading.{rotation_at, AreReadFrom, IsMissing}
use Rattle.small_rep.specs.Rep.{RepView, entry_at, first_place, matrices_of}
use Rattle.small_rep.specs.LinesRead.{AreRead, AreSquare}
use Rattle.small_rep.proofs.PlaceLemmas.{place_is}
use Rattle.small_rep.proofs.ReadLemmas.{earlier, later}

module _ (p : Parent) (s : WaveStar) (n : ℕ) (mats : List MatText) (rotations : List ℕ) (matrices : List (MatrixView Z24)) (h : AreRead p s n mats (length mats) rotations matrices) where
  pub missing : (little : List ℕ) → little ≡ s.little → (op : Op) → IsFirstUnlisted p.ops little rotations op → IsMissing p s mats op
  missing little e op w =
      let v = subst (λ xs. IsFirstUnlisted p.ops xs rotations op) e w in
      record {
        lines = h.good;
        place = v.place;
        listed = v.listed;
        before = λ i l. earlier p s n mats (length mats) rotations matrices h (get_or s.little i 0) (v.before i l);
        none = λ (l, b, f). both_ways _ v.none (later p s n mats (length mats) rotations matrices h l (get_or s.little v.place 0) b f);
        op_is = v.op_is;
      }

  pub square : AreSquare n rotations matrices
  square = record {
    count = h.matrix_count ∙ sym h.rotation_count;
    rows = λ l b. h.rows l (subst (λ m. l < m) h.matrix_count b);
    cols = λ l b. h.cols l (subst (λ m. l < m) h.matrix_count b);
  }

  -- the matrix of the rotation of a line is that of the line
  place_of_line : (l : ℕ) → l < length mats → l ≡ first_place rotations (rotation_at p mats l)
  place_of_line l b =
      place_is rotations (rotation_at p mats l) l (subst (λ m. l < m) (sym h.rotation_count) b)
      (λ k c. ne_eqb (get_or rotations k 0) (rotation_at p mats l) (λ e. h.good.apart k l c b (sym (h.rotation k (omega (arith, c, b))) ∙ e))) (h.rotation l b)

  -- the lines give the matrices of the representation
  pub read_from : AreListed s.little rotations → (v : RepView) → v.rotations ≡ rotations → v.matrices ≡ matrices → AreReadFrom p s n mats (matrices_of v)
  read_from given v er em = record {
    lines = h.good;
    complete = λ i l. earlier p s n mats (length mats) rotations matrices h (get_or s.little i 0) (given i l);
    matrices = λ l x y b lx ly. (λ t. entry_at (em t) (first_place (er t) (rotation_at p mats l)) x y) ∙ ap (λ k. entry_at matrices k x y) (sym (place_of_line l b)) ∙ h.entries l x y b lx ly;
  }
