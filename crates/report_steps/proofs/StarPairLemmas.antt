-- Two stars of one wave vector: they have one row, one little group and the same representatives.
use Rattle.std.proofs.Common.{◌≡◌, sym, ◌∙◌, subst, ℕ, ℤ, List, length}
use Rattle.algebra.specs.RisingListLaws.{list-unique}
use Rattle.iso_text.specs.declared.sections.MatText.{MatText}
use Rattle.space_ops.specs.Matrix.{Vector}
use Rattle.space_ops.specs.Seitz.{Seitz}
use Rattle.space_ops.specs.Group.{Parent}
use Rattle.space_ops.specs.Member.{rotation_of}
use Rattle.std.specs.Prelude.{Contains}
use Rattle.kstar.specs.Star.{WaveStar, IsLittle, IsFirstOfArm, IsStarOf}
use Rattle.small_rep.specs.SmallRep.{IsLittleOp}
use Rattle.small_rep.specs.Reading.{operation_at, AreGoodLines}

pub record IsTwin (s t : WaveStar) : Type 0 where
  pub row : s.row ≡ t.row
  pub little : s.little ≡ t.little
  pub by : s.by ≡ t.by

pub twins : (p : Parent) (k : Vector ℤ) (s t : WaveStar) → IsStarOf p k s → IsStarOf p k t → IsTwin s t
twins p k s t a b = record {
  row = a.row ∙ sym b.row;
  little = list-unique (length p.ops) (IsLittle p k) s.little t.little a.little b.little;
  by = list-unique (length p.ops) (IsFirstOfArm p k) s.by t.by a.by b.by;
}

pub twin-sym : (s t : WaveStar) → IsTwin s t → IsTwin t s
twin-sym s t w = record { row = sym w.row; little = sym w.little; by = sym w.by }

module _ (p : Parent) (s t : WaveStar) (w : IsTwin s t) where
  pub little-op : (h : Seitz ℤ) → IsLittleOp p s h → IsLittleOp p t h
  little-op h a = record { member = a.member; little = subst (λ (xs : List ℕ). Contains xs (rotation_of p h)) w.little a.little }

  pub good-lines : (mats : List MatText) (l : ℕ) → AreGoodLines p s mats l → AreGoodLines p t mats l
  good-lines mats l a = record { little = λ i m. little-op (operation_at mats i) (a.little i m); apart = a.apart }
