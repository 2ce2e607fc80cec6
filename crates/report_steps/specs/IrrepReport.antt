-- What `check` tells of an irrep.
--
-- Facts: the representatives of the arms, how many rotations the little group has, the character sum, the kind and the real dimension
-- AreFactsOf q i facts: the facts of an irrep; AreFacts: of each
-- irrep_text p i facts: the lines of an irrep; irreps_text: of all
use Rattle.std.specs.Prelude.{◌≡◌, ℕ, List, [], ◌∷◌, ◌++◌, length, flat_map, slice_index_or, codes, decimal}
use Rattle.cyclo24.specs.ExactK24.{Exact24}
use Rattle.cyclo24.specs.TextK24.{text24}
use Rattle.iso_text.specs.Lines.{line}
use Rattle.iso_text.specs.declared.sections.IrrepText.{IrrepText}
use Rattle.space_ops.specs.Group.{Parent}
use Rattle.space_ops.specs.OpText.{text_of}
use Rattle.space_ops.specs.Op.{identity_op}
use Rattle.kstar.specs.Star.{WaveStar, image_at}
use Rattle.super_group.specs.Quotient.{SupercellGroup, order_of}
use Rattle.small_rep.specs.SmallRep.{Matrices, character_sum}
use Rattle.induce.specs.declared.kinds.Kind.{Kind}
use Rattle.induce.specs.declared.kinds.Kind.TheVariants as kind
use Rattle.induce.specs.Induced.{dimension_of, indicator_sum}
use Rattle.induce.specs.Kinds.{IsKind, real_dimension}
use Rattle.report_steps.specs.Fractions.{row_text}
use Rattle.report_steps.specs.IrrepSteps.{Each}
use Rattle.report_steps.specs.Irreps.{row_of_irrep, IsInducible}

pub record Facts : Type 0 where
  pub by : List ℕ
  pub little : ℕ
  pub sum : Exact24
  pub kind : Kind
  pub dim : ℕ

-- the facts, by a star and matrices
pub record AreFactsBy (q : SupercellGroup) (i : IrrepText) (facts : Facts) (s : WaveStar) (g : Matrices) : Type 0 where
  pub inducible : IsInducible q i s g
  pub by : facts.by ≡ s.by
  pub little : facts.little ≡ length s.little
  pub sum : facts.sum ≡ character_sum s.little i.size g
  pub kind : IsKind facts.kind (indicator_sum q s i.size g) (order_of q)
  pub dim : facts.dim ≡ real_dimension facts.kind (dimension_of s i.size)

abbrev pub AreFactsOf : SupercellGroup → IrrepText → Facts → Type 0
AreFactsOf q i facts = (s : WaveStar) × (g : Matrices) × AreFactsBy q i facts s g

-- the facts of each irrep, in order
abbrev pub AreFacts : SupercellGroup → List IrrepText → List Facts → Type 0
AreFacts q = Each (AreFactsOf q)

abbrev pub kind_text : Kind → List ℕ
kind_text kind.Real = codes "real"
kind_text kind.Complex = codes "complex"
kind_text kind.Pseudoreal = codes "pseudoreal"

-- the front of the line of an irrep
abbrev pub irrep_head : IrrepText → List ℕ
irrep_head i = codes "irrep " ++ i.name ++ codes " k " ++ row_text (row_of_irrep i)

-- the back of it, for a small dimension
abbrev pub irrep_tail : ℕ → Facts → List ℕ
irrep_tail size f =
    line (codes " arms " ++ decimal (length f.by) ++ codes " little " ++ decimal f.little ++ codes " small " ++ decimal size
    ++ codes " sum " ++ text24 f.sum ++ codes " type " ++ kind_text f.kind ++ codes " dim " ++ decimal f.dim) []

-- the line of an irrep
abbrev pub irrep_line : IrrepText → Facts → List ℕ
irrep_line i f = irrep_head i ++ irrep_tail i.size f

-- the line of an arm, by the number of its representative
abbrev pub arm_line : Parent → IrrepText → ℕ → List ℕ
arm_line p i r = line (codes "arm " ++ row_text (image_at p (row_of_irrep i) r) ++ codes " by " ++ text_of (slice_index_or p.ops r identity_op)) []

-- the irrep and its arms
abbrev pub irrep_text : Parent → IrrepText → Facts → List ℕ
irrep_text p i f = irrep_line i f ++ flat_map (arm_line p i) f.by

-- the irreps in order
abbrev pub irreps_text : Parent → List IrrepText → List Facts → List ℕ
irreps_text p (i ∷ irreps) (f ∷ facts) = irrep_text p i f ++ irreps_text p irreps facts
irreps_text p _ _ = []
