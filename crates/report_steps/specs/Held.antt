-- What the program holds of an irrep behind each step.
--
-- IsStarHeld p i s: its block is in range, and s is the star of its wave vector, whose phases are good
-- IsCellHeld q i s: and each arm is whole on the supercell
-- IsRepHeld q i a: and the lines give its small representation
-- facts_in v: the facts of induced matrices; IsInducedHeld q i v: they are those that the irrep induces
use Rattle.std.specs.Prelude.{◌≡◌, length}
use Rattle.iso_text.specs.Ranges.{IsBlock}
use Rattle.iso_text.specs.declared.sections.IrrepText.{IrrepText}
use Rattle.space_ops.specs.Group.{Parent}
use Rattle.kstar.specs.Star.{WaveStar, IsStarOf}
use Rattle.super_group.specs.Quotient.{SupercellGroup}
use Rattle.small_rep.specs.SmallRep.{character_sum}
use Rattle.small_rep.specs.Rep.{matrices_of, IsRepOf}
use Rattle.small_rep.specs.RepCheck.{CheckedView}
use Rattle.induce.specs.CellPhase.{AreWholeOn}
use Rattle.induce.specs.InducedView.{InducedView, star_in, rep_in, IsInducedOf}
use Rattle.induce.specs.Tables.{size_in, matrices_in}
use Rattle.report_steps.specs.declared.context.AcceptedRep.{AcceptedRep}
use Rattle.report_steps.specs.Irreps.{row_of_irrep, HasPhase, IsRepresented, IsInducible}
use Rattle.report_steps.specs.IrrepReport.{Facts, AreFactsOf}

pub record IsStarHeld (p : Parent) (i : IrrepText) (s : WaveStar) : Type 0 where
  pub block : IsBlock i
  pub phases : HasPhase p i
  pub star : IsStarOf p (row_of_irrep i) s

pub record IsCellHeld (q : SupercellGroup) (i : IrrepText) (s : WaveStar) : Type 0 where
  pub held : IsStarHeld q.parent i s
  pub cells : AreWholeOn q.d s

-- the representation of a star and of the lines of an irrep
pub record IsRepOfLines (p : Parent) (i : IrrepText) (s : WaveStar) (c : CheckedView) : Type 0 where
  pub of : IsRepOf p s c.rep
  pub size : c.rep.size ≡ i.size
  pub rep : IsRepresented p i s (matrices_of c.rep)

pub record IsRepHeld (q : SupercellGroup) (i : IrrepText) (a : AcceptedRep) : Type 0 where
  pub star : IsCellHeld q i a.star
  pub rep : IsRepOfLines q.parent i a.star a.rep

-- the facts of induced matrices
abbrev pub facts_in : InducedView → Facts
facts_in v = record {
  by = (star_in v).by;
  little = length (star_in v).little;
  sum = character_sum (rep_in v).rep.little (rep_in v).rep.size (matrices_of (rep_in v).rep);
  kind = v.kind;
  dim = v.real_dim;
}

pub record IsInducedHeld (q : SupercellGroup) (i : IrrepText) (v : InducedView) : Type 0 where
  pub block : IsBlock i
  pub star : IsStarOf q.parent (row_of_irrep i) (star_in v)
  pub of : IsInducedOf q v
  pub size : size_in v.tables ≡ i.size
  pub inducible : IsInducible q i (star_in v) (matrices_in v.tables)
  pub facts : AreFactsOf q i (facts_in v)
