-- Each step over the irreps of a file has one answer, and what an irrep induces is one.
use Rattle.std.proofs.Common.{◌≡◌, sym, ◌∙◌, List}
use Rattle.iso_text.specs.declared.sections.IrrepText.{IrrepText}
use Rattle.kstar.specs.Star.{WaveStar}
use Rattle.small_rep.specs.SmallRep.{Matrices}
use Rattle.super_group.specs.Quotient.{SupercellGroup, IsQuotient}
use Rattle.report_steps.specs.Contexts.{Parented, Divided}
use Rattle.report_steps.specs.InducedLaws.{InduceTheSame}
use Rattle.report_steps.specs.IrrepReport.{Facts, AreFactsOf, AreFacts}
use Rattle.report_steps.specs.Irreps.{HasPhase, RefusesPhase, HasRep, RefusesRep, HasInduced, RefusesInduced, IsRepresented}
use Rattle.report_steps.specs.Stages.{RefusesPhases, HavePhases, RefusesReps, HaveReps, RefusesDimensions, HaveInduced}
use Rattle.report_steps.specs.StepLaws.{IsSingleAt}
use Rattle.report_steps.specs.EachLaws.{each-same}
use Rattle.report_steps.proofs.EachLemmas.{first-one, first-none}
use Rattle.report_steps.proofs.IrrepUniqueLemmas.{phase-one, phase-apart, rep-one, rep-apart, induced-one, induced-apart, facts-one, twin, alike, some-elements}
use Rattle.report_steps.proofs.InducedUniqueLemmas.{kind-same, dimension-same, matrix-same}

pub phases-single : (p : Parented) → IsSingleAt RefusesPhases HavePhases p
phases-single p = record {
  refusal = first-one (HasPhase p.parent) (RefusesPhase p.parent) (phase-one p.parent) (phase-apart p.parent) p.file.irreps;
  value = λ a b x y. x.1 ∙ sym y.1;
  apart = λ r b x y. first-none (HasPhase p.parent) (RefusesPhase p.parent) (phase-apart p.parent) p.file.irreps r y.0 x;
}

module _ (d : Divided) (h : IsQuotient d.quotient) where
  pub reps-single : IsSingleAt RefusesReps HaveReps d
  reps-single = record {
    refusal = first-one (HasRep d.quotient.parent) (RefusesRep d.quotient.parent) (rep-one d.quotient.parent h.parent) (rep-apart d.quotient.parent h.parent) d.file.irreps;
    value = λ a b x y. x.1 ∙ sym y.1;
    apart = λ r b x y. first-none (HasRep d.quotient.parent) (RefusesRep d.quotient.parent) (rep-apart d.quotient.parent h.parent) d.file.irreps r y.0 x;
  }

  pub dimensions-single : IsSingleAt RefusesDimensions HaveInduced d
  dimensions-single = record {
    refusal = first-one (HasInduced d.quotient) (RefusesInduced d.quotient) (induced-one d.quotient h) (induced-apart d.quotient h) d.file.irreps;
    value = λ a b x y. x.1 ∙ sym y.1;
    apart = λ r b x y. first-none (HasInduced d.quotient) (RefusesInduced d.quotient) (induced-apart d.quotient h) d.file.irreps r y.0 x;
  }

pub facts-all : (q : SupercellGroup) → IsQuotient q → (irreps : List IrrepText) (fs gs : List Facts) → AreFacts q irreps fs → AreFacts q irreps gs → fs ≡ gs
facts-all q h irreps fs gs a b = each-same (AreFactsOf q) irreps fs gs (facts-one q h) a b

pub induce-same : (q : SupercellGroup) → IsQuotient q → (i : IrrepText) (s t : WaveStar) (g m : Matrices) → IsRepresented q.parent i s g → IsRepresented q.parent i t m → InduceTheSame q i s t g m
induce-same q h i s t g m a b =
    let w = twin q h i s t g m a b in
    let c = alike q h i s t g m a b in
    record {
      dimension = dimension-same q s t w i.size g m c;
      entry = λ e x y lx ly. matrix-same q s t w i.size g m c e x y lx ly;
      kind = kind-same q s t w i.size g m c (some-elements q h);
    }
