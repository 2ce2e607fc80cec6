use Rattle.std.proofs.Common.{sym, subst, List, map}
use Rattle.std.specs.List.{All}
use Rattle.super_group.specs.Quotient.{SupercellGroup}
use Rattle.induce.specs.InducedView.{InducedView, IsInducedOf}
use Rattle.mode_project.specs.AtomSpace.{IsOrbit}
use Rattle.mode_project.specs.Weights.{exact_weights, weights_in}
use Rattle.extra_modes.specs.ExtraSpace.{extra_space}
use Rattle.report_steps.specs.FindingLaws.{found-wide as found-wide-by, found-next}
use Rattle.report_steps.specs.Held.{IsInducedHeld}
use Rattle.mode_report.specs.Atoms.{RefusesAtoms}
use Rattle.mode_report.specs.IrrepWeights.{AreWeightsOf}
use Rattle.mode_report.specs.ModesFound.{AreWideAllBy}
use Rattle.mode_report.specs.ModesHeldLaws.{weights-are, found-wide}
use Rattle.mode_report.specs.ModesReport.{each_of}
use Rattle.amp_report.specs.AmpsFound.{HaveOrbitModesBy}
use Rattle.amp_report.specs.AmpsHeldLaws.{modes-held}
use Rattle.amp_report.specs.Held.{moded_in}
use Rattle.extra_report.specs.ExtraAmpsFound.{AfterModes}
use Rattle.extra_report.specs.ExtraReport.{entries_of}
use Rattle.extra_report.specs.FoundExtraAmps.{AreExtraAmpsHeld, extra_amps_of}
use Rattle.extra_report.proofs.EachLemmas.{each-second}
use Rattle.extra_report.proofs.SpaceLemmas.{sized}
use Rattle.extra_report.proofs.amps_found.after_orbits.Goals as goal

pub all_modes-requires-clause-orbits : goal.all_modes-requires-clause-orbits
all_modes-requires-clause-orbits c = subst (λ (q : SupercellGroup). All (IsOrbit q) c.args.orbits) (sym c.quotient.ensures) c.requires.orbits.1

pub all_modes-requires-clause-induced : goal.all_modes-requires-clause-induced
all_modes-requires-clause-induced c =
    let q = c.args.file.divided.quotient in
    let vs = c.args.file.irreps.items in
    let all : All (IsInducedOf q) vs = each-second (IsInducedHeld q) (IsInducedOf q) c.args.file.divided.file.irreps vs (λ i v h. h.of) c.requires.file in
    subst (λ (s : SupercellGroup). All (IsInducedOf s) c.deref.result.now) (sym c.quotient.ensures) (subst (λ (us : List InducedView). All (IsInducedOf q) us) (sym c.deref.ensures.value) all)

pub after_modes-requires-clause-modes : goal.after_modes-requires-clause-modes
after_modes-requires-clause-modes c =
    let d = c.args.file.divided in
    let n = c.args.nature in
    let W : List InducedView → Type 0 = λ us. AreWeightsOf d.quotient d.file.irreps (exact_weights (map weights_in us)) in
    let w = subst W (sym c.deref.ensures.value) (weights-are d.quotient d.file.irreps c.args.file.irreps.items c.requires.file) in
    modes-held (extra_space n) 8 (each_of (entries_of n)) (sized n) d c.quotient.result.now c.args.orbits c.in-Passed.modes.items (exact_weights (map weights_in c.deref.result.now)) c.quotient.ensures c.requires.orbits w
    (rw c.in-Passed.is at c.in_ok-modes.ensures)

pub returns-in-Passed : goal.returns-in-Passed
returns-in-Passed c =
    let d = c.args.file.divided in
    let n = c.args.nature in
    let W : List InducedView → Type 0 = λ us. AreWeightsOf d.quotient d.file.irreps (exact_weights (map weights_in us)) in
    let w = subst W (sym c.deref.ensures.value) (weights-are d.quotient d.file.irreps c.args.file.irreps.items c.requires.file) in
    let held =
    modes-held (extra_space n) 8 (each_of (entries_of n)) (sized n) d c.quotient.result.now c.args.orbits c.in-Passed.modes.items (exact_weights (map weights_in c.deref.result.now)) c.quotient.ensures c.requires.orbits w
    (rw c.in-Passed.is at c.in_ok-modes.ensures) in
    found-next extra_amps_of AreExtraAmpsHeld RefusesAtoms (AreWideAllBy (extra_space n) 8) (HaveOrbitModesBy (extra_space n)) (AfterModes n d.file.format) d (moded_in d c.args.orbits c.in-Passed.modes.items) held.0 c.after_modes.result
    c.after_modes.ensures

pub returns-in-Refused : goal.returns-in-Refused
returns-in-Refused c =
    let d = c.args.file.divided in
    let n = c.args.nature in
    let W : List InducedView → Type 0 = λ us. AreWeightsOf d.quotient d.file.irreps (exact_weights (map weights_in us)) in
    let w = subst W (sym c.deref.ensures.value) (weights-are d.quotient d.file.irreps c.args.file.irreps.items c.requires.file) in
    found-wide-by extra_amps_of AreExtraAmpsHeld RefusesAtoms (AreWideAllBy (extra_space n) 8) (HaveOrbitModesBy (extra_space n)) (AfterModes n d.file.format) d c.in-Refused.refusal
    (found-wide (extra_space n) 8 3 d c.quotient.result.now c.args.orbits (exact_weights (map weights_in c.deref.result.now)) c.in-Refused.refusal c.quotient.ensures c.requires.orbits w
    (rw c.in-Refused.is at c.in_ok-modes.ensures))
