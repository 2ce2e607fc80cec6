-- What `occ-amps` and `axial-amps` find in a file is one.
use Rattle.std.proofs.Common.{◌≡◌, refl, sym, ap, ◌∙◌, subst, ℕ, List, [], map, ext_get_or, arith}
use Rattle.std.proofs.lemmas.List.{length-map}
use Rattle.std.proofs.lemmas.Option.{get_or_from_slice_get}
use Rattle.cyclo24.specs.ExactK24.{Exact24}
use Rattle.wyckoff.specs.Orbit.{OrbitView}
use Rattle.extra_modes.specs.Amounts.{LabelledPlaces, labelled, Naming, AmountsView, AreAmounts, IsGatherCause}
use Rattle.extra_modes.specs.ExtraAmplitudes.{amounts_of}
use Rattle.extra_modes.specs.ExtraSpace.{extra_space}
use Rattle.extra_modes.specs.declared.errors.ExtraError.{ExtraError}
use Rattle.extra_modes.specs.declared.errors.ExtraError.TheVariants as extra_error
use Rattle.extra_modes.specs.declared.nature.Nature.{Nature}
use Rattle.report_steps.specs.Contexts.{Divided}
use Rattle.report_steps.specs.Finding.{report}
use Rattle.report_steps.specs.IrrepSteps.{Each}
use Rattle.report_steps.specs.StepLaws.{IsSingleAt, FindsOneAt, IsSingleFor, FindsOneFor, After-single-for}
use Rattle.report_steps.specs.Steps.{never}
use Rattle.report_steps.specs.declared.refusal.Refusal.{Refusal}
use Rattle.report_steps.specs.declared.refusal.Refusal.TheVariants as refusal
use Rattle.mode_report.specs.Atoms.{RefusesAtoms}
use Rattle.mode_report.specs.Held.{RefusesNothing}
use Rattle.mode_report.specs.ModesFound.{AreWideAllBy, AreToldBy}
use Rattle.mode_report.specs.ModesReport.{each_of}
use Rattle.mode_report.specs.OneWeightLaws.{InduceOne, HaveOneSpace, HaveOneBasis}
use Rattle.amp_report.specs.AmpListLaws.{there}
use Rattle.amp_report.specs.AmpsFound.{Moded, IsBasisBy, HaveOrbitModesBy}
use Rattle.amp_report.specs.OneAmplitudesLaws.{HaveOneList, amplitudes-one}
use Rattle.amp_report.specs.OneModesLaws.{AreOrbitsAlike, orbits-alike, moded-bases, modes-told}
use Rattle.extra_report.specs.ExtraAmpsFound.{naming_in, RefusesLines, RefusesGathering, Gathered, HaveAmounts, AreWideExtraAmps, HaveExtraAmps, IsAmpsReported, AfterAmounts, AfterModes, AreExtraAmpsFound}
use Rattle.extra_report.specs.ExtraReport.{entries_of, extra_amps_text}
use Rattle.extra_report.proofs.SpaceLemmas.{sized, labelled_at}

-- the laws of amounts
abbrev pub HaveOneAmounts : Type 0
HaveOneAmounts = (g : Naming) (each : ℕ) (v w : AmountsView) → AreAmounts g each v → AreAmounts g each w → v ≡ w

abbrev pub HaveOneCause : Type 0
HaveOneCause =
    (g : Naming) (e f : ExtraError) → IsGatherCause g e → IsGatherCause g f → (e ≡ extra_error.NoMemory → ⊥) → (f ≡ extra_error.NoMemory → ⊥) → e ≡ f

abbrev pub AreAmountsApart : Type 0
AreAmountsApart = (g : Naming) (each : ℕ) (v : AmountsView) (e : ExtraError) → AreAmounts g each v → IsGatherCause g e → e ≡ extra_error.NoMemory

-- ---- lines that are refused

abbrev refusal_by : ExtraError → Refusal
refusal_by (extra_error.Unmatched n) = refusal.Unmatched n
refusal_by (extra_error.Ambiguous n) = refusal.Ambiguous n
refusal_by _ = refusal.Wide 0

-- the cause that a refusal tells
record IsCauseOf (g : Naming) (r : Refusal) : Type 0 where
  error : ExtraError
  known : error ≡ extra_error.NoMemory → ⊥
  cause : IsGatherCause g error
  told : r ≡ refusal_by error

cause-of : (g : Naming) (r : Refusal) → RefusesLines g r → IsCauseOf g r
cause-of g (refusal.Unmatched n) h = record { error = extra_error.Unmatched n; known = λ e. cc; cause = h; told = refl }
cause-of g (refusal.Ambiguous n) h = record { error = extra_error.Ambiguous n; known = λ e. cc; cause = h; told = refl }
cause-of g _ h = absurd h

-- ---- alike orbits name their atoms alike

labels-one : (os us : List OrbitView) → AreOrbitsAlike os us → map labelled os ≡ map labelled us
labels-one os us a =
    let z : LabelledPlaces = record { label = []; places = [] } in
    let n = length-map os labelled in
    let m = length-map us labelled in
    let c = a.count in
    ext_get_or z (map labelled os) (map labelled us) (n ∙ sym c ∙ sym m)
    (λ i l.
    let o = there os i (omega (arith, l, n)) in
    let w = a.each i o.0 o.1 in
    get_or_from_slice_get (map labelled os) i (labelled o.0) z (labelled_at os i o.0 o.1) ∙ (λ j. record { label = w.label j; places = w.places j })
    ∙ sym (get_or_from_slice_get (map labelled us) i (labelled w.orbit) z (labelled_at us i w.orbit w.at)))

module _ (nature : Nature) (d : Divided) where
  abbrev numbers : ℕ
  numbers = each_of (entries_of nature)

  abbrev moded_of : List OrbitView → List (List (ℕ × (ℕ → Exact24)) × List ℕ) → Moded
  moded_of os bs = record { divided = d; orbits = os; bases = bs }

  abbrev gathered_of : List OrbitView → List (List (ℕ × (ℕ → Exact24)) × List ℕ) → AmountsView → Gathered
  gathered_of os bs x = record { moded = moded_of os bs; amounts = x }

  naming-one : (os us : List OrbitView) → AreOrbitsAlike os us → naming_in nature d os ≡ naming_in nature d us
  naming-one os us a = ap (λ (ls : List LabelledPlaces). record { d = d.quotient.d; orbits = ls; lines = (naming_in nature d os).lines }) (labels-one os us a)

  module _ (one : HaveOneAmounts) (causes : HaveOneCause) (apart : AreAmountsApart) (only : HaveOneList) (os us : List OrbitView) (bs : List (List (ℕ × (ℕ → Exact24)) × List ℕ)) (a : AreOrbitsAlike os us) where
    abbrev g : Naming
    g = naming_in nature d os

    other-lines : (r : Refusal) → RefusesLines (naming_in nature d us) r → RefusesLines g r
    other-lines r h = subst (λ n. RefusesLines n r) (sym (naming-one os us a)) h

    other-amounts : (v : AmountsView) → AreAmounts (naming_in nature d us) numbers v → AreAmounts g numbers v
    other-amounts v h = subst (λ n. AreAmounts n numbers v) (sym (naming-one os us a)) h

    refusals-one : (r s : Refusal) → RefusesLines g r → RefusesLines g s → r ≡ s
    refusals-one r s h k =
        let x = cause-of g r h in
        let y = cause-of g s k in
        x.told ∙ ap refusal_by (causes g x.error y.error x.cause y.cause x.known y.known) ∙ sym y.told

    not-both : (r : Refusal) (v : AmountsView) → RefusesLines g r → AreAmounts g numbers v → ⊥
    not-both r v h k = let x = cause-of g r h in x.known (apart g numbers v x.error k x.cause)

    gathering-single : IsSingleFor (RefusesGathering nature) (HaveAmounts nature) (moded_of os bs) (moded_of us bs)
    gathering-single = record {
      refusal = λ r s h k. refusals-one r s h (other-lines s k);
      first = λ r c h k. not-both r c.amounts h (other-amounts c.amounts k.1);
      second = λ r c h k. not-both r c.amounts (other-lines r k) h.1;
    }

    module _ (ws : List (ℕ → Exact24)) (e : Each (IsBasisBy (extra_space nature) d.quotient ws) os bs) where
      reports-one : (format : ℕ) (x : AmountsView) → FindsOneFor (AfterAmounts nature format) (gathered_of os bs x) (gathered_of us bs x)
      reports-one format x =
          After-single-for RefusesNothing (AreWideExtraAmps nature) (HaveExtraAmps nature) (IsAmpsReported nature format) (gathered_of os bs x) (gathered_of us bs x)
          (record { refusal = λ r s h k. absurd h; first = λ r c h k. absurd h; second = λ r c h k. absurd k })
          (λ all other h k f u m n v w.
          m ∙ ap (λ t. report (extra_amps_text nature format t)) (amplitudes-one (extra_space nature) numbers (sized nature) d os us bs a only ws e (amounts_of x) all other h k) ∙ sym n)

      gathered-one : (format : ℕ) (c f : Gathered) → HaveAmounts nature (moded_of os bs) c → HaveAmounts nature (moded_of us bs) f → FindsOneFor (AfterAmounts nature format) c f
      gathered-one format c f h k =
          let s : c.amounts ≡ f.amounts = one g numbers c.amounts f.amounts h.1 (other-amounts f.amounts k.1) in
          let first : gathered_of os bs c.amounts ≡ c = λ i. record { moded = sym h.0 i; amounts = c.amounts } in
          let second : gathered_of us bs c.amounts ≡ f = λ i. record { moded = sym k.0 i; amounts = s i } in
          let P : Gathered → Type 0 = λ z. FindsOneFor (AfterAmounts nature format) z (gathered_of us bs c.amounts) in
          let Q : Gathered → Type 0 = λ z. FindsOneFor (AfterAmounts nature format) c z in
          subst Q second (subst P first (reports-one format c.amounts))

      lines-one : (format : ℕ) → FindsOneFor (AfterModes nature format) (moded_of os bs) (moded_of us bs)
      lines-one format = After-single-for (RefusesGathering nature) never (HaveAmounts nature) (AfterAmounts nature format) (moded_of os bs) (moded_of us bs) gathering-single (gathered-one format)

  -- ---- orbits and modes

  module _ (single : IsSingleAt RefusesAtoms (AreToldBy (extra_space nature)) d) (induce : InduceOne d.quotient) (alike : HaveOneSpace (extra_space nature) d.quotient) (basis : HaveOneBasis) (one : HaveOneAmounts)
      (causes : HaveOneCause) (apart : AreAmountsApart) (only : HaveOneList) where
    moded-one : (format : ℕ) (m e : Moded) → HaveOrbitModesBy (extra_space nature) d m → HaveOrbitModesBy (extra_space nature) d e → FindsOneFor (AfterModes nature format) m e
    moded-one format m e h k =
        let s : m.bases ≡ e.bases = moded-bases (extra_space nature) d induce alike basis m e h k in
        let x = orbits-alike d.quotient d.file.atoms m.orbits e.orbits h.orbits.orbits k.orbits.orbits in
        let first : moded_of m.orbits m.bases ≡ m = λ i. record { divided = sym h.divided_is i; orbits = m.orbits; bases = m.bases } in
        let second : moded_of e.orbits m.bases ≡ e = λ i. record { divided = sym k.divided_is i; orbits = e.orbits; bases = s i } in
        let P : Moded → Type 0 = λ z. FindsOneFor (AfterModes nature format) z (moded_of e.orbits m.bases) in
        let Q : Moded → Type 0 = λ z. FindsOneFor (AfterModes nature format) m z in
        subst Q second (subst P first (lines-one one causes apart only m.orbits e.orbits m.bases x h.weights h.bases format))

    atoms-single : IsSingleFor RefusesAtoms (HaveOrbitModesBy (extra_space nature)) d d
    atoms-single = record {
      refusal = single.refusal;
      first = λ r m f h. let t = modes-told (extra_space nature) d m h in single.apart r t.0 f t.1;
      second = λ r m h f. let t = modes-told (extra_space nature) d m h in single.apart r t.0 f t.1;
    }

    pub amps-one : FindsOneAt (AreExtraAmpsFound nature) d
    amps-one =
        After-single-for RefusesAtoms (AreWideAllBy (extra_space nature) 8) (HaveOrbitModesBy (extra_space nature)) (AfterModes nature d.file.format) d d atoms-single (moded-one d.file.format)
