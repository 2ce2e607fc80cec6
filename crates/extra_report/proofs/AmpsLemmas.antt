-- What the program holds of amounts and their amplitudes, as the definitions name it.
use Rattle.std.proofs.Common.{◌≡◌, sym, ◌∙◌, inl, inr, ℕ, ◌*◌, List, [], length, get_or, arith, Some, slice_get}
use Rattle.std.proofs.lemmas.Option.{slice_get_within}
use Rattle.std.proofs.lemmas.List.{length-map}
use Rattle.cyclo24.specs.ExactK24.{Exact24}
use Rattle.wyckoff.specs.Orbit.{OrbitView}
use Rattle.mode_project.specs.ModesView.{ModesView}
use Rattle.extra_modes.specs.Amounts.{labelled, AmountsView, AreAmounts}
use Rattle.extra_modes.specs.ExtraAmplitudes.{amounts_of}
use Rattle.extra_modes.specs.ExtraSpace.{extra_space}
use Rattle.extra_modes.specs.declared.nature.Nature.{Nature}
use Rattle.report_steps.specs.Contexts.{Divided}
use Rattle.report_steps.specs.Steps.{OrWide}
use Rattle.report_steps.specs.declared.refusal.Refusal.{Refusal}
use Rattle.mode_report.specs.Held.{RefusesNothing}
use Rattle.mode_report.specs.ModesReport.{each_of}
use Rattle.amp_report.specs.AmpsHeldLaws as held
use Rattle.amp_report.specs.Held.{moded_in, AreModesHeldBy, IsWideRowBy, IsWideSomeRowBy}
use Rattle.extra_report.specs.ExtraAmpsFound.{naming_in, AreSolvable, AreWideExtraAmps}
use Rattle.extra_report.specs.ExtraReport.{entries_of}
use Rattle.extra_report.proofs.SpaceLemmas.{sized, labelled_at}

pub wide-row : (all : List ModesView) (v : ℕ → ℕ → Exact24) (n : ℕ) (m : ModesView) (r : Refusal) → slice_get all n ≡ Some m → OrWide RefusesNothing (IsWideRowBy 9 v n) m r
    → OrWide RefusesNothing (IsWideSomeRowBy 9 all) v r
wide-row all v n m r s (inl h) = absurd h
wide-row all v n m r s (inr (k, w, e)) = inr (k, held.rows-wide-some 9 all v n m k s w, e)

module _ (nature : Nature) (d : Divided) (orbits : List OrbitView) (all : List ModesView) (h : AreModesHeldBy (extra_space nature) (each_of (entries_of nature)) d orbits all) where
  pub amounts-solvable : (v : AmountsView) → AreAmounts (naming_in nature d orbits) (each_of (entries_of nature)) v → AreSolvable all v
  amounts-solvable v x = record {
    below = λ n m s.
        let l = slice_get_within all n m s in
        let c = held.count (extra_space nature) (each_of (entries_of nature)) d orbits all h in
        let e = x.orbits ∙ length-map orbits labelled in
        omega (arith, l, c, e);
    atoms = λ n m s.
        let o = held.size-at (extra_space nature) (each_of (entries_of nature)) d orbits all h n m s in
        let e : length (get_or v.atoms n []) ≡ length o.0.places = x.atoms n (labelled o.0) (labelled_at orbits n o.0 o.1) in
        (λ i. e i * x.each_is i) ∙ sym o.2;
    modes = λ n m s. held.some-at (extra_space nature) (each_of (entries_of nature)) d orbits all h (sized nature) n m s;
  }

  pub amps-wide : (v : AmountsView) (r : Refusal) → OrWide RefusesNothing (IsWideSomeRowBy 9 all) (amounts_of v) r
      → OrWide RefusesNothing (AreWideExtraAmps nature) (record { moded = moded_in d orbits all; amounts = v }) r
  amps-wide v r (inl x) = absurd x
  amps-wide v r (inr (k, w, e)) = inr (k, held.rows-wide (extra_space nature) (each_of (entries_of nature)) d orbits all h 9 (amounts_of v) k w, e)
