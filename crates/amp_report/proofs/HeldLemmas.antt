-- What the program holds of displacements and their amplitudes, as the definitions name it.
use Rattle.std.proofs.Common.{◌≡◌, refl, inl, inr, ℕ, ℤ, List, arith, Some, slice_get}
use Rattle.std.proofs.lemmas.Option.{slice_get_within}
use Rattle.wyckoff.specs.Orbit.{OrbitView}
use Rattle.distort_match.specs.Outcomes.{AreShiftsOf}
use Rattle.mode_project.specs.AtomSpace.{displacements}
use Rattle.mode_project.specs.ModesView.{ModesView}
use Rattle.mode_project.specs.OrbitAmplitudes.{displacement_of}
use Rattle.report_steps.specs.Contexts.{Divided}
use Rattle.report_steps.specs.Steps.{OrWide}
use Rattle.report_steps.specs.declared.refusal.Refusal.{Refusal}
use Rattle.mode_report.specs.Held.{RefusesNothing}
use Rattle.amp_report.specs.AmpsFound.{matching_of, AreWideAmplitudes, RefusesNone}
use Rattle.amp_report.specs.AmpsHeldLaws as held
use Rattle.amp_report.specs.Held.{shifted_in, AreModesHeld, AreSolvable, IsWideRow, IsWideSomeRow}

module _ (d : Divided) (orbits : List OrbitView) (all : List ModesView) (h : AreModesHeld d orbits all) where
  pub modes-solvable : (shifts : List (List (List ℤ))) → AreShiftsOf (matching_of d orbits) shifts → AreSolvable all shifts
  modes-solvable shifts x = record {
    below = λ n m s. let l = slice_get_within all n m s in let c = held.count displacements 3 d orbits all h in let e = x.orbits in omega (arith, l, c, e);
    atoms = λ n m s.
        let o = held.size-at displacements 3 d orbits all h n m s in
        let e = x.atoms n o.0 o.1 in
        let z = o.2 in
        omega (arith, e, z);
    modes = λ n m s. held.some-at displacements 3 d orbits all h (λ q o. refl) n m s;
  }

  pub rows-wide : (shifts : List (List (List ℤ))) (r : Refusal) → OrWide RefusesNothing (IsWideSomeRow all) shifts r → OrWide RefusesNone AreWideAmplitudes (shifted_in d orbits all shifts) r
  rows-wide shifts r (inl x) = absurd x
  rows-wide shifts r (inr (k, w, e)) = inr (k, held.rows-wide displacements 3 d orbits all h 6 (displacement_of shifts) k w, e)

pub rows-wide-some : (all : List ModesView) (shifts : List (List (List ℤ))) (n : ℕ) (m : ModesView) (r : Refusal) → slice_get all n ≡ Some m → OrWide RefusesNothing (IsWideRow shifts n) m r → OrWide RefusesNothing (IsWideSomeRow all) shifts r
rows-wide-some all shifts n m r s (inl h) = absurd h
rows-wide-some all shifts n m r s (inr (k, w, e)) = inr (k, held.rows-wide-some 6 all (displacement_of shifts) n m k s w, e)
