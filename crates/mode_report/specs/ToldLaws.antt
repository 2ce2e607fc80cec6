-- What is told of the modes that the program holds, counted.
--
-- modes-length, counts-told: how many modes an orbit has, and each of all orbits
-- told-length: as many orbits are told of as have modes
-- told-inside, mode-inside: an orbit, and a mode, of which something is told
use Rattle.std.proofs.Common.{◌≡◌, refl, sym, ap, ◌∙◌, subst, ℕ, suc, ◌+◌, ◌<◌, List, [], ◌∷◌, length, map, arith, Some, slice_get}
use Rattle.std.specs.Prelude.{codes}
use Rattle.std.proofs.lemmas.List.{length-append, length-map}
use Rattle.std.proofs.lemmas.Option.{same_Some, slice_get_within}
use Rattle.cyclo24.specs.ExactK24.{Exact24, k24_laws}
use Rattle.iso_text.specs.declared.sections.IrrepText.{IrrepText}
use Rattle.lin_alg.specs.Equations.{unit_vector}
use Rattle.mode_project.specs.ModesView.{ModesView, irrep_modes_in, count_in}
use Rattle.wyckoff.specs.Orbit.{OrbitView}
use Rattle.mode_report.specs.AllModes.{named, told_modes, told_sites}
use Rattle.mode_report.specs.Held.{told_in}
use Rattle.mode_report.specs.ModesHeldLaws.{exact-length}
use Rattle.mode_report.specs.Parts.{mode_counts, IsModePart}
use Rattle.mode_report.specs.Told.{OrbitModes}
use Rattle.mode_report.specs.declared.moves.AtomEntries.{AtomEntries}

pub modes-length : (irreps : List IrrepText) (v : ModesView) → count_in v ≡ length (told_modes irreps (irrep_modes_in v) v.sites)
modes-length irreps v =
    let g : ℕ → List ℕ × (ℕ → Exact24) = λ c. (codes "site", unit_vector k24_laws c) in
    let one : length (map (named irreps) (irrep_modes_in v)) ≡ length v.rows = length-map (irrep_modes_in v) (named irreps) ∙ exact-length v.rows in
    let two : length (told_sites v.sites) ≡ length v.sites = length-map v.sites g in
    sym (length-append (map (named irreps) (irrep_modes_in v)) (told_sites v.sites) ∙ (λ j. one j + two j))

pub counts-told : (irreps : List IrrepText) (orbits : List OrbitView) (all : List ModesView) → length orbits ≡ length all → map count_in all ≡ mode_counts (told_in irreps orbits all)
counts-told irreps [] [] h = refl
counts-told irreps [] (v ∷ all) h = absurd (omega arith)
counts-told irreps (o ∷ orbits) [] h = absurd (omega arith)
counts-told irreps (o ∷ orbits) (v ∷ all) h = λ j. modes-length irreps v j ∷ counts-told irreps orbits all (omega arith) j

pub told-length : (irreps : List IrrepText) (orbits : List OrbitView) (all : List ModesView) → length orbits ≡ length all → length (told_in irreps orbits all) ≡ length all
told-length irreps [] [] e = refl
told-length irreps [] (y ∷ all) e = absurd (omega arith)
told-length irreps (x ∷ orbits) [] e = refl
told-length irreps (x ∷ orbits) (y ∷ all) e = ap suc (told-length irreps orbits all (omega arith))

pub told-inside : (irreps : List IrrepText) (orbits : List OrbitView) (all : List ModesView) (i : ℕ) (o : OrbitModes) → length orbits ≡ length all → slice_get (told_in irreps orbits all) i ≡ Some o → i < length all
told-inside irreps orbits all i o h s =
    let count = told-length irreps orbits all h in
    let l = slice_get_within (told_in irreps orbits all) i o s in
    omega (arith, l, count)

pub mode-inside : (e : AtomEntries) (told rest : List OrbitModes) (i m : ℕ) (text : List ℕ) → rest ≡ told → IsModePart e told i m text → (o : OrbitModes) → slice_get rest i ≡ Some o → m < length o.modes
mode-inside e told rest i m text t h o s =
    let same : h.0 ≡ o = same_Some h.0 o (sym h.1 ∙ ap (λ (xs : List OrbitModes). slice_get xs i) (sym t) ∙ s) in
    subst (λ (q : OrbitModes). m < length q.modes) same (slice_get_within h.0.modes m h.2.0 h.2.1)
