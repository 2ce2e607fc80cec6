-- The modes of an orbit, one by one.
use Rattle.std.proofs.Common.{◌≡◌, sym, ap, ◌∙◌, ℕ, ◌-◌, ◌<◌, ◌≤◌, List, [], length, get_or, map, arith, Some, slice_get}
use Rattle.std.specs.Prelude.{codes}
use Rattle.std.proofs.lemmas.List.{length-map}
use Rattle.std.proofs.lemmas.Option.{same_Some, slice_get-get_or}
use Rattle.cyclo24.specs.ExactK24.{Exact24, k24_laws}
use Rattle.cyclo24.specs.K24.{exact24}
use Rattle.iso_text.specs.declared.sections.IrrepText.{IrrepText}
use Rattle.lin_alg.specs.Equations.{unit_vector}
use Rattle.lin_alg.specs.Rows.{vector}
use Rattle.mode_project.specs.ModesView.{ModesView, irrep_modes_in, count_in}
use Rattle.report_buffer.specs.PieceLaws.{made-piece}
use Rattle.wyckoff.specs.Orbit.{OrbitView}
use Rattle.mode_report.specs.AllModes.{named, told_modes, told_sites}
use Rattle.mode_report.specs.Held.{told_of, told_in}
use Rattle.mode_report.specs.ModesHeldLaws.{exact-length}
use Rattle.mode_report.specs.ToldLaws.{told-length}
use Rattle.mode_report.proofs.ListLemmas.{back-at, front-at}
use Rattle.mode_report.proofs.ReportLemmas.{exact-row, told-at}

-- a mode of an irrep
pub irrep-told : (irreps : List IrrepText) (v : ModesView) (m : ℕ) (x : List ℕ × (ℕ → Exact24)) → m < length v.rows → slice_get (told_modes irreps (irrep_modes_in v) v.sites) m ≡ Some x
    → (r : ℕ × (ℕ → Exact24)) × (slice_get (irrep_modes_in v) m ≡ Some r) × (named irreps r ≡ x)
irrep-told irreps v m x l e =
    let row = get_or v.rows m (0, []) in
    let r : ℕ × (ℕ → Exact24) = (row.0, vector k24_laws exact24 row.1) in
    let at = exact-row v.rows m l in
    let here = front-at (map (named irreps) (irrep_modes_in v)) (told_sites v.sites) m (named irreps r) (made-piece (named irreps) (irrep_modes_in v) m r at) in
    (r, at, same_Some (named irreps r) x (sym here ∙ e))

-- a mode of no irrep
pub site-told : (irreps : List IrrepText) (v : ModesView) (m : ℕ) (x : List ℕ × (ℕ → Exact24)) → length v.rows ≤ m → m < count_in v → slice_get (told_modes irreps (irrep_modes_in v) v.sites) m ≡ Some x
    → (c : ℕ) × (slice_get v.sites (m - length v.rows) ≡ Some c) × ((codes "site", unit_vector k24_laws c) ≡ x)
site-told irreps v m x l k e =
    let g : ℕ → List ℕ × (ℕ → Exact24) = λ c. (codes "site", unit_vector k24_laws c) in
    let i = m - length v.rows in
    let inside : i < length v.sites = omega (arith, l, k) in
    let c = get_or v.sites i 0 in
    let at = slice_get-get_or v.sites i 0 inside in
    let xs = map (named irreps) (irrep_modes_in v) in
    let count : length xs ≡ length v.rows = length-map (irrep_modes_in v) (named irreps) ∙ exact-length v.rows in
    let past : length xs ≤ m = omega (arith, l, count) in
    let here = back-at xs (told_sites v.sites) m past ∙ ap (λ n. slice_get (told_sites v.sites) (m - n)) count ∙ made-piece g v.sites i c at in
    (c, at, same_Some (g c) x (sym here ∙ e))

-- what is told of orbit i
pub told-some : (irreps : List IrrepText) (orbits : List OrbitView) (all : List ModesView) (i : ℕ) (o : OrbitView) (v : ModesView) → length orbits ≡ length all → slice_get orbits i ≡ Some o → v ≡ get_or all i v → i < length all
    → slice_get (told_in irreps orbits all) i ≡ Some (told_of irreps o v)
told-some irreps orbits all i o v n s e l =
    let d = told_of irreps o v in
    let told = told_in irreps orbits all in
    let count = told-length irreps orbits all n in
    slice_get-get_or told i d (omega (arith, l, count)) ∙ ap (λ t. Some t) (sym (told-at irreps orbits all i o v d s l e (omega (arith, l, n))))
