-- The lines of the modes that the program holds, and of the orbits.
use Rattle.std.proofs.Common.{◌≡◌, refl, sym, ap, ◌∙◌, ℕ, zero, suc, ◌<◌, ◌≤◌, List, [], ◌∷◌, length, get_or, arith, Some, slice_get}
use Rattle.std.proofs.lemmas.Option.{get_or_from_slice_get, same_Some}
use Rattle.cyclo24.specs.declared.k24.K24.{K24}
use Rattle.cyclo24.specs.ExactK24.{Exact24, k24_laws}
use Rattle.cyclo24.specs.K24.{exact24}
use Rattle.iso_text.specs.declared.sections.IrrepText.{IrrepText}
use Rattle.lin_alg.specs.Rows.{vector, exact_rows}
use Rattle.wyckoff.specs.Orbit.{OrbitView}
use Rattle.mode_project.specs.ModesView.{ModesView}
use Rattle.mode_report.specs.AllModes.{name_at, named}
use Rattle.mode_report.specs.Held.{told_of, told_in}
use Rattle.mode_report.specs.Told.{OrbitModes}

pub name-inside : (irreps : List IrrepText) (j : ℕ) (d : IrrepText) → j < length irreps → (get_or irreps j d).name ≡ name_at irreps j
name-inside [] j d l = absurd (omega arith)
name-inside (x ∷ irreps) zero d l = refl
name-inside (x ∷ irreps) (suc j) d l = name-inside irreps j d (omega arith)

pub name-past : (irreps : List IrrepText) (j : ℕ) → length irreps ≤ j → [] ≡ name_at irreps j
name-past [] j l = refl
name-past (x ∷ irreps) zero l = absurd (omega arith)
name-past (x ∷ irreps) (suc j) l = name-past irreps j (omega arith)

-- a row as the program holds it
pub exact-row : (rows : List (ℕ × List K24)) (m : ℕ) → m < length rows → slice_get (exact_rows k24_laws exact24 rows) m ≡ Some ((get_or rows m (0, [])).0, vector k24_laws exact24 (get_or rows m (0, [])).1)
exact-row [] m l = absurd (omega arith)
exact-row (r ∷ rows) zero l = refl
exact-row (r ∷ rows) (suc m) l = exact-row rows m (omega arith)

-- a mode of an irrep
pub irrep-mode : (irreps : List IrrepText) (rows : List (ℕ × List K24)) (m : ℕ) (name : List ℕ) (row : List K24) (r : ℕ × (ℕ → Exact24)) → m < length rows → name ≡ name_at irreps (get_or rows m (0, [])).0
    → row ≡ (get_or rows m (0, [])).1 → slice_get (exact_rows k24_laws exact24 rows) m ≡ Some r → (name, vector k24_laws exact24 row) ≡ named irreps r
irrep-mode irreps rows m name row r l e h s = (λ j. (e j, vector k24_laws exact24 (h j))) ∙ ap (named irreps) (same_Some _ _ (sym (exact-row rows m l) ∙ s))

-- what is told of orbit i
pub told-at : (irreps : List IrrepText) (orbits : List OrbitView) (all : List ModesView) (i : ℕ) (o : OrbitView) (m : ModesView) (d : OrbitModes) → slice_get orbits i ≡ Some o → i < length all
    → m ≡ get_or all i m → i < length orbits → told_of irreps o m ≡ get_or (told_in irreps orbits all) i d
told-at irreps [] all i o m d s l e k = absurd (omega arith)
told-at irreps (x ∷ orbits) [] i o m d s l e k = absurd (omega arith)
told-at irreps (x ∷ orbits) (y ∷ all) zero o m d s l e k = (λ j. told_of irreps (sym (get_or_from_slice_get (x ∷ orbits) 0 o o s) j) (e j))
told-at irreps (x ∷ orbits) (y ∷ all) (suc i) o m d s l e k = told-at irreps orbits all i o m d s (omega arith) e (omega arith)
