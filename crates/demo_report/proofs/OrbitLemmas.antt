-- The lines of the orbits that the program holds, and those in front of them.
use Rattle.std.proofs.Common.{◌≡◌, refl, sym, ap, ◌∙◌, ℕ, zero, suc, ◌+◌, ◌<◌, List, [], ◌∷◌, ◌++◌, length, get_or, map, Some, slice_get, arith}
use Rattle.std.specs.List.{enumerate_from}
use Rattle.std.proofs.lemmas.Option.{get_or_from_slice_get, slice_get-get_or}
use Rattle.iso_text.specs.declared.sections.IrrepText.{IrrepText}
use Rattle.wyckoff.specs.Orbit.{OrbitView}
use Rattle.mode_project.specs.ModesView.{ModesView}
use Rattle.report_buffer.specs.PieceLaws.{numbered-piece}
use Rattle.mode_report.specs.Held.{told_of, told_in}
use Rattle.mode_report.specs.Told.{OrbitModes}
use Rattle.demo_report.specs.DemoReport.{title_line, size_line, count_line, orders_line, front_text, orbit_line}

-- what is told of orbit i
told-at : (irreps : List IrrepText) (orbits : List OrbitView) (all : List ModesView) (i : ℕ) (o : OrbitView) (m : ModesView) (d : OrbitModes) → slice_get orbits i ≡ Some o → i < length orbits → i < length all
    → m ≡ get_or all i m → told_of irreps o m ≡ get_or (told_in irreps orbits all) i d
told-at irreps [] all i o m d s k l e = absurd (omega arith)
told-at irreps (x ∷ orbits) [] i o m d s k l e = absurd (omega arith)
told-at irreps (x ∷ orbits) (y ∷ all) zero o m d s k l e = (λ j. told_of irreps (sym (get_or_from_slice_get (x ∷ orbits) 0 o o s) j) (e j))
told-at irreps (x ∷ orbits) (y ∷ all) (suc i) o m d s k l e = told-at irreps orbits all i o m d s (omega arith) (omega arith) e

pub told-length : (irreps : List IrrepText) (orbits : List OrbitView) (all : List ModesView) → length orbits ≡ length all → length (told_in irreps orbits all) ≡ length all
told-length irreps [] [] e = refl
told-length irreps [] (y ∷ all) e = absurd (omega arith)
told-length irreps (x ∷ orbits) [] e = refl
told-length irreps (x ∷ orbits) (y ∷ all) e = ap suc (told-length irreps orbits all (omega arith))

-- the line of orbit i
pub orbit-at : (irreps : List IrrepText) (orbits : List OrbitView) (all : List ModesView) (i : ℕ) (o : OrbitView) (m : ModesView) → length orbits ≡ length all → slice_get orbits i ≡ Some o → i < length all → m ≡ get_or all i m
    → slice_get (map orbit_line (enumerate_from 1 (told_in irreps orbits all))) i ≡ Some (orbit_line (i + 1, told_of irreps o m))
orbit-at irreps orbits all i o m c s l e =
    let told = told_in irreps orbits all in
    let d = told_of irreps o m in
    let count = told-length irreps orbits all c in
    let here = slice_get-get_or told i d (omega (arith, count, l)) ∙ ap (λ x. Some x) (sym (told-at irreps orbits all i o m d s (omega (arith, c, l)) l e)) in
    let k : 1 + i ≡ i + 1 = omega arith in
    numbered-piece orbit_line 1 told i d here ∙ ap (λ j. Some (orbit_line (j, d))) k

-- the lines in front of the orbits, one after the other
pub front-joined : (format number order dim count : ℕ) (orders : List ℕ) (t0 t1 t2 t3 : List ℕ) → count ≡ length orders → t0 ≡ title_line format number → t1 ≡ t0 ++ size_line order dim
    → t2 ≡ t1 ++ count_line count → t3 ≡ t2 ++ orders_line orders → t3 ≡ front_text format number order dim orders
front-joined format number order dim count orders t0 t1 t2 t3 n a b c d =
    d ∙ ap (λ t. t ++ orders_line orders) (c ∙ (λ j. (b ∙ ap (λ t. t ++ size_line order dim) a) j ++ count_line (n j)))
