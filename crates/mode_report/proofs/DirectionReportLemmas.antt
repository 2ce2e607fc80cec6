-- What is told of the orbits along a direction, orbit by orbit.
use Rattle.std.proofs.Common.{◌≡◌, sym, ap, subst, ℕ, zero, suc, ◌<◌, List, [], ◌∷◌, length, get_or, arith, refl, Some, slice_get}
use Rattle.std.proofs.lemmas.Option.{get_or_from_slice_get}
use Rattle.std.specs.declared.vec.Vec.{Vec}
use Rattle.cyclo24.specs.declared.k24.K24.{K24}
use Rattle.iso_text.specs.declared.sections.IrrepText.{IrrepText}
use Rattle.lin_alg.specs.Matrix.{MatrixView}
use Rattle.wyckoff.specs.Orbit.{OrbitView}
use Rattle.report_steps.specs.EachLaws.{each-at}
use Rattle.report_steps.specs.IrrepSteps.{Each}
use Rattle.mode_report.specs.DirectionHeld.{AreFit, along_of, along_in}
use Rattle.mode_report.specs.Told.{OrbitModes}

-- what is told of orbit i
pub along-at : {Z : Type 0} (irreps : List IrrepText) (orbits : List OrbitView) (all : List (Vec (MatrixView K24) Z)) (i : ℕ) (o : OrbitView) (ms : Vec (MatrixView K24) Z) (d : OrbitModes)
    → slice_get orbits i ≡ Some o → i < length all → ms ≡ get_or all i ms → i < length orbits → along_of irreps o ms.items ≡ get_or (along_in irreps orbits all) i d
along-at irreps [] all i o ms d s l e k = absurd (omega arith)
along-at irreps (x ∷ orbits) [] i o ms d s l e k = absurd (omega arith)
along-at irreps (x ∷ orbits) (y ∷ all) zero o ms d s l e k = (λ j. along_of irreps (sym (get_or_from_slice_get (x ∷ orbits) 0 o o s) j) (e j).items)
along-at irreps (x ∷ orbits) (y ∷ all) (suc i) o ms d s l e k = along-at irreps orbits all i o ms d s (omega arith) e (omega arith)

pub along-length : {Z : Type 0} (irreps : List IrrepText) (orbits : List OrbitView) (all : List (Vec (MatrixView K24) Z)) → length orbits ≡ length all → length (along_in irreps orbits all) ≡ length all
along-length irreps [] [] e = refl
along-length irreps [] (y ∷ all) e = absurd (omega arith)
along-length irreps (x ∷ orbits) [] e = refl
along-length irreps (x ∷ orbits) (y ∷ all) e = ap suc (along-length irreps orbits all (omega arith))

-- the matrices of one orbit
pub fit-at : {Z : Type 0} (irreps : List IrrepText) (orbits : List OrbitView) (all : List (Vec (MatrixView K24) Z)) (i : ℕ) (o : OrbitView) (ms : Vec (MatrixView K24) Z) → i < length orbits
    → slice_get orbits i ≡ Some o → ms ≡ get_or all i ms → Each (AreFit irreps) orbits all → AreFit irreps o ms
fit-at {Z} irreps orbits all i o ms l e s h =
    let P : OrbitView → Type 0 = λ x. AreFit irreps x (get_or all i ms) in
    let Q : Vec (MatrixView K24) Z → Type 0 = λ x. AreFit irreps o x in
    subst Q (sym s) (subst P (get_or_from_slice_get orbits i o o e) (each-at (AreFit irreps) orbits all i o ms l h))
