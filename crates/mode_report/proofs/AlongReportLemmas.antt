-- What is told of the orbits and their modes along a direction, one by one.
use Rattle.std.proofs.Common.{◌≡◌, refl, sym, ap, ◌∙◌, subst, ℕ, ◌<◌, List, [], ◌∷◌, length, get_or, map, arith, Some, slice_get}
use Rattle.std.specs.List.{All}
use Rattle.std.specs.declared.vec.Vec.{Vec}
use Rattle.std.proofs.lemmas.Option.{slice_get-get_or, slice_get_within}
use Rattle.cyclo24.specs.declared.k24.K24.{K24}
use Rattle.iso_text.specs.declared.sections.IrrepText.{IrrepText}
use Rattle.lin_alg.specs.Matrix.{MatrixView}
use Rattle.report_steps.specs.IrrepSteps.{Each}
use Rattle.wyckoff.specs.Orbit.{OrbitView}
use Rattle.mode_report.specs.DirectionHeld.{AreFit, along_of, along_in, named_matrices}
use Rattle.mode_report.specs.Parts.{mode_counts}
use Rattle.mode_report.specs.Told.{OrbitModes}
use Rattle.mode_report.proofs.DirectionReportLemmas.{along-at, along-length}
use Rattle.mode_report.proofs.EachLemmas.{each-second}

module _ {Z : Type 0} (irreps : List IrrepText) where
  abbrev pub rows_in : Vec (MatrixView K24) Z → ℕ
  rows_in ms = length (named_matrices irreps ms.items)

  -- a matrix for each irrep
  pub fit-counts : (orbits : List OrbitView) (all : List (Vec (MatrixView K24) Z)) → Each (AreFit irreps) orbits all → All (λ (ms : Vec (MatrixView K24) Z). length irreps ≡ length ms.items) all
  fit-counts orbits all h = each-second (AreFit irreps) (λ (ms : Vec (MatrixView K24) Z). length irreps ≡ length ms.items) orbits all (λ o ms f. f.count) h

  -- how many modes each orbit has
  pub counts-along : (orbits : List OrbitView) (all : List (Vec (MatrixView K24) Z)) → Each (AreFit irreps) orbits all → map rows_in all ≡ mode_counts (along_in irreps orbits all)
  counts-along [] [] h = refl
  counts-along [] (ms ∷ all) h = absurd h
  counts-along (o ∷ orbits) [] h = absurd h
  counts-along (o ∷ orbits) (ms ∷ all) h = ap (λ t. rows_in ms ∷ t) (counts-along orbits all h.1)

  -- the same by the program's counts
  pub counted : (orbits : List OrbitView) (all given : List (Vec (MatrixView K24) Z)) (counts : List ℕ) → given ≡ all → (All (λ (ms : Vec (MatrixView K24) Z). length irreps ≡ length ms.items) given → counts ≡ map rows_in given)
      → Each (AreFit irreps) orbits all → counts ≡ mode_counts (along_in irreps orbits all)
  counted orbits all given counts e h f =
      let P : List (Vec (MatrixView K24) Z) → Type 0 = λ xs. All (λ (ms : Vec (MatrixView K24) Z). length irreps ≡ length ms.items) xs in
      h (subst P (sym e) (fit-counts orbits all f)) ∙ ap (map rows_in) e ∙ counts-along orbits all f

  -- what is told of orbit i
  pub along-some : (orbits : List OrbitView) (all : List (Vec (MatrixView K24) Z)) (i : ℕ) (o : OrbitView) (ms : Vec (MatrixView K24) Z) → length orbits ≡ length all → slice_get orbits i ≡ Some o → ms ≡ get_or all i ms → i < length all
      → slice_get (along_in irreps orbits all) i ≡ Some (along_of irreps o ms.items)
  along-some orbits all i o ms n s e l =
      let d = along_of irreps o ms.items in
      let told = along_in irreps orbits all in
      let count = along-length irreps orbits all n in
      slice_get-get_or told i d (omega (arith, l, count)) ∙ ap (λ t. Some t) (sym (along-at irreps orbits all i o ms d s l e (omega (arith, l, n))))

  -- an orbit of which something is told
  pub along-inside : (orbits : List OrbitView) (all : List (Vec (MatrixView K24) Z)) (i : ℕ) (o : OrbitModes) → length orbits ≡ length all → slice_get (along_in irreps orbits all) i ≡ Some o → i < length all
  along-inside orbits all i o n s =
      let count = along-length irreps orbits all n in
      let l = slice_get_within (along_in irreps orbits all) i o s in
      omega (arith, l, count)
