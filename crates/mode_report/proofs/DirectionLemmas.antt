-- The modes that a stabiliser leaves, by the program's values.
use Rattle.std.proofs.Common.{◌≡◌, refl, inl, inr, ℕ, zero, suc, ◌<◌, List, [], ◌∷◌, length, get_or, arith, Some, slice_get}
use Rattle.std.proofs.lemmas.List.{length-map}
use Rattle.std.proofs.lemmas.Option.{get_or_from_slice_get, slice_get_within}
use Rattle.cyclo24.specs.FieldOn.{FieldOn}
use Rattle.cyclo24.specs.declared.k24.K24.{K24}
use Rattle.cyclo24.specs.ExactK24.{Exact24, k24_laws}
use Rattle.cyclo24.specs.K24.{exact24}
use Rattle.lin_alg.specs.Rows.{vector}
use Rattle.super_group.specs.Quotient.{SupercellGroup}
use Rattle.wyckoff.specs.Orbit.{OrbitView}
use Rattle.mode_project.specs.Modes.{vector_at}
use Rattle.mode_project.specs.Weights.{exact_weights}
use Rattle.report_steps.specs.Steps.{OrWide}
use Rattle.report_steps.specs.declared.refusal.Refusal.{Refusal}
use Rattle.mode_report.specs.DirectionHeld.{IsWideIrrep, IsWideOnOrbit, IsWideOnSome}
use Rattle.mode_report.specs.Held.{RefusesNothing}

-- the vector at a place of a list
pub vector-in : {K : Type 0} (f : FieldOn K) (ws : List (ℕ → K)) (j : ℕ) (w : ℕ → K) → j < length ws → get_or ws j w ≡ vector_at f ws j
vector-in f [] j w l = absurd (omega arith)
vector-in f (v ∷ ws) zero w l = refl
vector-in f (v ∷ ws) (suc j) w l = vector-in f ws j w (omega arith)

-- there are as many weights as lists
pub weights-count : (lists : List (List K24)) → length (exact_weights lists) ≡ length lists
weights-count lists = length-map lists (vector k24_laws exact24)

-- a number of the modes of some irrep
pub wide-irrep : (q : SupercellGroup) (h : List ℕ) (ws : List (ℕ → Exact24)) (o : OrbitView) (j : ℕ) (r : Refusal) → j < length ws → OrWide RefusesNothing (IsWideIrrep q h o) (vector_at k24_laws ws j) r
    → OrWide RefusesNothing (IsWideOnOrbit q h ws) o r
wide-irrep q h ws o j r l (inl x) = absurd x
wide-irrep q h ws o j r l (inr (k, x, e)) = let w = vector_at k24_laws ws j in inr (k, (w, (j, l, vector-in k24_laws ws j w l), x), e)

-- or of some orbit
pub wide-orbit : (q : SupercellGroup) (h : List ℕ) (ws : List (ℕ → Exact24)) (orbits : List OrbitView) (i : ℕ) (o : OrbitView) (r : Refusal) → slice_get orbits i ≡ Some o
    → OrWide RefusesNothing (IsWideOnOrbit q h ws) o r → OrWide RefusesNothing (IsWideOnSome q h ws) orbits r
wide-orbit q h ws orbits i o r s (inl x) = absurd x
wide-orbit q h ws orbits i o r s (inr (k, x, e)) = inr (k, (o, (i, slice_get_within orbits i o s, get_or_from_slice_get orbits i o o s), x), e)
