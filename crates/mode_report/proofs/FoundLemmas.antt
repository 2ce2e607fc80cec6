-- What the steps of the program find of a file.
use Rattle.std.proofs.Common.{◌≡◌, refl, sym, subst, inl, inr, ℕ, zero, suc, ◌<◌, List, [], ◌∷◌, length, arith, Some, slice_get}
use Rattle.std.specs.List.{All}
use Rattle.std.proofs.lemmas.Option.{get_or_from_slice_get}
use Rattle.iso_text.specs.declared.sections.AtomText.{AtomText}
use Rattle.super_group.specs.Quotient.{SupercellGroup}
use Rattle.wyckoff.specs.AtomLines.{AreAccepted, AreOrbitsOf, IsSameSite, IsTooLarge}
use Rattle.wyckoff.specs.Orbit.{OrbitView}
use Rattle.mode_project.specs.AtomSpace.{IsOrbit}
use Rattle.report_steps.specs.Contexts.{Divided}
use Rattle.report_steps.specs.declared.refusal.Refusal.TheVariants as refusal
use Rattle.mode_report.specs.Atoms.{RefusesAtoms}
use Rattle.mode_report.specs.Held.{AreOrbitsHeld}

-- ---- orbits

there : {X : Type 0} (xs : List X) (k : ℕ) → k < length xs → (x : X) × (slice_get xs k ≡ Some x)
there [] k l = absurd (omega arith)
there (x ∷ xs) zero l = (x, refl)
there (x ∷ xs) (suc k) l = there xs k (omega arith)

each-orbit : (q : SupercellGroup) (atoms : List AtomText) (orbits : List OrbitView) → AreOrbitsOf q atoms orbits → All (IsOrbit q) orbits
each-orbit q atoms orbits h k d l =
    let count = h.count in
    let a = there atoms k (omega (arith, l, count)) in
    let o = there orbits k l in
    subst (IsOrbit q) (sym (get_or_from_slice_get orbits k o.0 d o.1)) (record { atom = a.0; of = h.each k a.0 o.0 a.1 o.1 })

pub orbits-held : (d : Divided) (q : SupercellGroup) (atoms : List AtomText) (orbits : List OrbitView) → q ≡ d.quotient → atoms ≡ d.file.atoms → AreOrbitsOf q atoms orbits → AreAccepted q atoms (length atoms)
    → AreOrbitsHeld d orbits
orbits-held d q atoms orbits e f h a =
    let P : SupercellGroup → Type 0 = λ s. AreOrbitsOf s atoms orbits in
    let Q : List AtomText → Type 0 = λ xs. AreOrbitsOf d.quotient xs orbits in
    let S : SupercellGroup → Type 0 = λ s. AreAccepted s atoms (length atoms) in
    let T : List AtomText → Type 0 = λ xs. AreAccepted d.quotient xs (length xs) in
    let o = subst Q f (subst P e h) in
    (record { accepted = subst T f (subst S e a); orbits = o; divided_is = refl }, each-orbit d.quotient d.file.atoms orbits o)

pub same-site : (d : Divided) (q : SupercellGroup) (atoms : List AtomText) (a b : ℕ) → q ≡ d.quotient → atoms ≡ d.file.atoms → IsSameSite q atoms a b → RefusesAtoms d (refusal.SameSite a b)
same-site d q atoms a b e f h =
    let P : SupercellGroup → Type 0 = λ s. IsSameSite s atoms a b in
    let Q : List AtomText → Type 0 = λ xs. IsSameSite d.quotient xs a b in
    inl (a, b, subst Q f (subst P e h), refl)

pub too-large : (d : Divided) (q : SupercellGroup) (atoms : List AtomText) (n size : ℕ) → q ≡ d.quotient → atoms ≡ d.file.atoms → IsTooLarge q atoms n size → RefusesAtoms d (refusal.TooManyAtoms n size)
too-large d q atoms n size e f h =
    let P : SupercellGroup → Type 0 = λ s. IsTooLarge s atoms n size in
    let Q : List AtomText → Type 0 = λ xs. IsTooLarge d.quotient xs n size in
    inr (n, size, subst Q f (subst P e h), refl)
