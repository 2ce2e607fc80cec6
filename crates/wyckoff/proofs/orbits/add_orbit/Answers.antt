use Rattle.std.proofs.Common.{◌≡◌, refl, sym, ap, ◌∙◌, subst, ℕ, ◌<◌, List, length, Some, slice_get}
use Rattle.std.proofs.lemmas.Option.{slice_get_read, slice_get_within}
use Rattle.std.specs.List.{All}
use Rattle.space_ops.specs.Op.{vector_of, shift_of}
use Rattle.wyckoff.specs.Places.{reduced_place}
use Rattle.wyckoff.specs.AtomLines.{IsSameSite}
use Rattle.wyckoff.specs.Orbit.{OrbitView}
use Rattle.wyckoff.specs.OrbitParts.{IsRising, AreShaped, HasPlace}
use Rattle.wyckoff.proofs.LineLemmas.{orbits-rising, orbits-shaped, orbit-with, place-moved, new-orbit, same-site}
use Rattle.wyckoff.proofs.orbits.add_orbit.Goals as goal

pub first_with-requires-clause-rising : goal.first_with-requires-clause-rising
first_with-requires-clause-rising c =
    let s = c.args.quotient.now in
    let atoms = c.args.atoms.now in
    let atom = c.index-atoms-n.result in
    let at : slice_get atoms c.args.n ≡ Some atom = slice_get_read atoms (length atoms) c.args.n atom refl c.requires.line c.index-atoms-n.is in
    subst (λ (os : List OrbitView). All (λ (o : OrbitView). IsRising o.places) os) (sym c.deref.ensures.value)
    (orbits-rising s c.requires.quotient atoms c.args.n atom at c.args.orbits.now.items c.requires.orbits)

pub first_with-requires-clause-shaped : goal.first_with-requires-clause-shaped
first_with-requires-clause-shaped c =
    let s = c.args.quotient.now in
    let atoms = c.args.atoms.now in
    let atom = c.index-atoms-n.result in
    let at : slice_get atoms c.args.n ≡ Some atom = slice_get_read atoms (length atoms) c.args.n atom refl c.requires.line c.index-atoms-n.is in
    subst (λ (os : List OrbitView). All (λ (o : OrbitView). AreShaped o.places) os) (sym c.deref.ensures.value)
    (orbits-shaped s c.requires.quotient atoms c.args.n atom at c.args.orbits.now.items c.requires.orbits)

pub index-requires : goal.index-requires
index-requires c =
    let p = c.in-Some.ensures.0 in
    subst (λ n. c.in-Some.i < n) c.deref.ensures.len (slice_get_within c.deref.result.now c.in-Some.i p.orbit p.is)

pub add_new_orbit-requires-clause-new : goal.add_new_orbit-requires-clause-new
add_new_orbit-requires-clause-new c =
    let s = c.args.quotient.now in
    let atoms = c.args.atoms.now in
    let atom = c.index-atoms-n.result in
    let at : slice_get atoms c.args.n ≡ Some atom = slice_get_read atoms (length atoms) c.args.n atom refl c.requires.line c.index-atoms-n.is in
    let orbits = c.args.orbits.now.items in
    let place : c.reduced.result ≡ shift_of (reduced_place s.d (vector_of atom.place)) =
    c.reduced.ensures.value ∙ ap (λ (d : List ℕ). shift_of (reduced_place d (vector_of atom.place))) c.d.ensures in
    new-orbit s c.requires.quotient atoms c.args.n atom at orbits c.requires.orbits
    (λ i p. c.in-None.ensures i (place-moved orbits c.deref.result.now (shift_of (reduced_place s.d (vector_of atom.place))) c.reduced.result (sym c.deref.ensures.value) (sym place) i p))

pub returns-in-Some-clause-cause : goal.returns-in-Some-clause-cause
returns-in-Some-clause-cause c =
    let s = c.args.quotient.now in
    let atoms = c.args.atoms.now in
    let atom = c.index-atoms-n.result in
    let at : slice_get atoms c.args.n ≡ Some atom = slice_get_read atoms (length atoms) c.args.n atom refl c.requires.line c.index-atoms-n.is in
    let orbits = c.args.orbits.now.items in
    let place : c.reduced.result ≡ shift_of (reduced_place s.d (vector_of atom.place)) =
    c.reduced.ensures.value ∙ ap (λ (d : List ℕ). shift_of (reduced_place d (vector_of atom.place))) c.d.ensures in
    let v = shift_of (reduced_place s.d (vector_of atom.place)) in
    let p : HasPlace orbits c.in-Some.i v = place-moved c.deref.result.now orbits c.reduced.result v c.deref.ensures.value place c.in-Some.i c.in-Some.ensures.0 in
    let found : c.line.result ≡ p.orbit.line =
    c.line.ensures ∙ ap (λ (o : OrbitView). o.line) (orbit-with orbits c.in-Some.i v c.index.result.now c.index.ensures p) in
    subst (λ (k : ℕ). IsSameSite s atoms k atom.line) (sym found)
    (same-site s c.requires.quotient atoms c.args.n atom at orbits c.requires.orbits c.requires.accepted c.in-Some.i p
    (λ k l q. c.in-Some.ensures.1 k l (place-moved orbits c.deref.result.now v c.reduced.result (sym c.deref.ensures.value) (sym place) k q)))
