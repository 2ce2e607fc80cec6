use Rattle.std.proofs.Common.{◌≡◌, refl, sym, subst, ◌<◌, ◌≤◌, ◌+◌, ◌*◌, length, OnOk, Some, slice_get, arith, rules}
use Rattle.std.proofs.lemmas.Option.{slice_get_read}
use Rattle.space_ops.specs.Op.{vector_of}
use Rattle.wyckoff.specs.AtomLines.{AreAccepted}
use Rattle.wyckoff.specs.OrbitParts.{AreOrbitsBefore}
use Rattle.wyckoff.proofs.LineLemmas.{line-near, places-few, orbits-more, too-large, accepted-more}
use Rattle.wyckoff.proofs.orbits.add_new_orbit.Goals.{in-Ok-push, in-Err-push}
use Rattle.wyckoff.proofs.orbits.add_new_orbit.Goals as goal

pub places_of-requires-clause-place : goal.places_of-requires-clause-place
places_of-requires-clause-place c =
    let s = c.args.quotient.now in
    let atoms = c.args.atoms.now in
    let atom = c.index-atoms-n.result in
    let at : slice_get atoms c.args.n ≡ Some atom = slice_get_read atoms (length atoms) c.args.n atom refl c.requires.line c.index-atoms-n.is in
    line-near s c.requires.quotient atoms c.args.n atom at c.requires.atoms

pub overflow_cast-result : goal.overflow_cast-result
overflow_cast-result c =
    let few = places-few c.args.quotient.now c.requires.quotient (vector_of c.index-atoms-n.result.place) c.in-Ok.places.items c.in-Ok.ensures in
    omega (arith, few, c.order.ensures.value, c.order.ensures.few, c.len-then-len-gt-MAX_ATOMS.ensures)

pub overflow_mul-result : goal.overflow_mul-result
overflow_mul-result c =
    let few = places-few c.args.quotient.now c.requires.quotient (vector_of c.index-atoms-n.result.place) c.in-Ok.places.items c.in-Ok.ensures in
    omega (arith, few, c.order.ensures.value, c.order.ensures.few, c.len-then-len-gt-MAX_ATOMS.ensures)

pub returns-then-len-gt-MAX_ATOMS-clause-cause : goal.returns-then-len-gt-MAX_ATOMS-clause-cause
returns-then-len-gt-MAX_ATOMS-clause-cause c =
    let s = c.args.quotient.now in
    let atoms = c.args.atoms.now in
    let atom = c.index-atoms-n.result in
    let at : slice_get atoms c.args.n ≡ Some atom = slice_get_read atoms (length atoms) c.args.n atom refl c.requires.line c.index-atoms-n.is in
    let places = c.in-Ok.places.items in
    let many : 384 < length places = omega (arith, c.len.ensures, c.if-len-gt-MAX_ATOMS.true) in
    too-large s c.requires.quotient atoms c.args.n atom at c.requires.accepted c.requires.new places c.in-Ok.ensures many atom.line
    (3 * c.len-then-len-gt-MAX_ATOMS.result) refl (omega (arith, c.len-then-len-gt-MAX_ATOMS.ensures))

pub returns-clause-orbits : goal.returns-clause-orbits
returns-clause-orbits c =
    let s = c.args.quotient.now in
    let atoms = c.args.atoms.now in
    let atom = c.index-atoms-n.result in
    let at : slice_get atoms c.args.n ≡ Some atom = slice_get_read atoms (length atoms) c.args.n atom refl c.requires.line c.index-atoms-n.is in
    elim c.match-push.branch [
      | in-Ok-push w ↦
          subst (λ r. OnOk r (AreOrbitsBefore s atoms (c.args.n + 1) c.push.new.self.items)) (sym w.result-is)
          (subst (AreOrbitsBefore s atoms (c.args.n + 1)) (sym w.in-Ok-push.ensures.items)
          (orbits-more s c.requires.quotient atoms c.args.n atom at c.args.orbits.now.items c.requires.orbits c.in-Ok-new.orbit c.in-Ok-new.ensures))
      | in-Err-push w ↦ search (rules, w.result-is)
    ]

pub returns-clause-accepted : goal.returns-clause-accepted
returns-clause-accepted c =
    let s = c.args.quotient.now in
    let atoms = c.args.atoms.now in
    let atom = c.index-atoms-n.result in
    let at : slice_get atoms c.args.n ≡ Some atom = slice_get_read atoms (length atoms) c.args.n atom refl c.requires.line c.index-atoms-n.is in
    let places = c.in-Ok.places.items in
    let few : length places ≤ 384 = omega (arith, c.len.ensures, c.if-len-gt-MAX_ATOMS.false) in
    let more : AreAccepted s atoms (c.args.n + 1) = accepted-more s c.requires.quotient atoms c.args.n atom at c.requires.accepted c.requires.new places c.in-Ok.ensures few in
    elim c.match-push.branch [
      | in-Ok-push w ↦ subst (λ r. OnOk r (AreAccepted s atoms (c.args.n + 1))) (sym w.result-is) more
      | in-Err-push w ↦ search (rules, w.result-is)
    ]
