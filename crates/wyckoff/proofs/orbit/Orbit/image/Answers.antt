use Rattle.std.proofs.Common.{◌≡◌, ◌∙◌, subst, sym, ap, ◌<◌, ◌*◌, length}
use Rattle.wyckoff.specs.Orbit.{OrbitView, image_of}
use Rattle.wyckoff.specs.OrbitTables.{view_of}
use Rattle.wyckoff.proofs.OrbitLemmas.{turned-within, turned-entry, shifted-within, shifted-entry, image-entry}
use Rattle.wyckoff.proofs.orbit.Orbit.image.Goals as goal

pub entry-turned-requires : goal.entry-turned-requires
entry-turned-requires c =
    let o = c.self.inside in
    let n = length o.places.items in
    let l : c.args.q < o.rotations * o.translations = subst (λ (v : OrbitView). c.args.q < v.order) (sym c.self.view_is) c.requires.element in
    let m : c.args.i < n = subst (λ (v : OrbitView). c.args.i < length v.places) (sym c.self.view_is) c.requires.atom in
    let k : c.atoms.result ≡ n = c.atoms.ensures.value ∙ ap (λ (v : OrbitView). length v.places) (sym c.self.view_is) in
    turned-within o.rotations o.translations n o.turns.items o.shifts.items c.self.invariant.some c.self.invariant.turns c.self.invariant.shifts c.args.q c.args.i l m
    c.atoms.result c.deref.result.now k c.deref.ensures.value

pub entry-requires : goal.entry-requires
entry-requires c =
    let o = c.self.inside in
    let n = length o.places.items in
    let l : c.args.q < o.rotations * o.translations = subst (λ (v : OrbitView). c.args.q < v.order) (sym c.self.view_is) c.requires.element in
    let m : c.args.i < n = subst (λ (v : OrbitView). c.args.i < length v.places) (sym c.self.view_is) c.requires.atom in
    let k : c.atoms.result ≡ n = c.atoms.ensures.value ∙ ap (λ (v : OrbitView). length v.places) (sym c.self.view_is) in
    let k2 : c.atoms-2.result ≡ n = c.atoms-2.ensures.value ∙ ap (λ (v : OrbitView). length v.places) (sym c.self.view_is) in
    let d = turned-entry o.rotations o.translations n o.turns.items o.shifts.items c.self.invariant.some c.self.invariant.turns c.self.invariant.shifts c.args.q c.args.i l m
    c.atoms.result c.deref.result.now k c.deref.ensures.value c.entry-turned.result c.entry-turned.ensures in
    shifted-within o.rotations o.translations n o.turns.items o.shifts.items c.self.invariant.some c.self.invariant.turns c.self.invariant.shifts c.args.q c.args.i l m
    c.atoms-2.result c.deref-2.result.now k2 c.deref-2.ensures.value c.entry-turned.result d.1

pub returns-clause-value : goal.returns-clause-value
returns-clause-value c =
    let o = c.self.inside in
    let n = length o.places.items in
    let l : c.args.q < o.rotations * o.translations = subst (λ (v : OrbitView). c.args.q < v.order) (sym c.self.view_is) c.requires.element in
    let m : c.args.i < n = subst (λ (v : OrbitView). c.args.i < length v.places) (sym c.self.view_is) c.requires.atom in
    let k : c.atoms.result ≡ n = c.atoms.ensures.value ∙ ap (λ (v : OrbitView). length v.places) (sym c.self.view_is) in
    let k2 : c.atoms-2.result ≡ n = c.atoms-2.ensures.value ∙ ap (λ (v : OrbitView). length v.places) (sym c.self.view_is) in
    let d = turned-entry o.rotations o.translations n o.turns.items o.shifts.items c.self.invariant.some c.self.invariant.turns c.self.invariant.shifts c.args.q c.args.i l m
    c.atoms.result c.deref.result.now k c.deref.ensures.value c.entry-turned.result c.entry-turned.ensures in
    let e = shifted-entry o.rotations o.translations n o.turns.items o.shifts.items c.self.invariant.some c.self.invariant.turns c.self.invariant.shifts c.args.q c.args.i l m
    c.atoms-2.result c.deref-2.result.now k2 c.deref-2.ensures.value c.entry-turned.result c.entry.result d c.entry.ensures in
    e.0 ∙ sym (image-entry (view_of o) c.args.q c.args.i) ∙ ap (λ (v : OrbitView). image_of v c.args.q c.args.i) c.self.view_is

pub returns-clause-below : goal.returns-clause-below
returns-clause-below c =
    let o = c.self.inside in
    let n = length o.places.items in
    let l : c.args.q < o.rotations * o.translations = subst (λ (v : OrbitView). c.args.q < v.order) (sym c.self.view_is) c.requires.element in
    let m : c.args.i < n = subst (λ (v : OrbitView). c.args.i < length v.places) (sym c.self.view_is) c.requires.atom in
    let k : c.atoms.result ≡ n = c.atoms.ensures.value ∙ ap (λ (v : OrbitView). length v.places) (sym c.self.view_is) in
    let k2 : c.atoms-2.result ≡ n = c.atoms-2.ensures.value ∙ ap (λ (v : OrbitView). length v.places) (sym c.self.view_is) in
    let d = turned-entry o.rotations o.translations n o.turns.items o.shifts.items c.self.invariant.some c.self.invariant.turns c.self.invariant.shifts c.args.q c.args.i l m
    c.atoms.result c.deref.result.now k c.deref.ensures.value c.entry-turned.result c.entry-turned.ensures in
    let e = shifted-entry o.rotations o.translations n o.turns.items o.shifts.items c.self.invariant.some c.self.invariant.turns c.self.invariant.shifts c.args.q c.args.i l m
    c.atoms-2.result c.deref-2.result.now k2 c.deref-2.ensures.value c.entry-turned.result c.entry.result d c.entry.ensures in
    subst (λ (v : OrbitView). c.entry.result < length v.places) c.self.view_is e.1
