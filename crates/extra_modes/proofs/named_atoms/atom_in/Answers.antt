use Rattle.std.proofs.Common.{◌≡◌, sym, ◌∙◌, false, true}
use Rattle.std.specs.Cmp.Lexicographic.{bytes_decides}
use Rattle.space_ops.specs.Op.{vector_of}
use Rattle.extra_modes.proofs.NamedLemmas.{orbit_found, orbit_other}
use Rattle.extra_modes.proofs.named_atoms.atom_in.Goals as goal

pub returns-then-eq : goal.returns-then-eq
returns-then-eq c =
    let same : c.as_slice.result.now ≡ c.as_slice-2.result.now = (bytes_decides c.as_slice.result.now c.as_slice-2.result.now).0 (sym c.eq.ensures ∙ c.if-eq.true) in
    let label : c.get-orbit.result.now.label ≡ c.args.label.now = sym (c.as_slice.ensures.value ∙ c.label.ensures) ∙ same ∙ c.as_slice-2.ensures.value in
    orbit_found c.args.d c.args.label.now (vector_of c.args.x) c.args.orbits.now c.args.o c.get-orbit.result.now c.get-orbit.ensures label c.place_in.result c.place_in.ensures

pub returns-else-eq : goal.returns-else-eq
returns-else-eq c =
    orbit_other c.args.d c.args.label.now (vector_of c.args.x) c.args.orbits.now c.args.o c.get-orbit.result.now c.get-orbit.ensures
    (λ e.
    let same : c.as_slice.result.now ≡ c.as_slice-2.result.now = c.as_slice.ensures.value ∙ c.label.ensures ∙ e ∙ sym c.as_slice-2.ensures.value in
    absurd (let f : false ≡ true = sym c.if-eq.false ∙ c.eq.ensures ∙ (bytes_decides c.as_slice.result.now c.as_slice-2.result.now).1 same in cc))
