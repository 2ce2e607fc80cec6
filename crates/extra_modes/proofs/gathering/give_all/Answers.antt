use Rattle.std.proofs.Common.{refl, sym, ap, ◌∙◌, subst, ◌+◌, map, get_or}
use Rattle.std.proofs.lemmas.Option.{slice_get_read}
use Rattle.extra_modes.specs.declared.amount_lines.AmountLine.{AmountLine}
use Rattle.extra_modes.specs.declared.named_atoms.AtomNumber.{AtomNumber}
use Rattle.extra_modes.specs.Amounts.{labelled, Naming}
use Rattle.extra_modes.specs.GatherParts.{set_numbers, AreGiven}
use Rattle.extra_modes.proofs.GivenLemmas.{orbit_inside, atom_inside, line_given, all_names}
use Rattle.extra_modes.proofs.gathering.give_all.Goals as goal

pub give-requires-clause-orbit : goal.give-requires-clause-orbit
give-requires-clause-orbit c =
    let g : Naming = record { d = c.args.d; orbits = map labelled c.args.orbits.now; lines = c.args.lines.now } in
    let a : AtomNumber = get_or c.args.atoms.now c.loop-n.n (record { orbit = 0; atom = 0 }) in
    orbit_inside g c.requires.apart c.loop-n.n c.index-lines-n.result
    (slice_get_read c.args.lines.now _ c.loop-n.n c.index-lines-n.result refl c.loop-n-test.true c.index-lines-n.is) a
    (all_names g c.args.atoms.now c.requires.named c.loop-n.n c.loop-n-test.true) c.loop-n.rows.items c.loop-n.invariant

pub give-requires-clause-atom : goal.give-requires-clause-atom
give-requires-clause-atom c =
    let g : Naming = record { d = c.args.d; orbits = map labelled c.args.orbits.now; lines = c.args.lines.now } in
    let a : AtomNumber = get_or c.args.atoms.now c.loop-n.n (record { orbit = 0; atom = 0 }) in
    atom_inside g c.requires.apart c.loop-n.n c.index-lines-n.result
    (slice_get_read c.args.lines.now _ c.loop-n.n c.index-lines-n.result refl c.loop-n-test.true c.index-lines-n.is) a
    (all_names g c.args.atoms.now c.requires.named c.loop-n.n c.loop-n-test.true) c.loop-n.rows.items c.loop-n.invariant

pub loop-n-preserved : goal.loop-n-preserved
loop-n-preserved c =
    let g : Naming = record { d = c.args.d; orbits = map labelled c.args.orbits.now; lines = c.args.lines.now } in
    let a : AtomNumber = get_or c.args.atoms.now c.loop-n.n (record { orbit = 0; atom = 0 }) in
    subst (AreGiven g (c.loop-n.n + 1)) (sym (c.give.ensures ∙ ap (λ (t : AmountLine). set_numbers c.loop-n.rows.items a.orbit a.atom t.numbers) (sym c.index-lines-n.is)))
    (line_given g c.requires.apart c.loop-n.n c.index-lines-n.result
    (slice_get_read c.args.lines.now _ c.loop-n.n c.index-lines-n.result refl c.loop-n-test.true c.index-lines-n.is) a
    (all_names g c.args.atoms.now c.requires.named c.loop-n.n c.loop-n-test.true) c.loop-n.rows.items c.loop-n.invariant)
