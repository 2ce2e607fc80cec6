use Rattle.std.proofs.Common.{◌≡◌, refl, sym, ap, ◌∙◌, subst, ◌+◌, List, map, false, true, slice_get}
use Rattle.std.proofs.lemmas.Option.{slice_get_read}
use Rattle.extra_modes.specs.declared.named_atoms.AtomNumber.{AtomNumber}
use Rattle.extra_modes.specs.Amounts.{labelled, Naming}
use Rattle.extra_modes.specs.GatherParts.{AreNamed}
use Rattle.extra_modes.proofs.NamedLemmas.{line_unmatched, line_ambiguous, line_named}
use Rattle.extra_modes.proofs.named_atoms.add_named.Goals as goal

pub returns-in-None-clause-cause : goal.returns-in-None-clause-cause
returns-in-None-clause-cause c =
    let g : Naming = record { d = c.args.d; orbits = map labelled c.args.orbits.now; lines = c.args.lines.now } in
    line_unmatched g c.requires.apart c.args.n c.index-lines-n.result (slice_get_read c.args.lines.now _ c.args.n c.index-lines-n.result refl c.requires.line c.index-lines-n.is) c.args.atoms.now.items c.requires.named
    c.in-None.ensures

pub returns-then-is_among-clause-cause : goal.returns-then-is_among-clause-cause
returns-then-is_among-clause-cause c =
    let g : Naming = record { d = c.args.d; orbits = map labelled c.args.orbits.now; lines = c.args.lines.now } in
    let k = c.is_among.ensures.0 c.if-is_among.true in
    line_ambiguous g c.requires.apart c.args.n c.index-lines-n.result (slice_get_read c.args.lines.now _ c.args.n c.index-lines-n.result refl c.requires.line c.index-lines-n.is) c.args.atoms.now.items c.requires.named
    c.in-Some.atom c.in-Some.ensures k.0 (ap (λ (xs : List AtomNumber). slice_get xs k.0) (sym c.deref.ensures.value) ∙ k.1)

pub returns-in-Ok-clause-named : goal.returns-in-Ok-clause-named
returns-in-Ok-clause-named c =
    let g : Naming = record { d = c.args.d; orbits = map labelled c.args.orbits.now; lines = c.args.lines.now } in
    subst (AreNamed g (c.args.n + 1)) (sym c.in-Ok.ensures.items)
    (line_named g c.requires.apart c.args.n c.index-lines-n.result (slice_get_read c.args.lines.now _ c.args.n c.index-lines-n.result refl c.requires.line c.index-lines-n.is) c.args.atoms.now.items c.requires.named
    c.in-Some.atom c.in-Some.ensures
    (λ k e. absurd (let f : false ≡ true = sym c.if-is_among.false ∙ c.is_among.ensures.1 (k, ap (λ (xs : List AtomNumber). slice_get xs k) c.deref.ensures.value ∙ e) in cc)))
