use Rattle.std.proofs.Common.{sym, subst, ℕ, List, length, map}
use Rattle.extra_modes.specs.Amounts.{labelled, Naming}
use Rattle.extra_modes.specs.GatherParts.{AreApart, AreNamed, AreGiven}
use Rattle.extra_modes.specs.NamedAtomLaws.{atoms-apart}
use Rattle.extra_modes.proofs.GivenLemmas.{none_given, all_given}
use Rattle.extra_modes.proofs.gathering.gather.Goals as goal

pub named_atoms-requires-clause-apart : goal.named_atoms-requires-clause-apart
named_atoms-requires-clause-apart c =
    subst (λ (d : List ℕ). AreApart d (map labelled c.args.orbits.now)) (sym c.d-d.ensures) (atoms-apart c.args.quotient.now c.order.ensures.quotient c.args.orbits.now c.requires.orbits)

pub give_all-requires-clause-apart : goal.give_all-requires-clause-apart
give_all-requires-clause-apart c =
    subst (λ (d : List ℕ). AreApart d (map labelled c.args.orbits.now)) (sym c.d-d.ensures) (atoms-apart c.args.quotient.now c.order.ensures.quotient c.args.orbits.now c.requires.orbits)

pub give_all-requires-clause-given : goal.give_all-requires-clause-given
give_all-requires-clause-given c =
    let g : Naming = record { d = c.d-d.result; orbits = map labelled c.args.orbits.now; lines = c.args.lines.now } in
    subst (AreGiven g 0) (sym c.in-Ok-no_amounts.ensures) (none_given c.d-d.result c.args.orbits.now c.args.lines.now)

pub returns-clause-amounts : goal.returns-clause-amounts
returns-clause-amounts c =
    let g : List ℕ → Naming = λ d. record { d = d; orbits = map labelled c.args.orbits.now; lines = c.args.lines.now } in
    all_given (g c.args.quotient.now.d) (atoms-apart c.args.quotient.now c.order.ensures.quotient c.args.orbits.now c.requires.orbits) c.args.each c.give_all.new.rows.items c.in-Ok.atoms.items
    (subst (λ d. AreNamed (g d) (length c.args.lines.now) c.in-Ok.atoms.items) c.d-d.ensures c.in-Ok.ensures.named)
    (subst (λ d. AreGiven (g d) (length c.args.lines.now) c.give_all.new.rows.items) c.d-d.ensures c.give_all.ensures) c.from_vec.result c.from_vec.ensures.each c.from_vec.ensures.atoms
