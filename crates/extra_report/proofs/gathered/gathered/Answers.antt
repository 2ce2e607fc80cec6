use Rattle.std.proofs.Common.{sym, subst}
use Rattle.super_group.specs.Quotient.{SupercellGroup}
use Rattle.extra_modes.specs.Amounts.{AreOrbits}
use Rattle.extra_report.proofs.gathered.gathered.Goals as goal

pub gather_values-requires-clause-orbits : goal.gather_values-requires-clause-orbits
gather_values-requires-clause-orbits c =
    let d = c.args.file.now.divided in
    let h = c.requires.orbits.0 in
    subst (λ (q : SupercellGroup). AreOrbits q c.args.orbits.now) (sym c.quotient-quotient.ensures) (d.file.atoms, h.orbits, h.accepted)

pub gather_axials-requires-clause-orbits : goal.gather_axials-requires-clause-orbits
gather_axials-requires-clause-orbits c =
    let d = c.args.file.now.divided in
    let h = c.requires.orbits.0 in
    subst (λ (q : SupercellGroup). AreOrbits q c.args.orbits.now) (sym c.quotient-quotient.ensures) (d.file.atoms, h.orbits, h.accepted)
