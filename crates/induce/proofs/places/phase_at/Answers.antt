use Rattle.std.proofs.Common.{◌≡◌, ◌+◌, ◌*◌, ◌∙◌, ap, length, get_or}
use Rattle.std.proofs.lemmas.List.{get_or_default}
use Rattle.induce.proofs.PhasedLemmas.{found_place_below, found_below, entry_phased}
use Rattle.induce.proofs.places.phase_at.Goals as goal

pub returns-clause-below : goal.returns-clause-below
returns-clause-below c =
    let n = length c.translations.result.now in
    let l = found_place_below c.args.quotient.now c.args.tables.now c.requires.tables c.args.t c.args.j c.requires.translation c.requires.arm n (ap length c.translations.ensures) in
    let f : c.index.result.now ≡ get_or c.args.tables.now.phases.items (c.args.j * n + c.args.t) 0 =
    c.index.ensures ∙ get_or_default c.args.tables.now.phases.items (c.args.j * n + c.args.t) c.index.result.now 0 l in
    found_below c.args.quotient.now c.args.tables.now c.requires.tables c.args.t c.args.j c.requires.translation c.requires.arm n (ap length c.translations.ensures) c.index.result.now f

pub returns-clause-matrix : goal.returns-clause-matrix
returns-clause-matrix c =
    let n = length c.translations.result.now in
    let l = found_place_below c.args.quotient.now c.args.tables.now c.requires.tables c.args.t c.args.j c.requires.translation c.requires.arm n (ap length c.translations.ensures) in
    let f : c.index.result.now ≡ get_or c.args.tables.now.phases.items (c.args.j * n + c.args.t) 0 =
    c.index.ensures ∙ get_or_default c.args.tables.now.phases.items (c.args.j * n + c.args.t) c.index.result.now 0 l in
    entry_phased c.args.quotient.now c.args.tables.now c.requires.tables c.args.t c.args.j c.requires.translation c.requires.arm n (ap length c.translations.ensures) c.index.result.now f
