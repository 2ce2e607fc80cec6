use Rattle.std.proofs.Common.{◌≡◌, ◌∙◌, ap, subst, pos, unwrap_or, option_copied, rules, w64}
use Rattle.std.proofs.lemmas.Int.{to_z-of_z}
use Rattle.algebra.specs.PassedLaws.{passed}
use Rattle.iso_text.specs.FileValue.{File}
use Rattle.distort_match.specs.Matches.{Matching}
use Rattle.amp_report.specs.AmpsFound.{RefusesMatching, matching_of}
use Rattle.amp_report.proofs.shifts.shifts_at.Goals as goal

pub returns-in_ok-refusal_of-in-Err : goal.returns-in_ok-refusal_of-in-Err
returns-in_ok-refusal_of-in-Err c =
    let d = c.args.file.now.divided in
    let orbits = c.args.orbits.now in
    let f = c.document-document.ensures in
    let listed = c.listed.ensures ∙ ap (λ (x : File). x.listed) f in
    let fits : passed w64 c.tolerance.result ≡ c.tolerance.result = to_z-of_z w64 c.tolerance.result (search rules) in
    let tolerance = fits ∙ c.tolerance.ensures ∙ ap (λ (x : File). unwrap_or x.tolerance (pos 0)) f in
    let cell = c.cell.ensures ∙ ap (λ (x : File). x.cell) f in
    let m : Matching = record { group = c.quotient.result.now; orbits = orbits; listed = c.listed.result.now; tolerance = passed w64 c.tolerance.result; cell = option_copied c.cell.result } in
    let e : m ≡ matching_of d orbits = λ i. record { group = c.quotient.ensures i; orbits = orbits; listed = listed i; tolerance = tolerance i; cell = cell i } in
    let P : Matching → Type 0 = λ x. RefusesMatching x c.in_ok-refusal_of-in-Err.field-0 in
    subst P e (c.in_ok-refusal_of-in-Err.ensures m c.in-Err.ensures.cause)
