use Rattle.std.proofs.Common.{◌≡◌, ◌∙◌, ℕ, List, IfOk, flat_map, length, refl, sym, ap, subst}
use Rattle.iso_text.specs.declared.sections.IrrepText.{IrrepText}
use Rattle.apart_report.specs.ApartReport.{pair_line}
use Rattle.apart_report.specs.Held.{number_pairs, told_in}
use Rattle.apart_report.proofs.TextLemmas.{below-found}
use Rattle.apart_report.proofs.report.pairs_text.Goals as goal

pub lines_of-requires-clause-below : goal.lines_of-requires-clause-below
lines_of-requires-clause-below c =
    let n = length c.irreps-irreps.result.now in
    below-found n n c.deref.result.now (c.deref.ensures.value ∙ c.in_ok-pairs.ensures) refl

pub lines_of-requires-clause-count : goal.lines_of-requires-clause-count
lines_of-requires-clause-count c =
    let irreps = c.irreps-irreps.ensures ∙ (λ j. (c.document.ensures j).irreps) in
    ap length c.deref-2.ensures.value ∙ c.requires ∙ ap (λ (xs : List IrrepText). length (number_pairs (length xs))) (sym irreps) ∙ ap length (sym (c.deref.ensures.value ∙ c.in_ok-pairs.ensures))

pub returns : goal.returns
returns c =
    let irreps = c.irreps-irreps.ensures ∙ (λ j. (c.document.ensures j).irreps) in
    let pairs = c.deref.ensures.value ∙ c.in_ok-pairs.ensures ∙ ap (λ (xs : List IrrepText). number_pairs (length xs)) irreps in
    let P : List ℕ → Type 0 = λ t. IfOk c.lines_of.result (λ text. text ≡ t) in
    subst P (λ j. flat_map pair_line (told_in (irreps j) (pairs j) (c.deref-2.ensures.value j))) c.lines_of.ensures
