use Rattle.std.proofs.Common.{◌≡◌, ◌∙◌, ap, sym, rules, [], ◌∷◌, false, None}
use Rattle.hall_symbol.specs.SymbolReading.{parts_at, generator_in}
use Rattle.hall_symbol.specs.WordReading.{words}
use Rattle.hall_symbol.specs.ShiftReading.{is_byte}
use Rattle.hall_symbol.proofs.PartsLemmas.{none-same, parts_at-ends, parts_at-more, parts_at-none}
use Rattle.hall_symbol.proofs.symbol.parts_at.Goals as goal

pub returns-in_err-generator-clause-value : goal.returns-in_err-generator-clause-value
returns-in_err-generator-clause-value c =
    let split : words c.parts.rest.now ≡ c.in-Some.word.now ∷ words c.in-Some.behind.now = search rules in
    let other : is_byte 40 c.in-Some.word.now ≡ false = search rules in
    let read = ap (λ before. generator_in before c.in-Some.word.now) (sym c.as_slice.ensures.value) ∙ sym c.generator_in.ensures.value ∙ c.in_err-generator.was in
    let step : parts_at c.parts.generators.items (words c.parts.rest.now) ≡ None = parts_at-none c.parts.generators.items (words c.parts.rest.now) c.in-Some.word.now (words c.in-Some.behind.now) split other read in
    let none : parts_at [] (words c.args.text.now) ≡ None = sym c.parts.invariant.0 ∙ step in
    none-same _ _ _ c.from_residual.ensures none

pub parts-preserved : goal.parts-preserved
parts-preserved c =
    let split : words c.parts.rest.now ≡ c.in-Some.word.now ∷ words c.in-Some.behind.now = search rules in
    let other : is_byte 40 c.in-Some.word.now ≡ false = search rules in
    let read = ap (λ before. generator_in before c.in-Some.word.now) (sym c.as_slice.ensures.value) ∙ sym c.generator_in.ensures.value ∙ c.in_ok-generator.was in
    let step = parts_at-more c.parts.generators.items (words c.parts.rest.now) c.in-Some.word.now (words c.in-Some.behind.now) c.in_ok-generator.generator split other read in
    (ap (λ before. parts_at before (words c.in-Some.behind.now)) c.push.ensures.items ∙ sym step ∙ c.parts.invariant.0, search rules, search rules)

pub returns-clause-value : goal.returns-clause-value
returns-clause-value c = sym (parts_at-ends c.parts.generators.items (words c.parts.rest.now) (search rules)) ∙ c.parts.invariant.0
