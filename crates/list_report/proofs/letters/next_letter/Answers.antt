use Rattle.std.proofs.Common.{◌≡◌, ◌∙◌, sym, ap, ◌+◌, true, false, cond, arith}
use Rattle.list_report.specs.Letters.{is_free, letter_of}
use Rattle.list_report.proofs.LetterLemmas.{letter_of-more, letter_of-few}
use Rattle.list_report.proofs.letters.next_letter.Goals as goal

pub overflow_add-result : goal.overflow_add-result
overflow_add-result g c = omega (arith, c.requires.letter, c.requires.few, letter_of-few c.args.rows.now.rows c.args.j)

pub returns-then-is_free : goal.returns-then-is_free
returns-then-is_free g c =
    let rows = c.args.rows.now.rows in
    let j = c.args.j in
    let t : is_free rows j ≡ true = sym c.is_free.ensures ∙ c.if-is_free.true in
    ap (λ k. k + 1) c.requires.letter ∙ ap (λ b. letter_of rows j + cond b 1 0) (sym t) ∙ sym (letter_of-more rows j)

pub returns-else-is_free : goal.returns-else-is_free
returns-else-is_free g c =
    let rows = c.args.rows.now.rows in
    let j = c.args.j in
    let t : is_free rows j ≡ false = sym c.is_free.ensures ∙ c.if-is_free.false in
    let z : letter_of rows j ≡ letter_of rows j + 0 = omega arith in
    c.requires.letter ∙ z ∙ ap (λ b. letter_of rows j + cond b 1 0) (sym t) ∙ sym (letter_of-more rows j)
