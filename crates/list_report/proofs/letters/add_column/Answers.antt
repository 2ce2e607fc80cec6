use Rattle.std.proofs.Common.{◌≡◌, ◌∙◌, sym, ap, ◌+◌, ◌++◌, ◌∷◌, [], true, false, cond, length, arith}
use Rattle.std.proofs.lemmas.List.{append-nil}
use Rattle.list_report.specs.Letters.{is_free, letter_of, lettered}
use Rattle.list_report.proofs.LetterLemmas.{letter_of-few, lettered-length, lettered-more}
use Rattle.list_report.proofs.letters.add_column.Goals as goal

pub returns-then-not-is_free : goal.returns-then-not-is_free
returns-then-not-is_free g c =
    let rows = c.args.rows.now.rows in
    let j = c.args.j in
    let f : is_free rows j ≡ false = grind (arith, c.is_free.ensures, c.if-not-is_free.true) in
    c.requires.before ∙ sym (lettered-more rows j ∙ ap (λ b. lettered rows j ++ cond b ((j, letter_of rows j) ∷ []) []) f ∙ append-nil (lettered rows j))

pub overflow_cast-letter : goal.overflow_cast-letter
overflow_cast-letter g c =
    let rows = c.args.rows.now.rows in
    let a = c.args.columns.now.ok.0 in
    let b : length c.args.columns.now.items ≡ length (lettered rows c.args.j) = ap length c.requires.before in
    let e : c.len.result ≡ length (lettered rows c.args.j) = omega (arith, a, b, c.len.ensures) in
    omega (arith, e, c.requires.few, lettered-length rows c.args.j, letter_of-few rows c.args.j)

pub overflow_add-letter : goal.overflow_add-letter
overflow_add-letter g c =
    let rows = c.args.rows.now.rows in
    let a = c.args.columns.now.ok.0 in
    let b : length c.args.columns.now.items ≡ length (lettered rows c.args.j) = ap length c.requires.before in
    let e : c.len.result ≡ length (lettered rows c.args.j) = omega (arith, a, b, c.len.ensures) in
    omega (arith, e, c.requires.few, lettered-length rows c.args.j, letter_of-few rows c.args.j)

pub returns-in-Ok : goal.returns-in-Ok
returns-in-Ok g c =
    let rows = c.args.rows.now.rows in
    let j = c.args.j in
    let t : is_free rows j ≡ true = grind (arith, c.is_free.ensures, c.if-not-is_free.false) in
    let a = c.args.columns.now.ok.0 in
    let b : length c.args.columns.now.items ≡ length (lettered rows j) = ap length c.requires.before in
    let n : c.len.result ≡ length (lettered rows j) = omega (arith, a, b, c.len.ensures) in
    let e : 97 + c.len.result ≡ letter_of rows j = ap (λ k. 97 + k) n ∙ lettered-length rows j in
    c.in-Ok.ensures.items ∙ (λ i. c.requires.before i ++ (j, e i) ∷ [])
    ∙ sym (lettered-more rows j ∙ ap (λ b. lettered rows j ++ cond b ((j, letter_of rows j) ∷ []) []) t)
