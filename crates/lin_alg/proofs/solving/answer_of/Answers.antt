use Rattle.std.proofs.Common.{◌≡◌, sym, ◌∙◌, ap, refl, true, false}
use Rattle.lin_alg.specs.Rows.{vector}
use Rattle.lin_alg.proofs.SolvingLemmas.{vector-dropped, vector-taken}
use Rattle.lin_alg.proofs.solving.answer_of.Goals as goal

pub returns-in_ok-x-clause-front : goal.returns-in_ok-x-clause-front
returns-in_ok-x-clause-front g c j l =
    let f = g.F.Field.field in
    let v = g.F.Field.value in
    ap (λ z. vector f.laws v z j) c.from_vec.ensures ∙ c.in_ok-x.ensures.entries j ∙ ap f.laws.neg (vector-taken f v c.args.n c.args.left.now _ refl j l)

pub returns-in_ok-x-clause-zero : goal.returns-in_ok-x-clause-zero
returns-in_ok-x-clause-zero g c j =
    let f = g.F.Field.field in
    let v = g.F.Field.value in
    sym (vector-dropped f v c.args.n c.args.left.now j) ∙ c.is_zero.ensures.zero c.if-is_zero.true j

pub returns-else-is_zero-clause-none : goal.returns-else-is_zero-clause-none
returns-else-is_zero-clause-none g c _ h =
    let f = g.F.Field.field in
    let v = g.F.Field.value in
    let t : c.is_zero.result ≡ true = c.is_zero.ensures.other (λ j. vector-dropped f v c.args.n c.args.left.now j ∙ h j) in
    let e : true ≡ false = sym t ∙ c.if-is_zero.false in absurd cc
