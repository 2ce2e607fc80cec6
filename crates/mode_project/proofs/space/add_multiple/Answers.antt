use Rattle.std.proofs.Common.{◌≡◌, sym, ◌∙◌, ap, subst, pos, negsuc, to_z, w8}
use Rattle.std.proofs.lemmas.Int.{to_z-of_z}
use Rattle.cyclo24.specs.ExactField.{Value}
use Rattle.cyclo24.specs.Numerals.{of_whole}
use Rattle.lin_alg.specs.Matrix.{IsWideTerm}
use Rattle.mode_project.specs.WideParts.{IsWideOne}
use Rattle.mode_project.proofs.TermLemmas.{one-exact, minus-exact, add-nought_whole, one-wide, minus-wide, on-err-map}
use Rattle.mode_project.proofs.space.add_multiple.Goals as goal

pub returns-then-n-eq0-clause-exact : goal.returns-then-n-eq0-clause-exact
returns-then-n-eq0-clause-exact g c =
    let e : c.args.n ≡ pos 0 = sym (to_z-of_z w8 c.args.n c.ranges.n) ∙ ap (to_z w8) c.if-n-eq0.true in
    add-nought_whole g.F.Field.field.laws (g.F.Field.value c.args.sum) (g.F.Field.value c.args.y) c.args.n e

pub returns-then-n-eq1-clause-exact : goal.returns-then-n-eq1-clause-exact
returns-then-n-eq1-clause-exact g c =
    let e : c.args.n ≡ pos 1 = sym (to_z-of_z w8 c.args.n c.ranges.n) ∙ ap (to_z w8) c.if-n-eq1.true in
    one-exact g.F.Field.field g.F.Field.value c.add_one.result (g.F.Field.value c.args.sum) (g.F.Field.value c.args.y) c.args.n e c.add_one.ensures.exact

pub returns-then-n-eq1-clause-wide : goal.returns-then-n-eq1-clause-wide
returns-then-n-eq1-clause-wide g c =
    let f = g.F.Field.field in
    let s = g.F.Field.value c.args.sum in
    let y = g.F.Field.value c.args.y in
    let e : c.args.n ≡ pos 1 = sym (to_z-of_z w8 c.args.n c.ranges.n) ∙ ap (to_z w8) c.if-n-eq1.true in
    on-err-map c.add_one.result (IsWideOne f s y) (IsWideTerm f s (of_whole f.laws c.args.n) y) (one-wide f s y c.args.n e) c.add_one.ensures.wide

pub returns-then-n-eqminus1-clause-exact : goal.returns-then-n-eqminus1-clause-exact
returns-then-n-eqminus1-clause-exact g c =
    let e : c.args.n ≡ negsuc 0 = sym (to_z-of_z w8 c.args.n c.ranges.n) ∙ ap (to_z w8) c.if-n-eqminus1.true in
    minus-exact g.F.Field.field g.F.Field.value c.add_one-then-n-eqminus1.result (g.F.Field.value c.args.sum) (g.F.Field.value c.args.y) c.args.n (g.F.Field.value c.neg.result) c.neg.ensures e c.add_one-then-n-eqminus1.ensures.exact

pub returns-then-n-eqminus1-clause-wide : goal.returns-then-n-eqminus1-clause-wide
returns-then-n-eqminus1-clause-wide g c =
    let f = g.F.Field.field in
    let s = g.F.Field.value c.args.sum in
    let y = g.F.Field.value c.args.y in
    let e : c.args.n ≡ negsuc 0 = sym (to_z-of_z w8 c.args.n c.ranges.n) ∙ ap (to_z w8) c.if-n-eqminus1.true in
    on-err-map c.add_one-then-n-eqminus1.result (IsWideOne f s (g.F.Field.value c.neg.result)) (IsWideTerm f s (of_whole f.laws c.args.n) y)
    (λ h. minus-wide f s y c.args.n e (subst (λ (x : Value f). IsWideOne f s x) c.neg.ensures h)) c.add_one-then-n-eqminus1.ensures.wide
