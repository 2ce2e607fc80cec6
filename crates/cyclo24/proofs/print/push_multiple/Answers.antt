use Rattle.std.proofs.Common.{◌≡◌, ◌∙◌, sym, ap, subst, IfOk, string_bytes, List, ℕ}
use Rattle.std.specs.Int.RustNames.{unsigned_abs}
use Rattle.cyclo24.specs.declared.whole.Whole.{Whole}
use Rattle.cyclo24.specs.TextLaws.{nothing, signed}
use Rattle.cyclo24.proofs.print.push_multiple.Goals as goal

pub returns-then-is_zero : goal.returns-then-is_zero
returns-then-is_zero c = nothing (string_bytes c.args.out) c.args.first (unsigned_abs c.args.d.n) c.args.x.n c.args.unit.now (sym c.is_zero.ensures ∙ c.if-is_zero.true)

pub returns : goal.returns
returns c =
    let e = signed (string_bytes c.args.out) (string_bytes c.in_ok-signed.signed) c.args.first (unsigned_abs c.args.d.n) c.args.x.n c.args.unit.now c.magnitude.result c.magnitude-2.result c.magnitude-common.result
    (sym c.is_zero.ensures ∙ c.if-is_zero.false) c.in_ok-signed.ensures c.magnitude.ensures c.magnitude-2.ensures (c.magnitude-common.ensures ∙ ap (λ (w : Whole). unsigned_abs w.n) c.common.ensures.value) in
    let P : List ℕ → Type 0 = λ t. IfOk c.push_part.result (λ s. string_bytes s ≡ t) in
    subst P e c.push_part.ensures
