use Rattle.std.proofs.Common.{◌≡◌, sym, ap, ◌∙◌, ◌%◌, unsigned_abs, w64}
use Rattle.std.proofs.lemmas.Bool.{eqb-true, eq-eqb}
use Rattle.std.proofs.lemmas.Int.{to_z-of_z}
use Rattle.distort_match.proofs.ProductLemmas.{multiple_of_rem, rem_of_multiple}
use Rattle.distort_match.proofs.cells.is_multiple.Goals as goal

pub returns : goal.returns
returns c =
    let e : c.unsigned_abs.result ≡ unsigned_abs c.args.x = c.unsigned_abs.ensures.value ∙ ap unsigned_abs (to_z-of_z w64 c.args.x c.ranges.x) in (
      λ t. multiple_of_rem c.args.n c.args.x (ap (λ k. k % c.args.n) (sym e) ∙ eqb-true (c.unsigned_abs.result % c.args.n) 0 t),
      λ m. eq-eqb (c.unsigned_abs.result % c.args.n) 0 (ap (λ k. k % c.args.n) e ∙ rem_of_multiple c.args.n c.args.x m),
    )
