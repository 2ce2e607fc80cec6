use Rattle.std.proofs.Common.{◌∙◌, refl, sym, ap, ◌/◌, ◌%◌, get_or}
use Rattle.cyclo24.specs.ExactZ24.{power}
use Rattle.cyclo24.specs.Z24.{exact_z24}
use Rattle.small_rep.specs.declared.pairs.Pair.{Pair}
use Rattle.small_rep.specs.RepCheck.{IsWideTablePair}
use Rattle.small_rep.proofs.ResultLemmas.{on_err_map}
use Rattle.small_rep.proofs.PairCheckLemmas.{pair_multiplies, pair_fails, pair_wide}
use Rattle.small_rep.proofs.pair_check.multiplies.Goals as goal

pub returns-clause-yes : goal.returns-clause-yes
returns-clause-yes c q =
    pair_multiplies c.args.rep.now c.args.e c.matrix-left.result.now c.matrix-right.result.now c.matrix-product.result.now c.rotation.result c.rotation-2.result c.pair-pair.result.product
    (c.rotation.ensures.value ∙ ap (λ n. get_or c.args.rep.now.little (c.args.e / n) 0) c.count-count.ensures.value)
    (c.rotation-2.ensures.value ∙ ap (λ n. get_or c.args.rep.now.little (c.args.e % n) 0) c.count-count.ensures.value)
    (ap (λ (p : Pair). p.product) c.pair-pair.ensures.value) c.matrix-left.ensures.entries c.matrix-right.ensures.entries c.matrix-product.ensures.entries (exact_z24 c.root.result)
    (c.root.ensures ∙ ap (λ (p : Pair). power p.power) c.pair-pair.ensures.value) c.matrix-left.result.now.cols c.matrix-left.ensures.cols (c.multiply_to.ensures.yes q)

pub returns-clause-no : goal.returns-clause-no
returns-clause-no c q =
    pair_fails c.args.rep.now c.args.e c.matrix-left.result.now c.matrix-right.result.now c.matrix-product.result.now c.rotation.result c.rotation-2.result c.pair-pair.result.product
    (c.rotation.ensures.value ∙ ap (λ n. get_or c.args.rep.now.little (c.args.e / n) 0) c.count-count.ensures.value)
    (c.rotation-2.ensures.value ∙ ap (λ n. get_or c.args.rep.now.little (c.args.e % n) 0) c.count-count.ensures.value)
    (ap (λ (p : Pair). p.product) c.pair-pair.ensures.value) c.matrix-left.ensures.entries c.matrix-right.ensures.entries c.matrix-product.ensures.entries (exact_z24 c.root.result)
    (c.root.ensures ∙ ap (λ (p : Pair). power p.power) c.pair-pair.ensures.value) c.matrix-left.result.now.cols c.matrix-left.ensures.cols (c.multiply_to.ensures.no q)

pub returns-clause-wide : goal.returns-clause-wide
returns-clause-wide c =
    on_err_map c.multiply_to.result _ (IsWideTablePair c.args.rep.now c.args.e)
    (pair_wide c.args.rep.now c.args.e c.matrix-left.result.now c.matrix-right.result.now c.matrix-product.result.now c.rotation.result c.rotation-2.result c.pair-pair.result.product
    (c.rotation.ensures.value ∙ ap (λ n. get_or c.args.rep.now.little (c.args.e / n) 0) c.count-count.ensures.value)
    (c.rotation-2.ensures.value ∙ ap (λ n. get_or c.args.rep.now.little (c.args.e % n) 0) c.count-count.ensures.value)
    (ap (λ (p : Pair). p.product) c.pair-pair.ensures.value) c.matrix-left.ensures.entries c.matrix-right.ensures.entries c.matrix-product.ensures.entries (exact_z24 c.root.result)
    (c.root.ensures ∙ ap (λ (p : Pair). power p.power) c.pair-pair.ensures.value) c.matrix-left.result.now.cols c.matrix-left.ensures.cols)
    c.multiply_to.ensures.wide

pub multiply_to-requires : goal.multiply_to-requires
multiply_to-requires c = record {
  a_rows = c.matrix-left.ensures.rows ∙ sym c.matrix-left.ensures.cols;
  a_cols = refl;
  b_rows = c.matrix-right.ensures.rows ∙ sym c.matrix-left.ensures.cols;
  b_cols = c.matrix-right.ensures.cols ∙ sym c.matrix-left.ensures.cols;
  c_rows = c.matrix-product.ensures.rows ∙ sym c.matrix-left.ensures.cols;
  c_cols = c.matrix-product.ensures.cols ∙ sym c.matrix-left.ensures.cols;
}
