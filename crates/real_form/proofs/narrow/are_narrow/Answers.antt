use Rattle.std.proofs.Common.{◌≡◌, true, Result, sym, ◌∙◌}
use Rattle.std.specs.Prelude.{Ok, Err, OnOk, is_ok}
use Rattle.real_form.proofs.ShortDotLemmas.{products_narrow}
use Rattle.real_form.proofs.narrow.are_narrow.Goals as goal

on_ok : {A E : Type 0} (r : Result A E) (P : Type 0) → is_ok r ≡ true → OnOk r P → P
on_ok (Ok x) P e h = h
on_ok (Err x) P e h = cc

pub returns : goal.returns
returns c e =
    let ok : is_ok c.check_products.result ≡ true = sym c.is_ok.ensures.value ∙ e in
    products_narrow c.args.left.now c.args.right.now c.in-Some.a c.in-Some-short_matrix.b c.args.count c.requires.square c.requires.rows
    c.in-Some.ensures.rows c.in-Some.ensures.cols c.in-Some.ensures.entries c.in-Some-short_matrix.ensures.entries
    (on_ok c.check_products.result _ ok c.check_products.ensures.narrow)
