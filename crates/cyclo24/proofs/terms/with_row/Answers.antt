use Rattle.std.proofs.Common.{◌≡◌, ◌∙◌, ap, ℤ, ◌+ℤ◌, ◌*ℤ◌}
use Rattle.std.specs.Int.RustNames.{unsigned_abs}
use Rattle.cyclo24.specs.declared.whole.Whole.{Whole}
use Rattle.cyclo24.specs.TermsLaws.{most_then}
use Rattle.cyclo24.proofs.terms.with_row.Goals as goal

-- by the number of the row
more : (r k : Whole) (x f n : ℤ) → r ≡ record { n = x +ℤ f *ℤ k.n } → k ≡ record { n = n } → r.n ≡ x +ℤ f *ℤ n
more r k x f n p q = ap (λ (w : Whole). w.n) p ∙ ap (λ (w : Whole). x +ℤ f *ℤ w.n) q

pub returns-clause-value : goal.returns-clause-value
returns-clause-value c = λ i. record {
  c0 = more c.with_multiple.result c.number_at.result c.args.sum.c0.n c.args.factor.n _ c.with_multiple.ensures.value c.number_at.ensures.value i;
  c1 = more c.with_multiple-2.result c.number_at-2.result c.args.sum.c1.n c.args.factor.n _ c.with_multiple-2.ensures.value c.number_at-2.ensures.value i;
  c2 = more c.with_multiple-3.result c.number_at-3.result c.args.sum.c2.n c.args.factor.n _ c.with_multiple-3.ensures.value c.number_at-3.ensures.value i;
  c3 = more c.with_multiple-4.result c.number_at-4.result c.args.sum.c3.n c.args.factor.n _ c.with_multiple-4.ensures.value c.number_at-4.ensures.value i;
  c4 = more c.with_multiple-5.result c.number_at-5.result c.args.sum.c4.n c.args.factor.n _ c.with_multiple-5.ensures.value c.number_at-5.ensures.value i;
  c5 = more c.with_multiple-6.result c.number_at-6.result c.args.sum.c5.n c.args.factor.n _ c.with_multiple-6.ensures.value c.number_at-6.ensures.value i;
  c6 = more c.with_multiple-7.result c.number_at-7.result c.args.sum.c6.n c.args.factor.n _ c.with_multiple-7.ensures.value c.number_at-7.ensures.value i;
  c7 = more c.with_multiple-8.result c.number_at-8.result c.args.sum.c7.n c.args.factor.n _ c.with_multiple-8.ensures.value c.number_at-8.ensures.value i;
}

pub returns-clause-most : goal.returns-clause-most
returns-clause-most c = λ n h. record {
  most0 = most_then n (unsigned_abs c.with_multiple.result.n) (unsigned_abs c.args.sum.c0.n) (unsigned_abs c.args.factor.n) c.with_multiple.ensures.most h.most0;
  most1 = most_then n (unsigned_abs c.with_multiple-2.result.n) (unsigned_abs c.args.sum.c1.n) (unsigned_abs c.args.factor.n) c.with_multiple-2.ensures.most h.most1;
  most2 = most_then n (unsigned_abs c.with_multiple-3.result.n) (unsigned_abs c.args.sum.c2.n) (unsigned_abs c.args.factor.n) c.with_multiple-3.ensures.most h.most2;
  most3 = most_then n (unsigned_abs c.with_multiple-4.result.n) (unsigned_abs c.args.sum.c3.n) (unsigned_abs c.args.factor.n) c.with_multiple-4.ensures.most h.most3;
  most4 = most_then n (unsigned_abs c.with_multiple-5.result.n) (unsigned_abs c.args.sum.c4.n) (unsigned_abs c.args.factor.n) c.with_multiple-5.ensures.most h.most4;
  most5 = most_then n (unsigned_abs c.with_multiple-6.result.n) (unsigned_abs c.args.sum.c5.n) (unsigned_abs c.args.factor.n) c.with_multiple-6.ensures.most h.most5;
  most6 = most_then n (unsigned_abs c.with_multiple-7.result.n) (unsigned_abs c.args.sum.c6.n) (unsigned_abs c.args.factor.n) c.with_multiple-7.ensures.most h.most6;
  most7 = most_then n (unsigned_abs c.with_multiple-8.result.n) (unsigned_abs c.args.sum.c7.n) (unsigned_abs c.args.factor.n) c.with_multiple-8.ensures.most h.most7;
}
