use Rattle.std.proofs.Common.{◌≡◌, ◌≤◌, ℕ, ◌+◌, ◌*◌, sym, ◌∙◌, ap, subst, arith, List, length}
use Rattle.cyclo24.specs.declared.k24.K24.{K24}
use Rattle.cyclo24.specs.K24.{exact24}
use Rattle.cyclo24.specs.ExactK24.{Exact24, k24_laws}
use Rattle.cyclo24.specs.ExactZ24.{ExactZ24, z24_laws}
use Rattle.lin_alg.specs.Matrices.{IsRepresentation, AreEqualBelow, unit_entry}
use Rattle.lin_alg.specs.Reduced.{IsForm}
use Rattle.lin_alg.specs.Rows.{exact_rows, HaveWidth}
use Rattle.super_group.specs.Quotient.{SupercellGroup, IsQuotient, order_of, quotient_group}
use Rattle.induce.specs.declared.kinds.Kind.{Kind}
use Rattle.induce.specs.declared.kinds.Kind.TheVariants.{Real, Complex, Pseudoreal}
use Rattle.induce.specs.Kinds.{real_dimension}
use Rattle.real_form.specs.Bases.{unit_rows}
use Rattle.real_form.specs.Complexes.{z24_parts}
use Rattle.real_form.specs.KeptBasis.{IsKept, IsKeptBasis}
use Rattle.real_form.specs.Orbits.{FirstOf}
use Rattle.real_form.specs.RealBasis.{IsBasisOf, FitsNot, IsRealBasis}
use Rattle.real_form.proofs.AnswerLemmas.{first-some}
use Rattle.real_form.proofs.AssemblyLemmas.{length-exact}
use Rattle.real_form.proofs.BasisLaws.{unit-form}
use Rattle.real_form.proofs.FormLaws.{orbit-kept, whole-kept}

module _ (s : SupercellGroup) (h : IsQuotient s) (n : ℕ) (D : ℕ → ℕ → ℕ → ExactZ24) (rep : IsRepresentation z24_laws (quotient_group s) n D) (one : AreEqualBelow n (D 0) (unit_entry z24_laws)) (rows : List (ℕ × List K24)) where
  -- the rows of the first span that fits are a basis that is kept
  pub spanned-kept : (vs : List (ℕ → ExactZ24)) → HaveWidth (n + n) rows → FirstOf (IsBasisOf n (order_of s) D (exact_rows k24_laws exact24 rows)) (FitsNot n (order_of s) D) vs → IsKeptBasis (order_of s) n D rows
  spanned-kept vs width first =
      let w = first-some (IsBasisOf n (order_of s) D (exact_rows k24_laws exact24 rows)) (FitsNot n (order_of s) D) vs first in record {
        width = width;
        form = w.1.0.form;
        kept = orbit-kept z24_parts n s h D rep one w.0 (exact_rows k24_laws exact24 rows) w.1.0;
      }

  -- and so are all unit vectors
  pub doubled-kept : HaveWidth (n + n) rows → exact_rows k24_laws exact24 rows ≡ unit_rows k24_laws 0 (n + n) → IsKeptBasis (order_of s) n D rows
  doubled-kept width e = record {
    width = width;
    form = subst (IsForm k24_laws (n + n)) (sym e) (unit-form k24_laws (n + n));
    kept = subst (IsKept (order_of s) n D) (sym e) (whole-kept z24_parts n s h D rep one);
  }

-- as many as the complex dimension
pub spanned-count : (n m : ℕ) (D : ℕ → ℕ → ℕ → ExactZ24) (rows : List (ℕ × List K24)) (vs : List (ℕ → ExactZ24)) → FirstOf (IsBasisOf n m D (exact_rows k24_laws exact24 rows)) (FitsNot n m D) vs → length rows ≡ n
spanned-count n m D rows vs first =
    let w = first-some (IsBasisOf n m D (exact_rows k24_laws exact24 rows)) (FitsNot n m D) vs first in
    sym (length-exact k24_laws exact24 rows) ∙ w.1.1

-- the basis by kind
module _ (kind : Kind) (n m : ℕ) (D : ℕ → ℕ → ℕ → ExactZ24) (cs : List (ℕ → ExactZ24)) (rs : List (ℕ × (ℕ → Exact24))) where
  pub basis-real : kind ≡ Real → FirstOf (IsBasisOf n m D rs) (FitsNot n m D) cs → IsRealBasis kind n m D cs rs
  basis-real e h = subst (λ (k : Kind). IsRealBasis k n m D cs rs) (sym e) h

  pub basis-complex : kind ≡ Complex → rs ≡ unit_rows k24_laws 0 (n + n) → IsRealBasis kind n m D cs rs
  basis-complex e h = subst (λ (k : Kind). IsRealBasis k n m D cs rs) (sym e) h

  pub basis-pseudoreal : kind ≡ Pseudoreal → rs ≡ unit_rows k24_laws 0 (n + n) → IsRealBasis kind n m D cs rs
  basis-pseudoreal e h = subst (λ (k : Kind). IsRealBasis k n m D cs rs) (sym e) h

-- at most 24 rows, by kind
module _ (kind : Kind) (n r : ℕ) (e : r ≡ real_dimension kind n) (few : r ≤ 24) where
  pub few-real : kind ≡ Real → n ≤ 24
  few-real k = let same : r ≡ n = e ∙ ap (λ x. real_dimension x n) k in omega (arith, same, few)

  pub few-complex : kind ≡ Complex → n + n ≤ 24
  few-complex k = let same : r ≡ 2 * n = e ∙ ap (λ x. real_dimension x n) k in omega (arith, same, few)

  pub few-pseudoreal : kind ≡ Pseudoreal → n + n ≤ 24
  few-pseudoreal k = let same : r ≡ 2 * n = e ∙ ap (λ x. real_dimension x n) k in omega (arith, same, few)

-- as many rows as the real dimension, by kind
module _ (kind : Kind) (n : ℕ) where
  pub count-real : kind ≡ Real → n ≡ real_dimension kind n
  count-real k = sym (ap (λ x. real_dimension x n) k)

  two : n + n ≡ 2 * n
  two = omega arith

  pub count-complex : kind ≡ Complex → n + n ≡ real_dimension kind n
  count-complex k = two ∙ sym (ap (λ x. real_dimension x n) k)

  pub count-pseudoreal : kind ≡ Pseudoreal → n + n ≡ real_dimension kind n
  count-pseudoreal k = two ∙ sym (ap (λ x. real_dimension x n) k)
