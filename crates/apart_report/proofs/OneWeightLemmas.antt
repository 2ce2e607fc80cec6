-- What is told of the pairs of a file is one.
use Rattle.std.proofs.Common.{◌≡◌, refl, sym, ◌∙◌, subst, ◌↔◌, ℕ, Bool, true, false, List}
use Rattle.cyclo24.specs.ExactK24.{Exact24}
use Rattle.super_group.specs.Quotient.{SupercellGroup}
use Rattle.report_steps.specs.Contexts.{Divided}
use Rattle.report_steps.specs.EachLaws.{each-same}
use Rattle.report_steps.specs.IrrepSteps.{Each}
use Rattle.report_steps.specs.StepLaws.{IsSingleAt, FindsOneAt, After-single-at}
use Rattle.apart_report.specs.ApartFound.{Weighted, weighted, pairs_of, IsToldOf, RefusesNone, AreWidePairs, ArePairsTold, IsReported, AreApartFound}
use Rattle.apart_report.specs.ApartReport.{ToldPair}
use Rattle.mode_report.specs.OneWeightLaws.{InduceOne, weights-one}

one-answer : (P : Type 0) (a b : Bool) → ((a ≡ true) ↔ P) → ((b ≡ true) ↔ P) → a ≡ b
one-answer P true b f g = sym (g.1 (f.0 refl))
one-answer P false true f g = f.1 (g.0 refl)
one-answer P false false f g = refl

told-one : (q : SupercellGroup) (pair : Weighted × Weighted) (t u : ToldPair) → IsToldOf q pair t → IsToldOf q pair u → t ≡ u
told-one q pair t u a b =
    let name = a.name_is ∙ sym b.name_is in
    let other = a.other_is ∙ sym b.other_is in
    let apart = one-answer _ t.apart u.apart a.apart b.apart in
    λ i. record { name = name i; other = other i; apart = apart i }

module _ (d : Divided) (one : InduceOne d.quotient) where
  told-same : (x y : List ToldPair) → ArePairsTold d x → ArePairsTold d y → x ≡ y
  told-same x y (ws, w, a) (vs, v, b) =
      let q = d.quotient in
      let e : vs ≡ ws = weights-one q one d.file.irreps vs ws v w in
      let P : List (ℕ → Exact24) → Type 0 = λ s. Each (IsToldOf q) (pairs_of (weighted d.file.irreps s)) y in
      each-same (IsToldOf q) (pairs_of (weighted d.file.irreps ws)) x y (told-one q) a (subst P e b)

  single : IsSingleAt RefusesNone ArePairsTold d
  single = record { refusal = λ r s h k. absurd h; value = told-same; apart = λ r told h k. h }

  pub pairs-one : FindsOneAt AreApartFound d
  pairs-one = After-single-at RefusesNone AreWidePairs ArePairsTold (IsReported d.file.format) d single (λ told h f g a b u v. a ∙ sym b)
