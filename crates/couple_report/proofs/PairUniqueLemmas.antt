-- The two irreps are one pair, and what refuses their real forms is one.
use Rattle.std.proofs.Common.{◌≡◌, inl, inr, ℕ, List, Option, Some}
use Rattle.report_steps.specs.Contexts.{Divided}
use Rattle.report_steps.specs.StepLaws.{IsSingleAt, IsSingleFor}
use Rattle.report_steps.specs.declared.refusal.Refusal.{Refusal}
use Rattle.list_report.specs.Choice.{RefusesChoice, IsChosen}
use Rattle.list_report.specs.RealForms.{RefusesForm, IsFormed}
use Rattle.couple_report.specs.Pairs.{ChosenPair, FormedPair, RefusesPair, ArePair, RefusesForms, AreFormed}

abbrev pub ChoicesAreSingle : Type 0
ChoicesAreSingle = (wanted : Option (List ℕ)) (d : Divided) → IsSingleAt (RefusesChoice wanted) (IsChosen wanted) d

module _ (choice : ChoicesAreSingle) (wanted : Option (List ℕ)) (other : List ℕ) (d : Divided) where
  abbrev first : IsSingleAt (RefusesChoice wanted) (IsChosen wanted) d
  first = choice wanted d

  abbrev second : IsSingleAt (RefusesChoice (Some other)) (IsChosen (Some other)) d
  second = choice (Some other) d

  refusal-one : (r s : Refusal) → RefusesPair wanted other d r → RefusesPair wanted other d s → r ≡ s
  refusal-one r s (inl a) (inl b) = first.refusal r s a b
  refusal-one r s (inl a) (inr (c, w, b)) = absurd (first.apart r c a w)
  refusal-one r s (inr (c, w, a)) (inl b) = absurd (first.apart s c b w)
  refusal-one r s (inr (c, w, a)) (inr (e, v, b)) = second.refusal r s a b

  pair-apart : (r : Refusal) (p : ChosenPair) → RefusesPair wanted other d r → ArePair wanted other d p → ⊥
  pair-apart r p (inl a) b = first.apart r p.left a b.0
  pair-apart r p (inr (c, w, a)) b = second.apart r p.right a b.1

  pair-one : (p q : ChosenPair) → ArePair wanted other d p → ArePair wanted other d q → p ≡ q
  pair-one p q a b =
      let left = first.value p.left q.left a.0 b.0 in
      let right = second.value p.right q.right a.1 b.1 in
      λ t. record { left = left t; right = right t }

  pub pair-single : IsSingleAt (RefusesPair wanted other) (ArePair wanted other) d
  pair-single = record { refusal = refusal-one; value = pair-one; apart = pair-apart }

module _ (p : ChosenPair) (left : IsSingleFor RefusesForm IsFormed p.left p.left) (right : IsSingleFor RefusesForm IsFormed p.right p.right) where
  refused-one : (r s : Refusal) → RefusesForms p r → RefusesForms p s → r ≡ s
  refused-one r s (inl a) (inl b) = left.refusal r s a b
  refused-one r s (inl a) (inr (x, w, b)) = absurd (left.first r x a w)
  refused-one r s (inr (x, w, a)) (inl b) = absurd (left.first s x b w)
  refused-one r s (inr (x, w, a)) (inr (y, v, b)) = right.refusal r s a b

  formed-apart : (r : Refusal) (x : FormedPair) → RefusesForms p r → AreFormed p x → ⊥
  formed-apart r x (inl a) b = left.first r x.left a b.0
  formed-apart r x (inr (y, w, a)) b = right.first r x.right a b.1

  pub forms-single : IsSingleFor RefusesForms AreFormed p p
  forms-single = record { refusal = refused-one; first = λ r x a b. formed-apart r x a b; second = λ r x b a. formed-apart r x a b }
