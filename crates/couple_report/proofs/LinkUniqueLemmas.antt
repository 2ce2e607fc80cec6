-- What `link` finds is one.
use Rattle.std.proofs.Common.{◌≡◌, refl, sym, ap, ◌∙◌, subst, ℕ, ◌<◌, List, Option, Some, None}
use Rattle.algebra.specs.NumberedGroup.{Group}
use Rattle.cyclo24.specs.ExactZ24.{ExactZ24, z24_laws}
use Rattle.iso_text.specs.declared.sections.IrrepText.{IrrepText}
use Rattle.kstar.specs.Star.{WaveStar}
use Rattle.super_group.specs.Quotient.{SupercellGroup, IsQuotient, quotient_group}
use Rattle.small_rep.specs.SmallRep.{Matrices}
use Rattle.couple.specs.Links.{Pair, HasRank}
use Rattle.report_steps.specs.Contexts.{Divided}
use Rattle.report_steps.specs.InducedLaws.{InduceTheSame}
use Rattle.report_steps.specs.Irreps.{IsRepresented}
use Rattle.report_steps.specs.StepLaws.{FindsOneAt, After-single-at, IsSingleAt}
use Rattle.report_steps.specs.Steps.{never}
use Rattle.list_report.specs.Choice.{RefusesChoice, IsChosen}
use Rattle.list_report.specs.Contexts.{Chosen}
use Rattle.list_report.specs.RealForms.{matrices_by, dimension_by}
use Rattle.couple_report.specs.LinkFound.{entry_in, IsLinked, IsLinkOfPair, RefusesNoLink, AreWideLinks, HaveLink, IsLinkReported, AfterLinkedPair, IsLinkFound}
use Rattle.couple_report.specs.LinkReport.{LinkMatrix}
use Rattle.couple_report.specs.Pairs.{ChosenPair, RefusesPair, ArePair}
use Rattle.couple_report.proofs.LinkLemmas.{pair_with, intertwines-to, links-one, lists-one, rank-one}
use Rattle.couple_report.proofs.PairUniqueLemmas.{pair-single}

-- what an irrep induces is one
abbrev pub IrrepsInduceOne : Type 0
IrrepsInduceOne =
    (q : SupercellGroup) → IsQuotient q → (i : IrrepText) (s t : WaveStar) (g m : Matrices) → IsRepresented q.parent i s g → IsRepresented q.parent i t m → InduceTheSame q i s t g m

abbrev linked_by : List (List ExactZ24) → ℕ → ℕ → LinkMatrix
linked_by rows cols rank = record { rows = rows; cols = cols; rank = rank }

abbrev Induced : Type 0
Induced = ℕ → ℕ → ℕ → ExactZ24

-- ---- two pairs of representations that agree

module _ (g : Group) (n m : ℕ) (L M R S : Induced) (left : (q a b : ℕ) → a < n → b < n → L q a b ≡ M q a b) (right : (q a b : ℕ) → a < m → b < m → R q a b ≡ S q a b) where
  none-some : (y : LinkMatrix) → IsLinked (pair_with z24_laws g n m L R) None → IsLinked (pair_with z24_laws g n m M S) (Some y) → ⊥
  none-some y h k =
      k.link.nonzero (h (entry_in y.rows) (intertwines-to z24_laws g n m M L S R (λ q a b la lb. sym (left q a b la lb)) (λ q a b la lb. sym (right q a b la lb)) (entry_in y.rows) k.intertwines))

  some-some : (x y : LinkMatrix) → IsLinked (pair_with z24_laws g n m L R) (Some x) → IsLinked (pair_with z24_laws g n m M S) (Some y) → x ≡ y
  some-some x y h k =
      let rows : x.rows ≡ y.rows = lists-one z24_laws n m x.rows y.rows h.rows k.rows h.long k.long
      (λ a b la lb. links-one z24_laws g n m L M R S left right (entry_in x.rows) (entry_in y.rows) h.link k.link a b la) in
      let P : List (List ExactZ24) → Type 0 = λ xs. HasRank z24_laws n m (entry_in xs) y.rank in
      let rank = rank-one z24_laws n m x.rank y.rank (entry_in x.rows) h.rank (subst P (sym rows) k.rank) in
      let cols = h.cols ∙ sym k.cols in
      λ t. linked_by (rows t) (cols t) (rank t)

module _ (g : Group) (n m : ℕ) (L M R S : Induced) (left : (q a b : ℕ) → a < n → b < n → L q a b ≡ M q a b) (right : (q a b : ℕ) → a < m → b < m → R q a b ≡ S q a b) where
  linked-same : (x y : Option LinkMatrix) → IsLinked (pair_with z24_laws g n m L R) x → IsLinked (pair_with z24_laws g n m M S) y → x ≡ y
  linked-same None None h k = refl
  linked-same None (Some y) h k = absurd (none-some g n m L M R S left right y h k)
  linked-same (Some x) None h k = absurd (none-some g n m M L S R (λ q a b la lb. sym (left q a b la lb)) (λ q a b la lb. sym (right q a b la lb)) x k h)
  linked-same (Some x) (Some y) h k = ap Some (some-some g n m L M R S left right x y h k)

-- ---- the link of two irreps

module _ (one : IrrepsInduceOne) (p : ChosenPair) (hl : IsQuotient p.left.quotient) (hr : IsQuotient p.right.quotient) where
  linked-one : (x y : Option LinkMatrix) → IsLinkOfPair p x → IsLinkOfPair p y → x ≡ y
  linked-one x y (m, (s, (g, (t, (h, a, b, e)))), u) (n, (z, (k, (w, (l, c, d, f)))), v) =
      let left = one p.left.quotient hl p.left.irrep s z g k a.rep c.rep in
      let right = one p.right.quotient hr p.right.irrep t w h l b.rep d.rep in
      let P : Pair ExactZ24 → Type 0 = λ o. IsLinked o x in
      let Q : Pair ExactZ24 → Type 0 = λ o. IsLinked o y in
      let R : ℕ → ℕ → Type 0 = λ i j. IsLinked (pair_with z24_laws (quotient_group p.left.quotient) i j (matrices_by p.left z k) (matrices_by p.right w l)) y in
      let second = subst (λ i. R i (dimension_by p.right w)) (sym left.dimension) (subst Q f v) in
      linked-same (quotient_group p.left.quotient) (dimension_by p.left s) (dimension_by p.right t) (matrices_by p.left s g) (matrices_by p.left z k) (matrices_by p.right t h) (matrices_by p.right w l)
      left.entry right.entry x y (subst P e u) (subst (λ j. R (dimension_by p.left s) j) (sym right.dimension) second)

  abbrev Linked : Type 0
  Linked = ChosenPair × Option LinkMatrix

  have-one : (x y : Linked) → HaveLink p x → HaveLink p y → x ≡ y
  have-one x y h k =
      let pair = h.0 ∙ sym k.0 in
      let link = linked-one x.1 y.1 h.1 k.1 in
      λ t. (pair t, link t)

  link-one : FindsOneAt AfterLinkedPair p
  link-one =
      After-single-at RefusesNoLink AreWideLinks HaveLink IsLinkReported p (record { refusal = λ r s a b. absurd a; value = have-one; apart = λ r b a c. absurd a })
      (λ l h f g e k u v. e ∙ sym k)

pub link-found-one : IrrepsInduceOne → ((wanted : Option (List ℕ)) (d : Divided) → IsSingleAt (RefusesChoice wanted) (IsChosen wanted) d) → (d : Divided) → IsQuotient d.quotient → (wanted : Option (List ℕ)) (other : List ℕ)
    → FindsOneAt (IsLinkFound wanted other) d
link-found-one one choice d h wanted other =
    After-single-at (RefusesPair wanted other) never (ArePair wanted other) AfterLinkedPair d (pair-single choice wanted other d)
    (λ p w.
    link-one one p (subst IsQuotient (sym (ap (λ (x : Chosen). x.quotient) w.0.1)) h) (subst IsQuotient (sym (ap (λ (x : Chosen). x.quotient) w.1.1)) h))
