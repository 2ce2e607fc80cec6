-- Each step of the work has one answer.
use Rattle.std.proofs.Common.{◌≡◌, sym, ap, ◌∙◌, subst, inl, inr, ℕ, ◌<◌, ◌≤◌, ℤ, List, Option, Some, None, arith}
use Rattle.iso_text.specs.FileLaws.{FilesAreUnique, CausesAreUnique, FilesHaveNoCause}
use Rattle.iso_text.specs.FileValue.{File}
use Rattle.iso_text.specs.Lines.{lines_of}
use Rattle.iso_text.specs.declared.sections.OpLine.{OpLine}
use Rattle.iso_text.specs.declared.sections.OpsText.{OpsText}
use Rattle.hall_symbol.specs.Grammar.{IsHallSymbol}
use Rattle.space_ops.specs.declared.lattice.Lattice.{Lattice}
use Rattle.space_ops.specs.declared.op.Op.{Op}
use Rattle.space_ops.specs.Group.{Parent, IsListOf}
use Rattle.super_group.specs.Multipliers.{AreMultipliers}
use Rattle.super_group.specs.Quotient.{SupercellGroup, AreTranslations, order_in}
use Rattle.report_steps.specs.declared.refusal.Refusal.{Refusal}
use Rattle.report_steps.specs.declared.refusal.Refusal.TheVariants as refusal
use Rattle.report_steps.specs.Contexts.{Parented, Divided}
use Rattle.report_steps.specs.Generators.{op_line_at, IsFirstBad, RefusesGivenBy, AreGivenBy}
use Rattle.report_steps.specs.Stages.{RefusesText, IsRead, RefusesGroup, IsParentOf, RefusesParent, IsParented, denominators_of, RefusesOrder, IsDivided}
use Rattle.report_steps.specs.StepLaws.{IsSingle}
use Rattle.report_steps.proofs.TranslationLemmas.{translations-unique, multiplier_list-unique}

-- ---- the text

pub text-single : FilesAreUnique → CausesAreUnique → FilesHaveNoCause → IsSingle RefusesText IsRead
text-single files causes apart = record {
  refusal = λ bytes r s x y. x.2 ∙ ap (λ n. refusal.BadText n) (causes (lines_of bytes) x.0 y.0 x.1 y.1) ∙ sym y.2;
  value = λ bytes f g x y. files (lines_of bytes) f g x y;
  apart = λ bytes r f x y. apart (lines_of bytes) f x.0 y x.1;
}

-- ---- the generators

smaller : (p q : ℕ) → (p < q → ⊥) → (q < p → ⊥) → p ≡ q
smaller p q h k = grind arith

first_bad-unique : (lines : List OpLine) (k j : ℕ) → IsFirstBad lines k → IsFirstBad lines j → k ≡ j
first_bad-unique lines k j a b = smaller k j (λ l. a.bad (b.before k l)) (λ l. b.bad (a.before j l))

some-same : {X : Type 0} (x y : X) → Some x ≡ Some y → x ≡ y
some-same x y e = cc

-- each symbol has one lattice and one list of generators
abbrev pub SymbolsAreUnique : Type 0
SymbolsAreUnique = (text : List ℕ) (l m : Lattice) (gens more : List Op) → IsHallSymbol text l gens → IsHallSymbol text m more → (l ≡ m) × (gens ≡ more)

given-unique : SymbolsAreUnique → (file : File) (o : Option OpsText) (l m : Lattice) (gens more : List Op) → AreGivenBy file o l gens → AreGivenBy file o m more → (l ≡ m) × (gens ≡ more)
given-unique symbols file None l m gens more x y = symbols file.hall l m gens more x y
given-unique symbols file (Some g) l m gens more (e, _, k) (f, _, j) = (some-same l m (sym e ∙ f), k ∙ sym j)

given-refusal : (file : File) (o : Option OpsText) (r s : Refusal) → RefusesGivenBy file o r → RefusesGivenBy file o s → r ≡ s
given-refusal file None r s x y = x.1 ∙ sym y.1
given-refusal file (Some g) r s (k, b, e) (j, c, h) = e ∙ ap (λ n. refusal.BadOperation (slice_line g.ops n)) (first_bad-unique g.ops k j b c) ∙ sym h
  where
    slice_line : List OpLine → ℕ → ℕ
    slice_line lines n = (op_line_at lines n).line

given-apart : (file : File) (o : Option OpsText) (r : Refusal) (l : Lattice) (gens : List Op) → RefusesGivenBy file o r → AreGivenBy file o l gens → ⊥
given-apart file None r l gens x y = x.0 l gens y
given-apart file (Some g) r l gens (k, b, _) (_, good, _) = b.bad (good k b.below)

-- ---- the group

group-refusal : (l : Lattice) (gens : List Op) (r s : Refusal) → RefusesGroup l gens r → RefusesGroup l gens s → r ≡ s
group-refusal l gens r s (inl x) (inl y) = x.1 ∙ sym y.1
group-refusal l gens r s (inl x) (inr y) = absurd (y.0 x.0)
group-refusal l gens r s (inr x) (inl y) = absurd (x.0 y.0)
group-refusal l gens r s (inr (_, _, e)) (inr (_, _, h)) = e ∙ sym h

group-apart : (l : Lattice) (gens : List Op) (r : Refusal) (p : Parent) → RefusesGroup l gens r → IsParentOf l gens p → ⊥
group-apart l gens r p (inl x) y = y.few x.0
group-apart l gens r p (inr (_, x, _)) y = y.pure x

-- each group has one list
abbrev pub ListsAreUnique : Type 0
ListsAreUnique = (gens : List Op) (l : Lattice) (xs ys : List Op) → IsListOf gens l xs → IsListOf gens l ys → xs ≡ ys

abbrev parent : List Op → Lattice → List Op → Parent
parent ops l gens = record { ops = ops; lattice = l; generators = gens }

parent-same : (p q : Parent) → p.ops ≡ q.ops → p.lattice ≡ q.lattice → p.generators ≡ q.generators → p ≡ q
parent-same p q a b c = (λ t. parent (a t) (b t) (c t))

parent-unique : ListsAreUnique → (l : Lattice) (gens : List Op) (p q : Parent) → IsParentOf l gens p → IsParentOf l gens q → p ≡ q
parent-unique lists l gens p q a b =
    let P : List Op → Type 0 = λ g. IsListOf g q.lattice q.ops in
    let Q : Lattice → Type 0 = λ m. IsListOf p.generators m q.ops in
    let same_gens : q.generators ≡ p.generators = b.generators_are ∙ sym a.generators_are in
    let same_lattice : q.lattice ≡ p.lattice = b.lattice_is ∙ sym a.lattice_is in
    parent-same p q (lists p.generators p.lattice p.ops q.ops a.group.list (subst Q same_lattice (subst P same_gens b.group.list))) (sym same_lattice) (sym same_gens)

abbrev parented : File → Parent → Parented
parented file p = record { file = file; parent = p }

parented-same : (p q : Parented) → p.file ≡ q.file → p.parent ≡ q.parent → p ≡ q
parented-same p q a b = (λ t. parented (a t) (b t))

module _ (symbols : SymbolsAreUnique) (lists : ListsAreUnique) where
  refusal-one : (file : File) (r s : Refusal) → RefusesParent file r → RefusesParent file s → r ≡ s
  refusal-one file r s (inl x) (inl y) = given-refusal file file.generators r s x y
  refusal-one file r s (inl x) (inr (m, more, y, _)) = absurd (given-apart file file.generators r m more x y)
  refusal-one file r s (inr (l, gens, x, _)) (inl y) = absurd (given-apart file file.generators s l gens y x)
  refusal-one file r s (inr (l, gens, x, k)) (inr (m, more, y, j)) =
      let e = given-unique symbols file file.generators l m gens more x y in
      let P : Lattice → Type 0 = λ a. RefusesGroup a gens r in
      let Q : List Op → Type 0 = λ g. RefusesGroup m g r in
      group-refusal m more r s (subst Q e.1 (subst P e.0 k)) j

  value-one : (file : File) (p q : Parented) → IsParented file p → IsParented file q → p ≡ q
  value-one file p q (l, gens, x, k, h) (m, more, y, j, i) =
      let e = given-unique symbols file file.generators l m gens more x y in
      let P : Lattice → Type 0 = λ a. IsParentOf a gens p.parent in
      let Q : List Op → Type 0 = λ g. IsParentOf m g p.parent in
      parented-same p q (h ∙ sym i) (parent-unique lists m more p.parent q.parent (subst Q e.1 (subst P e.0 k)) j)

  apart-one : (file : File) (r : Refusal) (p : Parented) → RefusesParent file r → IsParented file p → ⊥
  apart-one file r p (inl x) (m, more, y, _, _) = given-apart file file.generators r m more x y
  apart-one file r p (inr (l, gens, x, k)) (m, more, y, j, i) =
      let e = given-unique symbols file file.generators l m gens more x y in
      let P : Lattice → Type 0 = λ a. RefusesGroup a gens r in
      let Q : List Op → Type 0 = λ g. RefusesGroup m g r in
      group-apart m more r p.parent (subst Q e.1 (subst P e.0 k)) j

  pub parent-single : IsSingle RefusesParent IsParented
  parent-single = record { refusal = refusal-one; value = value-one; apart = apart-one }

-- ---- the quotient

abbrev supercell_group : Parent → List ℕ → List (List ℤ) → SupercellGroup
supercell_group p d ts = record { parent = p; d = d; translations = ts }

supercell_group-same : (s t : SupercellGroup) → s.parent ≡ t.parent → s.d ≡ t.d → s.translations ≡ t.translations → s ≡ t
supercell_group-same s t a b c = (λ i. supercell_group (a i) (b i) (c i))

abbrev divided : File → SupercellGroup → Divided
divided file s = record { file = file; quotient = s }

divided-same : (a b : Divided) → a.file ≡ b.file → a.quotient ≡ b.quotient → a ≡ b
divided-same a b x y = (λ t. divided (x t) (y t))

divided-unique : (p : Parented) (a b : Divided) → IsDivided p a → IsDivided p b → a ≡ b
divided-unique p a b x y =
    let same_d : b.quotient.d ≡ a.quotient.d = multiplier_list-unique p.parent.ops (denominators_of p.file) b.quotient.d a.quotient.d y.multipliers x.multipliers in
    let same_parent : b.quotient.parent ≡ a.quotient.parent = y.parent_is ∙ sym x.parent_is in
    let P : List ℕ → Type 0 = λ d. AreTranslations b.quotient.parent.lattice d b.quotient.translations in
    let Q : Parent → Type 0 = λ q. AreTranslations q.lattice a.quotient.d b.quotient.translations in
    let ts = subst Q same_parent (subst P same_d y.quotient.translations) in
    divided-same a b (x.file_is ∙ sym y.file_is)
    (supercell_group-same a.quotient b.quotient (sym same_parent) (sym same_d)
    (translations-unique a.quotient.parent.lattice a.quotient.d a.quotient.translations b.quotient.translations x.quotient.translations ts))

order-unique : (p : Parented) (d e : List ℕ) → AreMultipliers p.parent.ops (denominators_of p.file) d → AreMultipliers p.parent.ops (denominators_of p.file) e → order_in p.parent d ≡ order_in p.parent e
order-unique p d e a b = ap (order_in p.parent) (multiplier_list-unique p.parent.ops (denominators_of p.file) d e a b)

pub order-single : IsSingle RefusesOrder IsDivided
order-single = record {
  refusal = λ p r s (d, a, _, e) (c, b, _, h). e ∙ ap (λ n. refusal.TooLargeGroup n) (order-unique p d c a b) ∙ sym h;
  value = divided-unique;
  apart = λ p r b (d, a, large, _) y. let same : order_in p.parent d ≡ order_in p.parent b.quotient.d = order-unique p d b.quotient.d a y.multipliers in absurd (too_large (order_in p.parent d) (order_in p.parent b.quotient.d) same large y.small);
}
  where
    too_large : (m n : ℕ) → m ≡ n → 6144 < m → n ≤ 6144 → ⊥
    too_large m n e l k = absurd (omega (arith, e, l, k))
