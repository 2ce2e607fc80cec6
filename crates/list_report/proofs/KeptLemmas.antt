-- The pure translations of a stabiliser rise.
use Rattle.std.proofs.Common.{◌≡◌, ap, ◌∙◌, subst, ℕ, ◌<◌, ◌+◌, ◌*◌, ◌/◌, ◌%◌, length, get_or, arith}
use Rattle.std.specs.Prelude.{nat_eq}
use Rattle.std.specs.declared.cmp.Ordering.TheVariants.{Less}
use Rattle.std.proofs.lemmas.Bool.{eqb-true}
use Rattle.std.proofs.Math.Nat.{div-eq_of_lt, mod-eq_of_lt, lt-div-mul-add}
use Rattle.std.proofs.lemmas.List.Elements.{filter_passes}
use Rattle.std.proofs.lemmas.List.Kept.{AllPairs-from_increasing, AllPairs-filter}
use Rattle.algebra.specs.Whole.{whole}
use Rattle.space_ops.specs.LeastShift.{vector_cmp}
use Rattle.space_ops.specs.OpLaws.{seitz_product-identity}
use Rattle.space_ops.specs.Seitz.{seitz_product}
use Rattle.super_group.specs.Supercell.{IsSameElement}
use Rattle.super_group.specs.SupercellLaws.{inside-unique}
use Rattle.super_group.specs.Quotient.{SupercellGroup, IsQuotient, translation_at, element_of}
use Rattle.super_group.specs.QuotientLaws.{element-inside}
use Rattle.super_group.specs.ElementLaws.{element-same}
use Rattle.super_group.specs.Elements.{translation_element}
use Rattle.super_group.specs.PlaceLaws.{zero-first}
use Rattle.space_ops.specs.Words.{op_at}
use Rattle.list_report.specs.StabiliserText.{members_with}
use Rattle.list_report.specs.StabiliserTextLaws.{KeptRise}

below-of : (a n : ℕ) → 0 < n → a / n ≡ 0 → a < n
below-of a n l e =
    let none : 0 * n + n ≡ n = omega arith in
    subst (λ (m : ℕ). a < m) (ap (λ (q : ℕ). q * n + n) e ∙ none) (lt-div-mul-add l)

left-of : (a n : ℕ) → a < n → (a / n ≡ 0) × (a % n ≡ a)
left-of a n l = (div-eq_of_lt l, mod-eq_of_lt l)

module _ (s : SupercellGroup) (h : IsQuotient s) where
  abbrev T : ℕ
  T = length s.translations

  -- element t is {E|t}
  shift-of : (t : ℕ) → t < T → (element_of s t).shift ≡ translation_at s.translations t
  shift-of t l =
      let g = translation_element s t in
      let of = left-of t T l in
      let move : seitz_product whole (translation_element s (t % T)) (op_at s.parent.ops (t / T)) ≡ g =
      (λ i. seitz_product whole (translation_element s (of.1 i)) (op_at s.parent.ops (of.0 i))) ∙ ap (seitz_product whole g) h.parent.list.identity ∙ seitz_product-identity g in
      let same : IsSameElement s.d (element_of s t) g = subst (IsSameElement s.d (element_of s t)) move (element-same s h t) in
      inside-unique s.d (element_of s t).shift (translation_at s.translations t) (element-inside s h t) (h.translations.inside t l) same.translation

  before : (a b : ℕ) → a < b → b < T → vector_cmp (element_of s a).shift (element_of s b).shift ≡ Less
  before a b l m =
      (λ i. vector_cmp (shift-of a (omega (arith, l, m)) i) (shift-of b m i)) ∙ h.translations.rising a b l m

  some : 0 < T
  some = (zero-first s.parent.lattice s.d s.translations h.supercell.positive h.translations).0

pub kept-rise : KeptRise
kept-rise s h hs up i j d l m =
    let test = λ (a : ℕ). nat_eq (a / length s.translations) 0 in
    let b = get_or (members_with s hs 0) j d in
    let pure : b / length s.translations ≡ 0 = eqb-true (b / length s.translations) 0 (filter_passes test hs j d m) in
    before s h (get_or (members_with s hs 0) i d) b (AllPairs-filter (λ x y. x < y) test hs (AllPairs-from_increasing hs up) i j d l m) (below-of b (length s.translations) (some s h) pure)
