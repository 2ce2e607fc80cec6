-- Classes by the generators: a set of places that the generators keep is kept by the group.
use Rattle.std.proofs.Common.{◌≡◌, ◌↔◌, ◌<◌, ℕ, true, false, List, [], ◌∷◌, Contains, refl, sym, ◌∙◌, ap, subst, slice_index}
use Rattle.std.specs.declared.cmp.Ordering.{Ordering}
use Rattle.std.specs.declared.cmp.Ordering.TheVariants.{Less, Equal, Greater}
use Rattle.std.specs.Ordering.{is_gt, is_lt, ordering_reverse}
use Rattle.std.specs.Cmp.{IsTotalOrder}
use Rattle.std.proofs.lemmas.Cmp.{upto, tied_itself}
use Rattle.std.proofs.Math.Logic.{∥∥₁_elim}
use mathlib.Core.Bool.{Bool-set}
use Rattle.algebra.specs.GeneratedLaws.{word-below}
use Rattle.algebra.specs.NumberedGroup.{Group, IsGroup, IsGenerated, AllBelow, word}
use Rattle.class_list.specs.declared.arrows.Arrow.{Arrow}
use Rattle.class_list.specs.Arrows.{IsPath}
use Rattle.class_list.specs.Least.{AreLeast, AreSettled}
use Rattle.class_list.proofs.GroupLemmas.{Conjugates, conjugates-own, conjugates-then, conjugates-back, conjugates-one}

not_less : (o : Ordering) → is_lt o ≡ false → is_gt (ordering_reverse o) ≡ false
not_less Less h = let t : true ≡ false = h in absurd cc
not_less Equal h = refl
not_less Greater h = refl

neither : (o : Ordering) → is_gt o ≡ false → is_gt (ordering_reverse o) ≡ false → o ≡ Equal
neither Less h k = let t : true ≡ false = k in absurd cc
neither Equal h k = refl
neither Greater h k = let t : true ≡ false = h in absurd cc

-- what isn't after another both ways ties with it
pub ties : {K : Type 0} {R : K → K → Ordering} → IsTotalOrder R → (x y : K) → is_gt (R x y) ≡ false → is_gt (R y x) ≡ false → R x y ≡ Equal
ties {K} {R} o x y h k = neither (R x y) h (ap is_gt (sym (o.antisymm y x)) ∙ k)

pub not-before : {K : Type 0} {R : K → K → Ordering} → IsTotalOrder R → (x y : K) → is_lt (R x y) ≡ false → is_gt (R y x) ≡ false
not-before {K} {R} o x y h = ap is_gt (o.antisymm y x) ∙ not_less (R x y) h

module _ (g : Group) (law : IsGroup g) (generators : ℕ) (generator : ℕ → ℕ) (generator_below : (p : ℕ) → p < generators → generator p < g.order) (generated : IsGenerated g generators generator)
    (n : ℕ) (S : ℕ → ℕ → Type 0) (apart : (i j : ℕ) → i < n → j < n → ((a : ℕ) → a < g.order → S i a ↔ S j a) → i ≡ j)
    (arrows : List Arrow) (within : (s : Arrow) → Contains arrows s → (s.from < n) × (s.to < n))
    (sound : (s : Arrow) → Contains arrows s → (q : ℕ) × (q < g.order) × Conjugates g law q (S s.from) (S s.to))
    (each : (p k : ℕ) → p < generators → k < n → (s : Arrow) × Contains arrows s × (s.from ≡ k) × Conjugates g law (generator p) (S k) (S s.to))
    (cmp : ℕ → ℕ → Ordering) (o : IsTotalOrder cmp) (tied : (i j : ℕ) → i < n → j < n → cmp i j ≡ Equal → i ≡ j)
    (least : List ℕ) (all : AreLeast cmp n arrows least) (settled : AreSettled cmp arrows least) where
  abbrev L : ℕ → ℕ
  L i = slice_index least i

  falls : (s : Arrow) → Contains arrows s → is_gt (cmp (L s.to) (L s.from)) ≡ false
  falls s c = not-before o (L s.from) (L s.to) (settled s c)

  -- along a word the least place falls
  walk : (is : List ℕ) → AllBelow generators is → (i : ℕ) → i < n → (k : ℕ) × (k < n) × Conjugates g law (word g.product generator is) (S i) (S k) × (is_gt (cmp (L k) (L i)) ≡ false)
  walk [] b i l = (i, l, conjugates-own g law (S i), ap is_gt (tied_itself o (L i)))
  walk (p ∷ is) b i l =
      let r = walk is b.1 i l in
      let t = each p r.0 b.0 r.1 in
      let s : Arrow = t.0 in
      let fall : is_gt (cmp (L s.to) (L r.0)) ≡ false = subst (λ (z : ℕ). is_gt (cmp (L s.to) (L z)) ≡ false) t.2 (falls s t.1) in (
        s.to,
        (within s t.1).1,
        conjugates-then g law (generator p) (word g.product generator is) (S i) (S r.0) (S s.to) (generator_below p b.0) (word-below g law generators generator generator_below is b.1) r.2 t.3,
        upto o (L s.to) (L r.0) (L i) fall r.3,
      )

  falls-along : (q i j : ℕ) → q < g.order → i < n → j < n → Conjugates g law q (S i) (S j) → is_gt (cmp (L j) (L i)) ≡ false
  falls-along q i j l m k c =
      ∥∥₁_elim (generated q l) (Bool-set (is_gt (cmp (L j) (L i))) false) (λ w.
      let r = walk w.0 w.1 i m in
      let d : Conjugates g law q (S i) (S r.0) = subst (λ (z : ℕ). Conjugates g law z (S i) (S r.0)) (sym w.2) r.2 in
      let e : r.0 ≡ j = apart r.0 j r.1 k (conjugates-one g law q (S i) (S r.0) (S j) l d c) in
      subst (λ (z : ℕ). is_gt (cmp (L z) (L i)) ≡ false) e r.3)

  -- places of one class have one least place
  pub class-least : (q i j : ℕ) → q < g.order → i < n → j < n → Conjugates g law q (S i) (S j) → L i ≡ L j
  class-least q i j l m k c =
      let back = conjugates-back g law q (S i) (S j) l c in
      tied (L i) (L j) (all.below i m) (all.below j k)
      (ties o (L i) (L j) (falls-along (g.inverse q) j i (law.inverse_below q l) k m back) (falls-along q i j l m k c))

  along : (path : List Arrow) (a b : ℕ) → IsPath arrows path a b → (q : ℕ) × (q < g.order) × Conjugates g law q (S a) (S b)
  along [] a b e = (0, law.identity_below, subst (λ (z : ℕ). Conjugates g law 0 (S a) (S z)) e (conjugates-own g law (S a)))
  along (s ∷ path) a b e =
      let r = along path a s.from e.0 in
      let t = sound s e.1 in
      (g.product t.0 r.0, law.product_below t.0 r.0 t.1 r.1, subst (λ (z : ℕ). Conjugates g law (g.product t.0 r.0) (S a) (S z)) e.2 (conjugates-then g law t.0 r.0 (S a) (S s.from) (S s.to) t.1 r.1 r.2 t.2))

  -- the least place of a place is of its class
  pub least-class : (i : ℕ) → i < n → (q : ℕ) × (q < g.order) × Conjugates g law q (S (L i)) (S i)
  least-class i l = let r = all.reached i l in along r.0 (L i) i r.1

  -- a least place is its own
  pub least-own : (i : ℕ) → i < n → L (L i) ≡ L i
  least-own i l = let r = least-class i l in class-least r.0 (L i) i r.1 (all.below i l) l r.2

  -- a place that is its own least is no later than any of its class
  pub least-of : (q i j : ℕ) → q < g.order → i < n → j < n → L i ≡ i → Conjugates g law q (S i) (S j) → is_gt (cmp i j) ≡ false
  least-of q i j l m k e c =
      subst (λ (z : ℕ). is_gt (cmp z j) ≡ false) (sym (class-least q i j l m k c) ∙ e) (all.lower j k)
