use Rattle.std.proofs.Common.{◌≡◌, ℕ, suc, zero, ◌<◌, sym, ◌∙◌, ap, subst, arith, List, [], ◌∷◌, ◌++◌, ◌+◌, ◌≤◌, length, map, take, get_or, Vec}
use Rattle.std.proofs.lemmas.List.{get_or-map, map-append, take_all, take_more, length-map}
use Rattle.std.specs.List.{All}
use Rattle.cyclo24.specs.declared.k24.K24.{K24}
use Rattle.lin_alg.specs.Matrices.{IsClassFunction}
use Rattle.super_group.specs.Quotient.{SupercellGroup, quotient_group}
use Rattle.super_group.specs.QuotientLaws.{quotient-lawful}
use Rattle.induce.specs.Induced.{weight_at}
use Rattle.induce.specs.InducedLaws.{weight-class}
use Rattle.induce.specs.InducedView.{InducedView, IsInducedOf}
use Rattle.induce.specs.Tables.{size_in, matrices_in}
use Rattle.mode_project.specs.Parts.{rows_in}
use Rattle.mode_project.specs.Weights.{IsClassList, AreWeights, weights_in}

-- the weights of an induced representation are constant on classes
pub weights-class : (g : SupercellGroup) (v : InducedView) → IsInducedOf g v → IsClassList g (weights_in v)
weights-class g v h =
    let at = weight_at g v.tables.star (size_in v.tables) (matrices_in v.tables) in
    let group = quotient-lawful g h.tables.inducible.on.quotient in
    let star = v.tables.star in
    let i = h.tables.inducible in
    let class : IsClassFunction (quotient_group g) at = weight-class g i.on.quotient star.row star i.on.star i.on.phases i.on.cells (size_in v.tables) (matrices_in v.tables) i.small in
    record {
      count = h.count;
      class = λ q p lq lp.
          let s = (quotient_group g).inverse p in
          let ls = group.inverse_below p lp in
          let pq = (quotient_group g).product p q in
          let lpq = group.product_below p q lp lq in
          h.weights ((quotient_group g).product pq s) (group.product_below pq s lpq ls) ∙ class q p lq lp ∙ sym (h.weights q lq);
    }

pub each-class : (g : SupercellGroup) (vs : List InducedView) → All (IsInducedOf g) vs → All (IsClassList g) (map weights_in vs)
each-class g [] h k d l = absurd (omega (arith, l))
each-class g (v ∷ vs) h zero d l = weights-class g v (h zero v (omega arith))
each-class g (v ∷ vs) h (suc k) d l = each-class g vs (λ i e m. h (suc i) e (omega (arith, m))) k d (omega (arith, l))

pub all-weights : (g : SupercellGroup) (vs : List InducedView) (lists : List (List K24)) → lists ≡ map weights_in vs → All (IsInducedOf g) vs → AreWeights g lists
all-weights g vs lists e h = subst (AreWeights g) (sym e) (each-class g vs h)

-- one more list is taken over
pub next-list : {Z : Type 0} (vs : List InducedView) (old new : List (Vec K24 Z)) (k : ℕ) (list : Vec K24 Z) (v : InducedView) → k < length vs → v ≡ get_or vs k v → new ≡ old ++ list ∷ []
    → list.items ≡ weights_in v → rows_in old ≡ take k (map weights_in vs) → rows_in new ≡ take (k + 1) (map weights_in vs)
next-list {Z} vs old new k list v l is e w h =
    let at : get_or (map weights_in vs) k [] ≡ list.items = get_or-map weights_in vs k v [] l ∙ ap weights_in (sym is) ∙ sym w in
    ap (λ (xs : List (Vec K24 Z)). rows_in xs) e
    ∙ map-append (λ (x : Vec K24 Z). x.items) old (list ∷ [])
    ∙ ap (λ xs. xs ++ list.items ∷ []) h
    ∙ sym (take_more (map weights_in vs) k [] (subst (λ (n : ℕ). k < n) (sym (length-map vs weights_in)) l) ∙ ap (λ x. take k (map weights_in vs) ++ x ∷ []) at)

-- all are taken over
pub all-lists : (vs : List InducedView) (lists : List (List K24)) (k : ℕ) → length vs ≤ k → lists ≡ take k (map weights_in vs) → lists ≡ map weights_in vs
all-lists vs lists k l h = h ∙ take_all k (map weights_in vs) (subst (λ (n : ℕ). n ≤ k) (sym (length-map vs weights_in)) l)
