-- The order of directions: total, and written rows compare as exact ones.
use Rattle.std.proofs.Common.{◌≡◌, ◌<◌, ℕ, suc, zero, List, [], ◌∷◌, length, map, refl, sym, ◌∙◌, ap, subst, arith, nat_cmp}
use Rattle.std.specs.declared.cmp.Ordering.{Ordering}
use Rattle.std.specs.declared.cmp.Ordering.TheVariants.{Less, Equal, Greater}
use Rattle.std.specs.Ordering.{ordering_then}
use Rattle.std.specs.Cmp.{IsTotalOrder}
use Rattle.std.specs.Cmp.Lexicographic.{slice_cmp}
use Rattle.std.proofs.lemmas.Cmp.{tied_back, on_total, then_total, back_total, lists_total, nat_cmp_total}
use Rattle.cyclo24.specs.ExactField.{ExactField, Value}
use Rattle.cyclo24.specs.TotalLaws.{total-same}
use Rattle.lin_alg.specs.Action.{Action}
use Rattle.lin_alg.specs.Compared.{lines_cmp}
use Rattle.lin_alg.specs.Equations.{Vanishes}
use Rattle.lin_alg.specs.FormLaws.{form-unique}
use Rattle.lin_alg.specs.Reduced.{IsForm}
use Rattle.lin_alg.specs.Rows.{vector, exact_rows, HaveWidth}
use Rattle.lin_alg.specs.Spans.{row_vectors}
use Rattle.class_list.specs.declared.order.Order.{Order}
use Rattle.class_list.specs.declared.order.Order.TheVariants.{Dimension, Index}
use Rattle.class_list.specs.Directions.{Direction, dim_of, direction_cmp, entries, equations_cmp}

pub equations-total : (f : ExactField) (w : ℕ) → IsTotalOrder (equations_cmp f.cmp w)
equations-total f w = lists_total (on_total (λ r. entries w r.1) (lists_total f.cmp_total))

pub direction-total : (f : ExactField) (act : Action) (order : Order) → IsTotalOrder (direction_cmp f.cmp act order)
direction-total f act Dimension =
    then_total (on_total (dim_of act) nat_cmp_total)
    (then_total (on_total (λ d. length d.stabiliser) (back_total nat_cmp_total)) (on_total (λ d. d.equations) (equations-total f act.dim)))
direction-total f act Index =
    then_total (on_total (λ d. length d.stabiliser) (back_total nat_cmp_total))
    (then_total (on_total (dim_of act) nat_cmp_total) (on_total (λ d. d.equations) (equations-total f act.dim)))

-- where both parts of an answer are equal
pub then-first : (r s : Ordering) → ordering_then r s ≡ Equal → r ≡ Equal
then-first Less s e = e
then-first Equal s e = refl
then-first Greater s e = e

pub then-second : (r s : Ordering) → ordering_then r s ≡ Equal → s ≡ Equal
then-second r s e = subst (λ (z : Ordering). ordering_then z s ≡ Equal) (then-first r s e) e

less-equal : Less ≡ Equal → ⊥
less-equal e = cc

greater-equal : Greater ≡ Equal → ⊥
greater-equal e = cc

module _ (f : ExactField) where
  -- rows that the order doesn't tell apart have equal entries
  entries-tied : (w : ℕ) (u v : ℕ → Value f) → slice_cmp f.cmp (entries w u) (entries w v) ≡ Equal → (j : ℕ) → j < w → u j ≡ v j
  entries-tied zero u v e j l = absurd (omega arith)
  entries-tied (suc w) u v e zero l = f.cmp-Equal (u 0) (v 0) (then-first (f.cmp (u 0) (v 0)) (slice_cmp f.cmp (entries w (λ j. u (suc j))) (entries w (λ j. v (suc j)))) e)
  entries-tied (suc w) u v e (suc j) l =
      let lt : j < w = omega arith in
      entries-tied w (λ k. u (suc k)) (λ k. v (suc k)) (then-second (f.cmp (u 0) (v 0)) (slice_cmp f.cmp (entries w (λ k. u (suc k))) (entries w (λ k. v (suc k)))) e) j lt

  -- equations that the order doesn't tell apart vanish on the same vectors
  vanishes-tied : (w : ℕ) (rs ss : List (ℕ × (ℕ → Value f))) (v : ℕ → Value f) → equations_cmp f.cmp w rs ss ≡ Equal → Vanishes f.laws w (row_vectors rs) v → Vanishes f.laws w (row_vectors ss) v
  vanishes-tied w [] [] v e h = tt
  vanishes-tied w [] (s ∷ ss) v e h = absurd (less-equal e)
  vanishes-tied w (r ∷ rs) [] v e h = absurd (greater-equal e)
  vanishes-tied w (r ∷ rs) (s ∷ ss) v e h =
      let one : slice_cmp f.cmp (entries w r.1) (entries w s.1) ≡ Equal = then-first (slice_cmp f.cmp (entries w r.1) (entries w s.1)) (equations_cmp f.cmp w rs ss) e in (
        total-same f.laws w _ _ (λ k l. ap (λ x. f.laws.times x (v k)) (sym (entries-tied w r.1 s.1 one k l))) ∙ h.0,
        vanishes-tied w rs ss v (then-second (slice_cmp f.cmp (entries w r.1) (entries w s.1)) (equations_cmp f.cmp w rs ss) e) h.1,
      )

  -- reduced forms that the order doesn't tell apart are one
  pub equations-tied : (w : ℕ) (rs ss : List (ℕ × (ℕ → Value f))) → IsForm f.laws w rs → IsForm f.laws w ss → equations_cmp f.cmp w rs ss ≡ Equal → rs ≡ ss
  equations-tied w rs ss a b e =
      form-unique f.laws w rs ss a b (λ v. (
        vanishes-tied w rs ss v e,
        vanishes-tied w ss rs v (tied_back (equations-total f w) rs ss e),
      ))

  -- directions that the order doesn't tell apart have the same equations
  pub direction-tied : (act : Action) (order : Order) (c d : Direction (Value f)) → IsForm f.laws act.dim c.equations → IsForm f.laws act.dim d.equations → direction_cmp f.cmp act order c d ≡ Equal → c.equations ≡ d.equations
  direction-tied act Dimension c d a b e =
      let last : Ordering = equations_cmp f.cmp act.dim c.equations d.equations in
      let rest : Ordering = ordering_then (nat_cmp (length d.stabiliser) (length c.stabiliser)) last in
      equations-tied act.dim c.equations d.equations a b
      (then-second (nat_cmp (length d.stabiliser) (length c.stabiliser)) last (then-second (nat_cmp (dim_of act c) (dim_of act d)) rest e))
  direction-tied act Index c d a b e =
      let last : Ordering = equations_cmp f.cmp act.dim c.equations d.equations in
      let rest : Ordering = ordering_then (nat_cmp (dim_of act c) (dim_of act d)) last in
      equations-tied act.dim c.equations d.equations a b
      (then-second (nat_cmp (dim_of act c) (dim_of act d)) last (then-second (nat_cmp (length d.stabiliser) (length c.stabiliser)) rest e))

-- an order of written numbers, where it answers by an order of their values, orders written rows so too
pub slice_cmp-map : {A K : Type 0} (R : A → A → Ordering) (S : K → K → Ordering) (read : A → K) → ((x y : A) → R x y ≡ S (read x) (read y)) →
    (xs ys : List A) → slice_cmp R xs ys ≡ slice_cmp S (map read xs) (map read ys)
slice_cmp-map R S read h [] [] = refl
slice_cmp-map R S read h [] (y ∷ ys) = refl
slice_cmp-map R S read h (x ∷ xs) [] = refl
slice_cmp-map R S read h (x ∷ xs) (y ∷ ys) = λ i. ordering_then (h x y i) (slice_cmp-map R S read h xs ys i)

-- the entries of a written row are its values
pub entries-vector : {A : Type 0} (f : ExactField) (value : A → Value f) (xs : List A) → entries (length xs) (vector f.laws value xs) ≡ map value xs
entries-vector f value [] = refl
entries-vector f value (x ∷ xs) = λ i. value x ∷ entries-vector f value xs i

-- written forms of one width compare as their exact values do
pub equations-written : {A : Type 0} (f : ExactField) (value : A → Value f) (R : A → A → Ordering) → ((x y : A) → R x y ≡ f.cmp (value x) (value y)) →
    (w : ℕ) (rs ss : List (ℕ × List A)) → HaveWidth w rs → HaveWidth w ss → lines_cmp R rs ss ≡ equations_cmp f.cmp w (exact_rows f.laws value rs) (exact_rows f.laws value ss)
equations-written f value R h w [] [] a b = refl
equations-written f value R h w [] (s ∷ ss) a b = refl
equations-written f value R h w (r ∷ rs) [] a b = refl
equations-written {A} f value R h w (r ∷ rs) (s ∷ ss) a b =
    let read : (xs : List A) → length xs ≡ w → map value xs ≡ entries w (vector f.laws value xs) =
    λ xs e. subst (λ (n : ℕ). map value xs ≡ entries n (vector f.laws value xs)) e (sym (entries-vector f value xs)) in
    let head : slice_cmp R r.1 s.1 ≡ slice_cmp f.cmp (entries w (vector f.laws value r.1)) (entries w (vector f.laws value s.1)) =
    slice_cmp-map R f.cmp value h r.1 s.1 ∙ (λ i. slice_cmp f.cmp (read r.1 a.1 i) (read s.1 b.1 i)) in
    λ i. ordering_then (head i) (equations-written f value R h w rs ss a.2 b.2 i)
