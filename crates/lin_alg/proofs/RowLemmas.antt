use Rattle.std.proofs.Common.{◌≡◌, ℕ, suc, zero, ◌<◌, ◌≤◌, ◌+◌, inl, inr, sym, ◌∙◌, ap, subst, List, [], ◌∷◌, length, map, get_or, drop, arith, add-one, false, true}
use Rattle.std.proofs.Math.Seq.{drop-cons}
use Rattle.std.proofs.lemmas.List.{get_or-map, drop_all}
use Rattle.cyclo24.specs.ExactField.{ExactField, Value}
use Rattle.lin_alg.specs.Spans.{less}
use Rattle.lin_alg.specs.Reduced.{reduce, IsReduced}
use Rattle.lin_alg.specs.Rows.{vector, exact_rows, HaveWidth, AreEnded}
use Rattle.lin_alg.specs.Insertion.{IsWideLess, IsWideReduce}
use Rattle.cyclo24.specs.FieldLaws.{less-nought}
use Rattle.lin_alg.specs.SpanLaws.{funext}

pub item-at : {X Y : Type 0} (h : X → Y) (xs : List X) (i : ℕ) (x : X) → i < length xs → x ≡ get_or xs i x → h x ≡ get_or (map h xs) i (h x)
item-at h xs i x l e = ap h e ∙ sym (get_or-map h xs i x (h x) l)

pub drop-item : {X : Type 0} (xs : List X) (i : ℕ) (x : X) → i < length xs → x ≡ get_or xs i x → drop i xs ≡ x ∷ drop (i + 1) xs
drop-item xs i x l e = rw add-one (drop-cons xs i x l ∙ ap (λ y. y ∷ drop (suc i) xs) (sym e))

pub wide-at : {A : Type 0} (w : ℕ) (rs : List (ℕ × List A)) (i : ℕ) (x : ℕ × List A) → HaveWidth w rs → i < length rs → x ≡ get_or rs i x →
    (x.0 < w) × (length x.1 ≡ w)
wide-at w [] i x a l e = absurd (omega arith)
wide-at w (r ∷ rs) zero x a l e = let k : (r.0 < w) × (length r.1 ≡ w) = (a.0, a.1) in subst (λ (y : ℕ × List _). (y.0 < w) × (length y.1 ≡ w)) (sym e) k
wide-at w (r ∷ rs) (suc i) x a l e = wide-at w rs i x a.2 (omega arith) e

module _ {A : Type 0} (f : ExactField) (value : A → Value f) where
  pub ended-at : (rs : List (ℕ × List A)) (i : ℕ) (x : ℕ × List A) → AreEnded f.laws value rs → i < length rs → x ≡ get_or rs i x →
      (j : ℕ) → x.0 < j → vector f.laws value x.1 j ≡ f.laws.nought
  ended-at [] i x a l e = absurd (omega arith)
  ended-at (r ∷ rs) zero x a l e =
      subst (λ (y : ℕ × List A). (j : ℕ) → y.0 < j → vector f.laws value y.1 j ≡ f.laws.nought) (sym e) a.0
  ended-at (r ∷ rs) (suc i) x a l e = ended-at rs i x a.1 (omega arith) e

  -- the rows of a reduced form are 0 behind their pivots
  pub reduced-ended : (rs : List (ℕ × List A)) → IsReduced f.laws (exact_rows f.laws value rs) → AreEnded f.laws value rs
  reduced-ended [] r = tt
  reduced-ended (x ∷ rs) r = (r.0.1, reduced-ended rs r.2)

  pub record IsReducing (all : List (ℕ × List A)) (start : ℕ → Value f) (i : ℕ) (row : ℕ → Value f) : Type 0 where
    pub reduced : reduce f.laws (exact_rows f.laws value (drop i all)) row ≡ reduce f.laws (exact_rows f.laws value all) start
    pub wide : IsWideReduce f (exact_rows f.laws value (drop i all)) row → IsWideReduce f (exact_rows f.laws value all) start

  pub reducing-step : (all : List (ℕ × List A)) (start : ℕ → Value f) (i : ℕ) (row : ℕ → Value f) (x : ℕ × List A) →
      i < length all → x ≡ get_or all i x → IsReducing all start i row →
      IsReducing all start (i + 1) (less f.laws row (row x.0) (vector f.laws value x.1))
  reducing-step all start i row x l e t =
      let d = drop-item all i x l e in
      record {
        reduced = subst (λ (z : List (ℕ × List A)). reduce f.laws (exact_rows f.laws value z) row ≡ reduce f.laws (exact_rows f.laws value all) start) d t.reduced;
        wide = λ h. subst (λ (z : List (ℕ × List A)). IsWideReduce f (exact_rows f.laws value z) row → IsWideReduce f (exact_rows f.laws value all) start) d t.wide (inr h);
      }

  pub reducing-kept : (all : List (ℕ × List A)) (start : ℕ → Value f) (i : ℕ) (row : ℕ → Value f) (x : ℕ × List A) →
      i < length all → x ≡ get_or all i x → f.laws.is_nought (row x.0) ≡ true → IsReducing all start i row →
      IsReducing all start (i + 1) row
  reducing-kept all start i row x l e z t =
      let same : less f.laws row (row x.0) (vector f.laws value x.1) ≡ row =
      funext (λ j. ap (λ c. f.laws.plus (row j) (f.laws.neg (f.laws.times c (vector f.laws value x.1 j)))) (f.laws.is_nought-true (row x.0) z) ∙ less-nought f.laws (row j) (vector f.laws value x.1 j)) in
      subst (IsReducing all start (i + 1)) same (reducing-step all start i row x l e t)

  pub reducing-wide : (all : List (ℕ × List A)) (start : ℕ → Value f) (i : ℕ) (row : ℕ → Value f) (x : ℕ × List A) →
      i < length all → x ≡ get_or all i x → IsReducing all start i row → f.laws.is_nought (row x.0) ≡ false →
      IsWideLess f row (row x.0) (vector f.laws value x.1) → IsWideReduce f (exact_rows f.laws value all) start
  reducing-wide all start i row x l e t z h =
      let d = drop-item all i x l e in
      subst (λ (z : List (ℕ × List A)). IsWideReduce f (exact_rows f.laws value z) row → IsWideReduce f (exact_rows f.laws value all) start) d t.wide (inl (z, h))

  pub reducing-all : (all : List (ℕ × List A)) (start : ℕ → Value f) (i : ℕ) (row : ℕ → Value f) → length all ≤ i →
      IsReducing all start i row → row ≡ reduce f.laws (exact_rows f.laws value all) start
  reducing-all all start i row l t = subst (λ (z : List (ℕ × List A)). reduce f.laws (exact_rows f.laws value z) row ≡ reduce f.laws (exact_rows f.laws value all) start) (drop_all i all l) t.reduced
