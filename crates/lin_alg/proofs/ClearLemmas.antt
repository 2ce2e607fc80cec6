use Rattle.std.proofs.Common.{◌≡◌, ℕ, suc, zero, ◌<◌, ◌≤◌, ◌+◌, inl, inr, refl, sym, ◌∙◌, ap, subst, List, [], ◌∷◌, ◌++◌, length, map, get_or, set, take, drop, arith, add-one, true, false, get_or-drop, Vec}
use Rattle.std.proofs.lemmas.List.{take_more_set, take_all, with_items_is, map-set}
use Rattle.std.specs.Vec.{with_items}
use Rattle.cyclo24.specs.ExactField.{ExactField, Value}
use Rattle.lin_alg.specs.Spans.{less}
use Rattle.lin_alg.specs.Reduced.{cleared}
use Rattle.lin_alg.specs.Rows.{vector, exact_rows, HaveWidth}
use Rattle.lin_alg.specs.Insertion.{IsWideLess}
use Rattle.cyclo24.specs.FieldLaws.{less-nought}
use Rattle.lin_alg.specs.SpanLaws.{funext}
use Rattle.lin_alg.specs.Insertion.{IsWideClear}
use Rattle.lin_alg.proofs.PlaceLemmas.{take-item, exact_rows-append}

pub wide-set : {A : Type 0} (w : ℕ) (rs : List (ℕ × List A)) (i : ℕ) (y : ℕ × List A) → HaveWidth w rs → y.0 < w → length y.1 ≡ w → HaveWidth w (set rs i y)
wide-set w [] i y a l e = tt
wide-set w (r ∷ rs) zero y a l e = (l, e, a.2)
wide-set w (r ∷ rs) (suc i) y a l e = (a.0, a.1, wide-set w rs i y a.2 l e)

drop-set_at : {X : Type 0} (xs : List X) (i : ℕ) (y : X) → drop (suc i) (set xs i y) ≡ drop (suc i) xs
drop-set_at [] i y = refl
drop-set_at (x ∷ xs) zero y = refl
drop-set_at (x ∷ xs) (suc i) y = drop-set_at xs i y

drop-one : {X : Type 0} (xs : List X) (i : ℕ) → drop (suc i) xs ≡ drop 1 (drop i xs)
drop-one [] zero = refl
drop-one [] (suc i) = refl
drop-one (x ∷ xs) zero = refl
drop-one (x ∷ xs) (suc i) = drop-one xs i

drop-next : {X : Type 0} (xs ys : List X) (i : ℕ) → drop i xs ≡ drop i ys → drop (suc i) xs ≡ drop (suc i) ys
drop-next xs ys i e = drop-one xs i ∙ ap (drop 1) e ∙ sym (drop-one ys i)

at-drop : {X : Type 0} (xs : List X) (i : ℕ) (x : X) → get_or (drop i xs) 0 x ≡ get_or xs i x
at-drop xs i x = let e : i + 0 ≡ i = omega arith in get_or-drop i xs 0 x ∙ ap (λ n. get_or xs n x) e

-- a row is written through its Vec
pub seen-set : {X Z : Type 0} (lines : List (ℕ × Vec X Z)) (i : ℕ) (el : ℕ × Vec X Z) (ws : List X) → length ws ≡ length el.1.items →
    map {A = ℕ × Vec X Z} {B = ℕ × List X} (λ r. (r.0, r.1.items)) (set lines i (el.0, with_items el.1 ws)) ≡ set (map (λ r. (r.0, r.1.items)) lines) i (el.0, ws)
seen-set {X} {Z} lines i el ws n =
    let whole : (with_items el.1 ws).items ≡ ws = with_items_is el.1 ws (n ∙ sym el.1.ok.0) in
    map-set {A = ℕ × Vec X Z} {B = ℕ × List X} (λ r. (r.0, r.1.items)) lines i (el.0, with_items el.1 ws) ∙ (λ j. set (map (λ r. (r.0, r.1.items)) lines) i (el.0, whole j))

module _ {A : Type 0} (f : ExactField) (value : A → Value f) (p : ℕ) (u : ℕ → Value f) where
  cleared-append : (rs ss : List (ℕ × (ℕ → Value f))) → cleared f.laws p u (rs ++ ss) ≡ cleared f.laws p u rs ++ cleared f.laws p u ss
  cleared-append [] ss = refl
  cleared-append (r ∷ rs) ss = ap (λ z. (r.0, less f.laws r.1 (r.1 p) u) ∷ z) (cleared-append rs ss)

  pub wide_clear-at : (rs : List (ℕ × List A)) (i : ℕ) (x : ℕ × List A) → i < length rs → x ≡ get_or rs i x → f.laws.is_nought (vector f.laws value x.1 p) ≡ false →
      IsWideLess f (vector f.laws value x.1) (vector f.laws value x.1 p) u → IsWideClear f p u (exact_rows f.laws value rs)
  wide_clear-at [] i x l e z h = absurd (omega arith)
  wide_clear-at (r ∷ rs) zero x l e z h =
      inl (subst (λ (y : ℕ × List A). (f.laws.is_nought (vector f.laws value y.1 p) ≡ false) × IsWideLess f (vector f.laws value y.1) (vector f.laws value y.1 p) u) e (z, h))
  wide_clear-at (r ∷ rs) (suc i) x l e z h = inr (wide_clear-at rs i x (omega arith) e z h)

  pub record IsClearing (w : ℕ) (start now : List (ℕ × List A)) (i : ℕ) : Type 0 where
    pub done : exact_rows f.laws value (take i now) ≡ cleared f.laws p u (exact_rows f.laws value (take i start))
    pub ahead : drop i now ≡ drop i start
    pub shape : HaveWidth w now

  pub clearing-start : (w : ℕ) (now : List (ℕ × List A)) → HaveWidth w now → IsClearing w now now 0
  clearing-start w now a = record { done = refl; ahead = refl; shape = a }

  -- the row at i is still that of the start
  pub clearing-at : (w : ℕ) (start now : List (ℕ × List A)) (i : ℕ) (x : ℕ × List A) → x ≡ get_or now i x → IsClearing w start now i → x ≡ get_or start i x
  clearing-at w start now i x e t = e ∙ sym (at-drop now i x) ∙ ap (λ z. get_or z 0 x) t.ahead ∙ at-drop start i x

  pub clearing-step : (w : ℕ) (start now : List (ℕ × List A)) (i : ℕ) (x y : ℕ × List A) → i < length now → length now ≡ length start → x ≡ get_or now i x →
      y.0 ≡ x.0 → length y.1 ≡ w → y.0 < w → vector f.laws value y.1 ≡ less f.laws (vector f.laws value x.1) (vector f.laws value x.1 p) u →
      IsClearing w start now i → IsClearing w start (set now i y) (i + 1)
  clearing-step w start now i x y l ll e s n b h t =
      let ls : i < length start = omega arith in
      let es = clearing-at w start now i x e t in
      record {
        done =
            ap (exact_rows f.laws value) (take_more_set now i y l) ∙ exact_rows-append f value (take i now) (y ∷ [])
            ∙ (λ j. t.done j ++ (s j, h j) ∷ [])
            ∙ sym (ap (λ z. cleared f.laws p u (exact_rows f.laws value z)) (take-item start i x ls es)
            ∙ ap (cleared f.laws p u) (exact_rows-append f value (take i start) (x ∷ []))
            ∙ cleared-append (exact_rows f.laws value (take i start)) (exact_rows f.laws value (x ∷ [])));
        ahead = rw (add-one) (drop-set_at now i y ∙ drop-next now start i t.ahead);
        shape = wide-set w now i y t.shape b n;
      }

  pub clearing-kept : (w : ℕ) (start now : List (ℕ × List A)) (i : ℕ) (x : ℕ × List A) → i < length now → length now ≡ length start → x ≡ get_or now i x →
      f.laws.is_nought (vector f.laws value x.1 p) ≡ true → IsClearing w start now i → IsClearing w start now (i + 1)
  clearing-kept w start now i x l ll e z t =
      let ls : i < length start = omega arith in
      let es = clearing-at w start now i x e t in
      let same : less f.laws (vector f.laws value x.1) (vector f.laws value x.1 p) u ≡ vector f.laws value x.1 =
      funext (λ j. ap (λ c. f.laws.plus (vector f.laws value x.1 j) (f.laws.neg (f.laws.times c (u j)))) (f.laws.is_nought-true (vector f.laws value x.1 p) z) ∙ less-nought f.laws (vector f.laws value x.1 j) (u j)) in
      record {
        done =
            ap (exact_rows f.laws value) (take-item now i x l e) ∙ exact_rows-append f value (take i now) (x ∷ [])
            ∙ (λ j. t.done j ++ (x.0, sym same j) ∷ [])
            ∙ sym (ap (λ z. cleared f.laws p u (exact_rows f.laws value z)) (take-item start i x ls es)
            ∙ ap (cleared f.laws p u) (exact_rows-append f value (take i start) (x ∷ []))
            ∙ cleared-append (exact_rows f.laws value (take i start)) (exact_rows f.laws value (x ∷ [])));
        ahead = rw (add-one) (drop-next now start i t.ahead);
        shape = t.shape;
      }

  pub clearing-all : (w : ℕ) (start now : List (ℕ × List A)) (i : ℕ) → length now ≤ i → length now ≡ length start → IsClearing w start now i →
      exact_rows f.laws value now ≡ cleared f.laws p u (exact_rows f.laws value start)
  clearing-all w start now i l ll t =
      let ls : length start ≤ i = omega arith in
      sym (ap (exact_rows f.laws value) (take_all i now l)) ∙ t.done ∙ ap (λ z. cleared f.laws p u (exact_rows f.laws value z)) (take_all i start ls)
