use Rattle.std.proofs.Common.{◌≡◌, ℕ, suc, zero, ◌+◌, ◌<◌, inl, inr, nat_eq, if◌then◌else◌, set, refl, sym, ◌∙◌, ap, subst, arith, below_more, List, [], ◌∷◌, ◌++◌, length, map, get_or, take, Vec}
use Rattle.std.proofs.lemmas.List.{take_more, length_push, get_or-map, map-append}
use Rattle.algebra.specs.SumLaws.{decide}
use Rattle.cyclo24.specs.FieldOn.{FieldOn}
use Rattle.cyclo24.specs.ExactField.{ExactField, Value}
use Rattle.cyclo24.specs.declared.z24.Z24.{Z24}
use Rattle.cyclo24.specs.Z24.{exact_z24}
use Rattle.cyclo24.specs.ExactZ24.{ExactZ24, z24_laws}
use Rattle.lin_alg.specs.Equations.{unit_vector}
use Rattle.lin_alg.specs.EquationLaws.{eq-self, unit-other}
use Rattle.lin_alg.specs.SpanLaws.{funext}
use Rattle.lin_alg.specs.Rows.{vector, exact_rows, HaveWidth}
use Rattle.real_form.specs.Bases.{row_at, unit_rows}
use Rattle.real_form.proofs.VectorLemmas.{vector-set_same, vector-set_other}
use Rattle.real_form.specs.Vectors.{lines_of, vector_at, AreLong}

pub item-at : {X Y : Type 0} (h : X → Y) (xs : List X) (i : ℕ) (x : X) → i < length xs → x ≡ get_or xs i x → h x ≡ get_or (map h xs) i (h x)
item-at h xs i x l e = ap h e ∙ sym (get_or-map h xs i x (h x) l)

-- one more item was copied
pub copied-next : {X Y : Type 0} (h : X → Y) (all : List Y) (new old : List X) (x : X) (i : ℕ) (y : Y) → new ≡ old ++ x ∷ [] → h x ≡ y → i < length all → y ≡ get_or all i y →
    map h old ≡ take i all → map h new ≡ take (i + 1) all
copied-next h all new old x i y e s l a t =
    ap (map h) e ∙ map-append h old (x ∷ []) ∙ (λ j. t j ++ s j ∷ []) ∙ sym (take_more all i y l ∙ ap (λ z. take i all ++ z ∷ []) (sym a))

pub map-next : {X Y : Type 0} (h : X → Y) (all : List X) (new old : List Y) (i : ℕ) (x : X) (y : Y) → new ≡ old ++ y ∷ [] → y ≡ h x → i < length all → x ≡ get_or all i x →
    old ≡ map h (take i all) → new ≡ map h (take (i + 1) all)
map-next h all new old i x y e s l a t =
    e ∙ (λ j. t j ++ s j ∷ []) ∙ sym (ap (map h) (take_more all i x l ∙ ap (λ z. take i all ++ z ∷ []) (sym a)) ∙ map-append h (take i all) (x ∷ []))

pub width-last : {A : Type 0} (w : ℕ) (rs : List (ℕ × List A)) (r : ℕ × List A) → HaveWidth w rs → r.0 < w → length r.1 ≡ w → HaveWidth w (rs ++ r ∷ [])
width-last w [] r h l e = (l, e, tt)
width-last w (s ∷ rs) r h l e = (h.0, h.1, width-last w rs r h.2 l e)

pub width-at : {A : Type 0} (w : ℕ) (rows : List (ℕ × List A)) (i : ℕ) (r : ℕ × List A) → i < length rows → r ≡ get_or rows i r → HaveWidth w rows → length r.1 ≡ w
width-at w [] i r l e h = absurd (omega arith)
width-at w (s ∷ rows) zero r l e h = ap (λ x. length x.1) e ∙ h.1
width-at w (s ∷ rows) (suc i) r l e h = width-at w rows i r (omega arith) e h.2

module _ {A K : Type 0} (f : FieldOn K) (value : A → K) where
  rows-last : (rs : List (ℕ × List A)) (r : ℕ × List A) → exact_rows f value (rs ++ r ∷ []) ≡ exact_rows f value rs ++ (r.0, vector f value r.1) ∷ []
  rows-last [] r = refl
  rows-last (s ∷ rs) r = ap (λ z. (s.0, vector f value s.1) ∷ z) (rows-last rs r)

  units-last : (i k : ℕ) → unit_rows f i (suc k) ≡ unit_rows f i k ++ (i + k, unit_vector f (i + k)) ∷ []
  units-last i zero = let e : i ≡ i + 0 = omega arith in λ t. (e t, unit_vector f (e t)) ∷ []
  units-last i (suc k) =
      let e : suc i + k ≡ i + suc k = omega arith in
      let here : unit_rows f (suc i) k ++ (suc i + k, unit_vector f (suc i + k)) ∷ [] ≡ unit_rows f (suc i) k ++ (i + suc k, unit_vector f (i + suc k)) ∷ [] =
      λ t. unit_rows f (suc i) k ++ (e t, unit_vector f (e t)) ∷ [] in
      let more : unit_rows f (suc i) (suc k) ≡ unit_rows f (suc i) k ++ (i + suc k, unit_vector f (i + suc k)) ∷ [] = units-last (suc i) k ∙ here in
      ap (λ z. (i, unit_vector f i) ∷ z) more

  -- the lines are the first k unit vectors of w entries
  pub record AreUnits {Z : Type 0} (w : ℕ) (lines : List (ℕ × Vec A Z)) (k : ℕ) : Type 0 where
    pub rows : exact_rows f value (lines_of lines) ≡ unit_rows f 0 k
    pub width : HaveWidth w (lines_of lines)
    pub count : length lines ≡ k

  pub units-start : {Z : Type 0} (w : ℕ) (lines : List (ℕ × Vec A Z)) → lines ≡ [] → AreUnits w lines 0
  units-start {Z} w lines e =
      let none : AreUnits {Z = Z} w [] 0 = record { rows = refl; width = tt; count = refl } in
      subst (λ (xs : List (ℕ × Vec A Z)). AreUnits w xs 0) (sym e) none

  pub units-next : {Z : Type 0} (w k : ℕ) (lines new : List (ℕ × Vec A Z)) (row : Vec A Z) → new ≡ lines ++ (k, row) ∷ [] → k < w → length row.items ≡ w → vector f value row.items ≡ unit_vector f k →
      AreUnits w lines k → AreUnits w new (k + 1)
  units-next {Z} w k lines new row e l long exact h =
      let h' : ℕ × Vec A Z → ℕ × List A = λ r. (r.0, r.1.items) in
      let seen : lines_of new ≡ lines_of lines ++ (k, row.items) ∷ [] = ap (λ (xs : List (ℕ × Vec A Z)). lines_of xs) e ∙ map-append h' lines ((k, row) ∷ []) in
      let more : suc k ≡ k + 1 = omega arith in
      let at : k ≡ 0 + k = omega arith in
      let exact_last : exact_rows f value (lines_of lines) ++ (k, vector f value row.items) ∷ [] ≡ unit_rows f 0 k ++ (k, unit_vector f k) ∷ [] = λ t. h.rows t ++ (k, exact t) ∷ [] in
      let place : unit_rows f 0 k ++ (k, unit_vector f k) ∷ [] ≡ unit_rows f 0 k ++ (0 + k, unit_vector f (0 + k)) ∷ [] = λ t. unit_rows f 0 k ++ (at t, unit_vector f (at t)) ∷ [] in
      record {
        rows = ap (exact_rows f value) seen ∙ rows-last (lines_of lines) (k, row.items) ∙ exact_last ∙ place ∙ sym (units-last 0 k) ∙ ap (unit_rows f 0) more;
        width = subst (HaveWidth w) (sym seen) (width-last w (lines_of lines) (k, row.items) h.width l long);
        count = ap length e ∙ length_push lines (k, row) ∙ ap (λ n. n + 1) h.count;
      }

  pub row-exact : (rows : List (ℕ × List A)) (i : ℕ) (r : ℕ × List A) → i < length rows → r ≡ get_or rows i r → vector f value r.1 ≡ row_at f (exact_rows f value rows) i
  row-exact [] i r l e = absurd (omega arith)
  row-exact (s ∷ rows) zero r l e = ap (λ x. vector f value x.1) e
  row-exact (s ∷ rows) (suc i) r l e = row-exact rows i r (omega arith) e

-- zeros, and 1 at place i
pub unit-filled : {A : Type 0} (f : ExactField) (value : A → Value f) (xs : List A) (i : ℕ) (x : A) → i < length xs → ((j : ℕ) → vector f.laws value xs j ≡ f.laws.nought) → value x ≡ f.laws.unit →
    vector f.laws value (set xs i x) ≡ unit_vector f.laws i
unit-filled f value xs i x l zeros e =
    funext (λ j. elim (decide j i) [
      | inl same ↦ ap (vector f.laws value (set xs i x)) same ∙ vector-set_same f value xs i x l ∙ e ∙ sym (ap (λ b. if b then f.laws.unit else f.laws.nought) (ap (λ k. nat_eq k i) same ∙ eq-self i))
      | inr other ↦ vector-set_other f value xs i j x other ∙ zeros j ∙ sym (unit-other f.laws i j other)
    ])

-- complex vectors, one more at the end
module _ {Z : Type 0} where
  pub long-last : (n : ℕ) (vs : List (Vec Z24 Z)) (v : Vec Z24 Z) → AreLong n vs → length v.items ≡ n → AreLong n (vs ++ v ∷ [])
  long-last n [] v h e = (e, tt)
  long-last n (u ∷ vs) v h e = (h.0, long-last n vs v h.1 e)

  at-before : (vs : List (Vec Z24 Z)) (v : Vec Z24 Z) (m : ℕ) → m < length vs → vector_at (vs ++ v ∷ []) m ≡ vector_at vs m
  at-before [] v m l = absurd (omega arith)
  at-before (u ∷ vs) v zero l = refl
  at-before (u ∷ vs) v (suc m) l = at-before vs v m (omega arith)

  at-last : (vs : List (Vec Z24 Z)) (v : Vec Z24 Z) (m : ℕ) → length vs ≡ m → vector_at (vs ++ v ∷ []) m ≡ vector z24_laws exact_z24 v.items
  at-last [] v zero e = refl
  at-last [] v (suc m) e = absurd (omega (arith, e))
  at-last (u ∷ vs) v zero e = absurd (omega (arith, e))
  at-last (u ∷ vs) v (suc m) e = at-last vs v m (omega (arith, e))

  -- the vectors are the first k of the target
  pub record AreLifted (n : ℕ) (target : ℕ → ℕ → ExactZ24) (vs : List (Vec Z24 Z)) (k : ℕ) : Type 0 where
    pub count : length vs ≡ k
    pub long : AreLong n vs
    pub exact : (m : ℕ) → m < k → vector_at vs m ≡ target m

  pub lifted-start : (n : ℕ) (target : ℕ → ℕ → ExactZ24) (vs : List (Vec Z24 Z)) → vs ≡ [] → AreLifted n target vs 0
  lifted-start n target vs e =
      let none : AreLifted n target [] 0 = record { count = refl; long = tt; exact = λ m l. absurd (omega (arith, l)) } in
      subst (λ (xs : List (Vec Z24 Z)). AreLifted n target xs 0) (sym e) none

  pub lifted-next : (n : ℕ) (target : ℕ → ℕ → ExactZ24) (vs new : List (Vec Z24 Z)) (v : Vec Z24 Z) (k : ℕ) → new ≡ vs ++ v ∷ [] → length v.items ≡ n → vector z24_laws exact_z24 v.items ≡ target k →
      AreLifted n target vs k → AreLifted n target new (k + 1)
  lifted-next n target vs new v k e long exact h = record {
    count = ap length e ∙ length_push vs v ∙ ap (λ m. m + 1) h.count;
    long = subst (AreLong n) (sym e) (long-last n vs v h.long long);
    exact = λ m l.
        ap (λ xs. vector_at xs m) e
        ∙ below_more (λ m. vector_at (vs ++ v ∷ []) m ≡ target m) k (λ m b. at-before vs v m (omega (arith, b, h.count)) ∙ h.exact m b) (at-last vs v k h.count ∙ exact) m l;
  }
