-- What holds in a short type holds over K24.
--
-- action_carried, table_carried, listing_carried, few_carried, many_carried: an action, a table of its matrices, a listing, and how many subspaces
-- lines_rows, lines_form, lines_pushed, same_count: rows of the same exact values
-- forms_carried, directions_next, widths_next: forms and directions of the same exact rows
use Rattle.std.specs.Prelude.{◌≡◌, ◌<◌, ℕ, true, List, [], ◌∷◌, ◌++◌, Some, length, map, get_or, slice_get, take, refl, suc, zero}
use Rattle.std.proofs.Common.{◌+◌, ap, ◌∙◌, sym, subst, arith}
use Rattle.cyclo24.specs.declared.k24.K24.{K24}
use Rattle.cyclo24.specs.FieldOn.{FieldOn}
use Rattle.cyclo24.specs.ExactField.{ExactField, Value}
use Rattle.cyclo24.specs.ExactK24.{Exact24, k24_laws, k24}
use Rattle.cyclo24.specs.ExactShort.{IsShortField}
use Rattle.cyclo24.specs.K24.{exact24}
use Rattle.lin_alg.specs.Rows.{vector, exact_rows, HaveWidth}
use Rattle.lin_alg.specs.Reduced.{IsForm}
use Rattle.lin_alg.specs.Echelon.{EchelonView, IsEchelon}
use Rattle.lin_alg.specs.Action.{Action, IsAction}
use Rattle.lin_alg.specs.Matrix.{MatrixView}
use Rattle.fix_lattice.specs.Lattice.{AreMoreFixes}
use Rattle.fix_lattice.specs.Subspaces.{IsWholeForm, AreWholeForms}
use Rattle.class_list.specs.declared.order.Order.{Order}
use Rattle.class_list.specs.Directions.{IsListing}
use Rattle.class_list.specs.Seen.{DirectionView, direction_of, directions_of}
use Rattle.short_rows.specs.CarriedLaws.{to_long, to_short}
use Rattle.short_listing.specs.Carried.{IsTableOf, exact_lines, AreForms}

module _ {A : Type 0} (f : ExactField) (value : A → Value f) (exact : A → Exact24) (e : IsShortField f value exact) where
  pub action_carried : (act : Action) → IsAction k24_laws act → IsAction f.laws act
  action_carried act h = to_short f value exact e (λ g v. IsAction g.laws act) h

  pub table_carried : (act : Action) (m : MatrixView A) → IsTableOf k24_laws exact act m → IsTableOf f.laws value act m
  table_carried act m h = to_short f value exact e (λ g v. IsTableOf g.laws v act m) h

  pub few_carried : (act : Action) (n : ℕ) → (AreMoreFixes f.laws act n → ⊥) → AreMoreFixes k24_laws act n → ⊥
  few_carried act n h = to_long f value exact e (λ g v. AreMoreFixes g.laws act n → ⊥) h

  pub many_carried : (act : Action) (n : ℕ) → AreMoreFixes f.laws act n → AreMoreFixes k24_laws act n
  many_carried act n h = to_long f value exact e (λ g v. AreMoreFixes g.laws act n) h

  pub listing_carried : (act : Action) (order : Order) (ds : List (DirectionView A)) (es : List (DirectionView K24)) → directions_of k24_laws exact24 es ≡ directions_of k24_laws exact ds
      → IsListing f.laws f.cmp act order (directions_of f.laws value ds) → IsListing k24_laws k24.cmp act order (directions_of k24_laws exact24 es)
  listing_carried act order ds es d h =
      subst (IsListing k24_laws k24.cmp act order) (sym d) (to_long f value exact e (λ g v. IsListing g.laws g.cmp act order (directions_of g.laws v ds)) h)

length_mapped : {A B : Type 0} (f : A → B) (xs : List A) → length (map f xs) ≡ length xs
length_mapped f [] = refl
length_mapped f (x ∷ xs) = ap suc (length_mapped f xs)

-- the exact rows of such a list
abbrev of_lines : List (ℕ × List Exact24) → List (ℕ × (ℕ → Exact24))
of_lines [] = []
of_lines (l ∷ ls) = (l.0, λ j. get_or l.1 j k24_laws.nought) ∷ of_lines ls

of_lines_is : {A : Type 0} (value : A → Exact24) (rows : List (ℕ × List A)) → of_lines (exact_lines value rows) ≡ exact_rows k24_laws value rows
of_lines_is value [] = refl
of_lines_is value (r ∷ rs) = ap (λ zs. (r.0, vector k24_laws value r.1) ∷ zs) (of_lines_is value rs)

-- the same lists stand for the same exact rows
pub lines_rows : {A : Type 0} (exact : A → Exact24) (rows : List (ℕ × List K24)) (shorts : List (ℕ × List A)) → exact_lines exact24 rows ≡ exact_lines exact shorts → exact_rows k24_laws exact24 rows ≡ exact_rows k24_laws exact shorts
lines_rows exact rows shorts e = sym (of_lines_is exact24 rows) ∙ ap of_lines e ∙ of_lines_is exact shorts

-- and have the same widths
abbrev has_width : ℕ → List (ℕ × List Exact24) → Type 0
has_width w [] = Unit {0}
has_width w (l ∷ ls) = (l.0 < w) × (length l.1 ≡ w) × has_width w ls

width_to : {A : Type 0} (value : A → Exact24) (w : ℕ) (rows : List (ℕ × List A)) → HaveWidth w rows → has_width w (exact_lines value rows)
width_to value w [] h = tt
width_to value w (r ∷ rs) h = (h.0, length_mapped value r.1 ∙ h.1, width_to value w rs h.2)

width_from : {A : Type 0} (value : A → Exact24) (w : ℕ) (rows : List (ℕ × List A)) → has_width w (exact_lines value rows) → HaveWidth w rows
width_from value w [] h = tt
width_from value w (r ∷ rs) h = (h.0, sym (length_mapped value r.1) ∙ h.1, width_from value w rs h.2)

-- so that they are a form where those are
pub lines_form : {A : Type 0} (exact : A → Exact24) (w n : ℕ) (rows : List (ℕ × List K24)) (e : EchelonView A) → e.width ≡ w → e.whole ≡ true → exact_lines exact24 rows ≡ exact_lines exact e.rows → IsEchelon k24_laws exact e
    → IsEchelon k24_laws exact24 (record { width = w; whole = true; rows = rows; spare = n })
lines_form exact w n rows e p q h k = record {
  shape = subst (λ v. HaveWidth v rows) p (width_from exact24 e.width rows (subst (has_width e.width) (sym h) (width_to exact e.width e.rows k.shape)));
  form = λ _. subst (λ v. IsForm k24_laws v (exact_rows k24_laws exact24 rows)) p (subst (IsForm k24_laws e.width) (sym (lines_rows exact rows e.rows h)) (k.form q));
}

-- one more line
take_next : {X : Type 0} (xs : List X) (i : ℕ) (x : X) → i < length xs → x ≡ get_or xs i x → take (i + 1) xs ≡ take i xs ++ x ∷ []
take_next [] i x l e = absurd (omega arith)
take_next (y ∷ ys) zero x l e = ap (λ z. z ∷ []) (sym e)
take_next (y ∷ ys) (suc i) x l e = let n : suc i + 1 ≡ suc (i + 1) = omega arith in ap (λ m. take m (y ∷ ys)) n ∙ ap (λ zs. y ∷ zs) (take_next ys i x (omega arith) e)

lines_last : {A : Type 0} (value : A → Exact24) (rows : List (ℕ × List A)) (r : ℕ × List A) → exact_lines value (rows ++ r ∷ []) ≡ exact_lines value rows ++ (r.0, map value r.1) ∷ []
lines_last value [] r = refl
lines_last value (s ∷ rs) r = ap (λ zs. (s.0, map value s.1) ∷ zs) (lines_last value rs r)

lines_take : {A : Type 0} (value : A → Exact24) (n : ℕ) (rows : List (ℕ × List A)) → exact_lines value (take n rows) ≡ take n (exact_lines value rows)
lines_take value zero rows = refl
lines_take value (suc n) [] = refl
lines_take value (suc n) (r ∷ rs) = ap (λ zs. (r.0, map value r.1) ∷ zs) (lines_take value n rs)

lines_next : {A : Type 0} (exact : A → Exact24) (rows : List (ℕ × List K24)) (shorts : List (ℕ × List A)) (i : ℕ) (r : ℕ × List K24) (s : ℕ × List A) → i < length shorts → s ≡ get_or shorts i s → r.0 ≡ s.0 → map exact24 r.1 ≡ map exact s.1
    → exact_lines exact24 rows ≡ exact_lines exact (take i shorts) → exact_lines exact24 (rows ++ r ∷ []) ≡ exact_lines exact (take (i + 1) shorts)
lines_next exact rows shorts i r s l e p q h =
    lines_last exact24 rows r ∙ (λ k. h k ++ (p k, q k) ∷ []) ∙ sym (lines_last exact (take i shorts) s) ∙ sym (ap (exact_lines exact) (take_next shorts i s l e))

any_default : {X : Type 0} (xs : List X) (i : ℕ) (d e : X) → i < length xs → get_or xs i d ≡ get_or xs i e
any_default [] i d e l = absurd (omega arith)
any_default (x ∷ xs) zero d e l = refl
any_default (x ∷ xs) (suc i) d e l = any_default xs i d e (omega arith)

map_last : {X Y : Type 0} (h : X → Y) (xs : List X) (x : X) → map h (xs ++ x ∷ []) ≡ map h xs ++ h x ∷ []
map_last h [] x = refl
map_last h (y ∷ ys) x = ap (λ z. h y ∷ z) (map_last h ys x)

pub lines_pushed : {A X : Type 0} (exact : A → Exact24) (h : X → ℕ × List K24) (new old : List X) (x : X) (shorts : List (ℕ × List A)) (i : ℕ) (d : ℕ × List A) → new ≡ old ++ x ∷ [] → i < length shorts
    → (h x).0 ≡ (get_or shorts i d).0 → map exact24 (h x).1 ≡ map exact (get_or shorts i d).1
    → exact_lines exact24 (map h old) ≡ exact_lines exact (take i shorts) → exact_lines exact24 (map h new) ≡ exact_lines exact (take (i + 1) shorts)
lines_pushed exact h new old x shorts i d e l p q k =
    ap (λ xs. exact_lines exact24 (map h xs)) e ∙ ap (exact_lines exact24) (map_last h old x)
    ∙ lines_next exact (map h old) shorts i (h x) (get_or shorts i d) l (any_default shorts i d (get_or shorts i d) l) p q k

-- forms of the widths of forms of one width
pub forms_carried : {A K : Type 0} (f : FieldOn K) (value : A → K) (w : ℕ) (ds : List (DirectionView A)) (es : List (EchelonView K24)) → AreWholeForms f value w (map (λ d. d.equations) ds) → AreForms (map (λ d. d.equations.width) ds) es → AreWholeForms k24_laws exact24 w es
forms_carried f value w [] [] h k = tt
forms_carried f value w [] (e ∷ es) h k = absurd k
forms_carried f value w (d ∷ ds) [] h k = absurd k
forms_carried f value w (d ∷ ds) (e ∷ es) h k = (subst (λ v. IsWholeForm k24_laws exact24 v e) h.0.width k.0, forms_carried f value w ds es h.1 k.1)

-- one more form
pub forms_next : (ws : List ℕ) (es : List (EchelonView K24)) (w : ℕ) (e : EchelonView K24) → AreForms ws es → IsWholeForm k24_laws exact24 w e → AreForms (ws ++ w ∷ []) (es ++ e ∷ [])
forms_next [] [] w e h k = (k, tt)
forms_next [] (x ∷ es) w e h k = absurd h
forms_next (v ∷ ws) [] w e h k = absurd h
forms_next (v ∷ ws) (x ∷ es) w e h k = (h.0, forms_next ws es w e h.1 k)

-- rows of the same exact values are as many
pub same_count : {A : Type 0} (exact : A → Exact24) (rows : List (ℕ × List K24)) (shorts : List (ℕ × List A)) → exact_rows k24_laws exact24 rows ≡ exact_rows k24_laws exact shorts → length rows ≡ length shorts
same_count exact rows shorts e = sym (count exact24 rows) ∙ ap length e ∙ count exact shorts
  where
    count : {B : Type 0} (value : B → Exact24) (rs : List (ℕ × List B)) → length (exact_rows k24_laws value rs) ≡ length rs
    count value [] = refl
    count value (r ∷ rs) = ap suc (count value rs)

-- the list up to a place and what stands there
pub map_next : {X Y : Type 0} (h : X → Y) (xs : List X) (i : ℕ) (x : X) → slice_get xs i ≡ Some x → map h (take (i + 1) xs) ≡ map h (take i xs) ++ h x ∷ []
map_next h [] i x e = absurd (none e)
  where
    none : {X : Type 0} {x : X} → slice_get [] i ≡ Some x → ⊥
    none p = cc
map_next h (y ∷ ys) zero x e = ap (λ z. h z ∷ []) (some_is e)
  where
    some_is : {X : Type 0} {a b : X} → Some a ≡ Some b → a ≡ b
    some_is p = cc
map_next h (y ∷ ys) (suc i) x e = let n : suc i + 1 ≡ suc (i + 1) = omega arith in ap (λ m. map h (take m (y ∷ ys))) n ∙ ap (λ zs. h y ∷ zs) (map_next h ys i x e)

pub directions_next : {A : Type 0} (exact : A → Exact24) (news olds : List (DirectionView K24)) (d : DirectionView K24) (ds : List (DirectionView A)) (i : ℕ) (e : DirectionView A) → news ≡ olds ++ d ∷ [] → slice_get ds i ≡ Some e
    → direction_of k24_laws exact24 d ≡ direction_of k24_laws exact e → directions_of k24_laws exact24 olds ≡ directions_of k24_laws exact (take i ds) → directions_of k24_laws exact24 news ≡ directions_of k24_laws exact (take (i + 1) ds)
directions_next exact news olds d ds i e n g s h =
    ap (directions_of k24_laws exact24) n ∙ map_last (direction_of k24_laws exact24) olds d ∙ (λ k. h k ++ s k ∷ []) ∙ sym (map_next (direction_of k24_laws exact) ds i e g)

pub widths_next : {A : Type 0} (news olds : List (DirectionView K24)) (d : DirectionView K24) (ds : List (DirectionView A)) (i : ℕ) (e : DirectionView A) → news ≡ olds ++ d ∷ [] → slice_get ds i ≡ Some e
    → IsWholeForm k24_laws exact24 e.equations.width d.equations → AreForms (map (λ x. x.equations.width) (take i ds)) (map (λ x. x.equations) olds) → AreForms (map (λ x. x.equations.width) (take (i + 1) ds)) (map (λ x. x.equations) news)
widths_next news olds d ds i e n g s h =
    let P : List ℕ → List (EchelonView K24) → Type 0 = AreForms in
    subst (λ ws. P ws (map (λ x. x.equations) news)) (sym (map_next (λ x. x.equations.width) ds i e g))
    (subst (P (map (λ x. x.equations.width) (take i ds) ++ e.equations.width ∷ [])) (sym (ap (map (λ x. x.equations)) n ∙ map_last (λ x. x.equations) olds d))
    (forms_next (map (λ x. x.equations.width) (take i ds)) (map (λ x. x.equations) olds) e.equations.width d.equations h s))
