use Rattle.std.proofs.Common.{◌≡◌, ℕ, suc, zero, ◌+◌, ◌<◌, refl, sym, ◌∙◌, ap, subst, arith, below_more, List, [], ◌∷◌, ◌++◌, length, get_or, Vec}
use Rattle.std.proofs.lemmas.List.{length_push, get_or-map, map-append}
use Rattle.std.specs.Prelude.{slice_index_or}
use Rattle.cyclo24.specs.FieldOn.{FieldOn}
use Rattle.lin_alg.specs.Rows.{vector}
use Rattle.mode_project.specs.Parts.{rows_in, row_in, AreVectors}

module _ {A : Type 0} where
  at-before : (xs : List (List A)) (y : List A) (b : ℕ) → b < length xs → slice_index_or (xs ++ y ∷ []) b [] ≡ slice_index_or xs b []
  at-before [] y b l = absurd (omega (arith, l))
  at-before (x ∷ xs) y zero l = refl
  at-before (x ∷ xs) y (suc b) l = at-before xs y b (omega (arith, l))

  at-last : (xs : List (List A)) (y : List A) (b : ℕ) → length xs ≡ b → slice_index_or (xs ++ y ∷ []) b [] ≡ y
  at-last [] y zero e = refl
  at-last [] y (suc b) e = absurd (omega (arith, e))
  at-last (x ∷ xs) y zero e = absurd (omega (arith, e))
  at-last (x ∷ xs) y (suc b) e = at-last xs y b (omega (arith, e))

  pub item-is : {Z : Type 0} (vs : List (Vec A Z)) (b : ℕ) (v : Vec A Z) → b < length vs → v ≡ get_or vs b v → slice_index_or (rows_in vs) b [] ≡ v.items
  item-is {Z} vs b v l e = get_or-map (λ (x : Vec A Z). x.items) vs b v [] l ∙ ap (λ (x : Vec A Z). x.items) (sym e)

pub rows-length : {A Z : Type 0} (vs : List (Vec A Z)) → length (rows_in vs) ≡ length vs
rows-length [] = refl
rows-length (v ∷ vs) = ap suc (rows-length vs)

module _ {A K : Type 0} (f : FieldOn K) (value : A → K) (d : ℕ) (target : ℕ → ℕ → K) where
  pub vectors-start : {Z : Type 0} (vs : List (Vec A Z)) → vs ≡ [] → AreVectors f value d target (rows_in vs) 0
  vectors-start {Z} vs e =
      let none : AreVectors f value d target [] 0 = record { count = refl; long = λ b l. absurd (omega (arith, l)); exact = λ b l. absurd (omega (arith, l)) } in
      subst (λ (xs : List (Vec A Z)). AreVectors f value d target (rows_in xs) 0) (sym e) none

  rows-next : (rows : List (List A)) (y : List A) (k : ℕ) → length y ≡ d → vector f value y ≡ target k → AreVectors f value d target rows k → AreVectors f value d target (rows ++ y ∷ []) (k + 1)
  rows-next rows y k e t h = record {
    count = length_push rows y ∙ ap (λ n. n + 1) h.count;
    long = below_more (λ b. length (slice_index_or (rows ++ y ∷ []) b []) ≡ d) k (λ b l. ap length (at-before rows y b (omega (arith, l, h.count))) ∙ h.long b l) (ap length (at-last rows y k h.count) ∙ e);
    exact = below_more (λ b. row_in f value (rows ++ y ∷ []) b ≡ target b) k (λ b l. ap (vector f value) (at-before rows y b (omega (arith, l, h.count))) ∙ h.exact b l) (ap (vector f value) (at-last rows y k h.count) ∙ t);
  }

  pub vectors-next : {Z : Type 0} (vs new : List (Vec A Z)) (v : Vec A Z) (k : ℕ) → new ≡ vs ++ v ∷ [] → length v.items ≡ d → vector f value v.items ≡ target k
      → AreVectors f value d target (rows_in vs) k → AreVectors f value d target (rows_in new) (k + 1)
  vectors-next {Z} vs new v k e l t h =
      let seen : rows_in new ≡ rows_in vs ++ v.items ∷ [] = ap (λ (xs : List (Vec A Z)). rows_in xs) e ∙ map-append (λ (x : Vec A Z). x.items) vs (v ∷ []) in
      subst (λ xs. AreVectors f value d target xs (k + 1)) (sym seen) (rows-next (rows_in vs) v.items k l t h)
