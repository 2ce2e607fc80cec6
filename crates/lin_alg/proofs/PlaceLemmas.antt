use Rattle.std.proofs.Common.{◌≡◌, ℕ, ◌<◌, ◌≤◌, ◌+◌, refl, sym, ◌∙◌, ap, List, [], ◌∷◌, ◌++◌, length, get_or, take, drop, append_assoc, false, true, ltb, if◌then◌else◌}
use Rattle.std.proofs.lemmas.List.{drop_all, take_more}
use Rattle.std.proofs.lemmas.Bool.{le-ltb, lt-ltb}
use Rattle.cyclo24.specs.ExactField.{ExactField, Value}
use Rattle.lin_alg.specs.Reduced.{placed}
use Rattle.lin_alg.specs.Rows.{vector, exact_rows}
use Rattle.lin_alg.proofs.RowLemmas.{drop-item}

pub take-item : {X : Type 0} (xs : List X) (i : ℕ) (x : X) → i < length xs → x ≡ get_or xs i x → take (i + 1) xs ≡ take i xs ++ x ∷ []
take-item xs i x l e = take_more xs i x l ∙ ap (λ y. take i xs ++ y ∷ []) (sym e)

module _ {A : Type 0} (f : ExactField) (value : A → Value f) where
  pub exact_rows-append : (xs ys : List (ℕ × List A)) → exact_rows f.laws value (xs ++ ys) ≡ exact_rows f.laws value xs ++ exact_rows f.laws value ys
  exact_rows-append [] ys = refl
  exact_rows-append (x ∷ xs) ys = ap (λ z. (x.0, vector f.laws value x.1) ∷ z) (exact_rows-append xs ys)

  abbrev pub IsPlacing : ℕ → List (ℕ × List A) → ℕ → Type 0
  IsPlacing p all i = (u : List A) → placed p (vector f.laws value u) (exact_rows f.laws value all) ≡ exact_rows f.laws value (take i all) ++ placed p (vector f.laws value u) (exact_rows f.laws value (drop i all))

  pub placing-step : (p : ℕ) (all : List (ℕ × List A)) (i : ℕ) (x : ℕ × List A) → i < length all → x ≡ get_or all i x → x.0 ≤ p → IsPlacing p all i → IsPlacing p all (i + 1)
  placing-step p all i x l e le t u =
      let no : ltb p x.0 ≡ false = le-ltb p x.0 le in
      let v = vector f.laws value u in
      let d = drop-item all i x l e in
      let rest = exact_rows f.laws value (drop (i + 1) all) in
      let here : placed p v (exact_rows f.laws value (drop i all)) ≡ (x.0, vector f.laws value x.1) ∷ placed p v rest =
      ap (λ z. placed p v (exact_rows f.laws value z)) d ∙ ap (λ b. if b then (p, v) ∷ (x.0, vector f.laws value x.1) ∷ rest else (x.0, vector f.laws value x.1) ∷ placed p v rest) no in
      let more : exact_rows f.laws value (take (i + 1) all) ≡ exact_rows f.laws value (take i all) ++ (x.0, vector f.laws value x.1) ∷ [] =
      ap (exact_rows f.laws value) (take-item all i x l e) ∙ exact_rows-append (take i all) (x ∷ []) in
      t u ∙ ap (λ z. exact_rows f.laws value (take i all) ++ z) here
      ∙ sym (append_assoc (exact_rows f.laws value (take i all)) ((x.0, vector f.laws value x.1) ∷ []) (placed p v rest))
      ∙ ap (λ z. z ++ placed p v rest) (sym more)

  pub placing-here : (p : ℕ) (all : List (ℕ × List A)) (i : ℕ) (x : ℕ × List A) → i < length all → x ≡ get_or all i x → p < x.0 → IsPlacing p all i →
      (u : List A) → placed p (vector f.laws value u) (exact_rows f.laws value all) ≡ exact_rows f.laws value (take i all ++ (p, u) ∷ drop i all)
  placing-here p all i x l e lt t u =
      let yes : ltb p x.0 ≡ true = lt-ltb p x.0 lt in
      let v = vector f.laws value u in
      let d = drop-item all i x l e in
      let rest = exact_rows f.laws value (drop (i + 1) all) in
      let here : placed p v (exact_rows f.laws value (drop i all)) ≡ (p, v) ∷ exact_rows f.laws value (drop i all) =
      ap (λ z. placed p v (exact_rows f.laws value z)) d ∙ ap (λ b. if b then (p, v) ∷ (x.0, vector f.laws value x.1) ∷ rest else (x.0, vector f.laws value x.1) ∷ placed p v rest) yes
      ∙ ap (λ z. (p, v) ∷ exact_rows f.laws value z) (sym d) in
      t u ∙ ap (λ z. exact_rows f.laws value (take i all) ++ z) here ∙ sym (exact_rows-append (take i all) ((p, u) ∷ drop i all))

  pub placing-end : (p : ℕ) (all : List (ℕ × List A)) (i : ℕ) → length all ≤ i → IsPlacing p all i →
      (u : List A) → placed p (vector f.laws value u) (exact_rows f.laws value all) ≡ exact_rows f.laws value (take i all ++ (p, u) ∷ drop i all)
  placing-end p all i l t u =
      let v = vector f.laws value u in
      let d = drop_all i all l in
      t u ∙ ap (λ z. exact_rows f.laws value (take i all) ++ placed p v (exact_rows f.laws value z)) d
      ∙ sym (exact_rows-append (take i all) ((p, u) ∷ drop i all) ∙ ap (λ z. exact_rows f.laws value (take i all) ++ (p, v) ∷ exact_rows f.laws value z) d)
