-- Rows inserted in order, and rows of a form by their places.
use Rattle.std.proofs.Common.{◌≡◌, ◌↔◌, ℕ, suc, zero, ◌<◌, ◌+◌, refl, ap, List, [], ◌∷◌, length, get_or, arith, below_more, Result, Ok, Err}
use Rattle.cyclo24.specs.ExactField.{ExactField, Value}
use Rattle.lin_alg.specs.Action.{Action}
use Rattle.lin_alg.specs.Equations.{dot, Vanishes}
use Rattle.lin_alg.specs.Images.{moves_of, row_image, row_images}
use Rattle.lin_alg.specs.ImageLaws.{images-vanish}
use Rattle.lin_alg.specs.Insertion.{IsWideInsert}
use Rattle.lin_alg.specs.Moves.{moved}
use Rattle.lin_alg.specs.Reduced.{IsForm}
use Rattle.lin_alg.specs.Rows.{vector, exact_rows, HaveWidth}
use Rattle.lin_alg.specs.Spans.{row_vectors, AreSame}
use Rattle.fix_lattice.specs.Wide.{IsWideInserts, row_of}

abbrev error_in : {T E : Type 0} → E → Result T E → E
error_in d (Ok x) = d
error_in d (Err e) = e

-- one error is the same in results of two types
pub same-error : {T U E : Type 0} (a b : E) → ◌≡◌ {A = Result T E} (Err a) (Err b) → ◌≡◌ {A = Result U E} (Err a) (Err b)
same-error {T} {U} {E} a b h = let e : a ≡ b = ap (error_in {T = T} {E = E} a) h in ap Err e

module _ {A : Type 0} (f : ExactField) (value : A → Value f) where
  pub exact_rows-length : (rs : List (ℕ × List A)) → length (exact_rows f.laws value rs) ≡ length rs
  exact_rows-length [] = refl
  exact_rows-length (r ∷ rs) = ap suc (exact_rows-length rs)

  -- the exact row at a place
  pub row-at : (rs : List (ℕ × List A)) (i : ℕ) → i < length rs → row_of f.laws (exact_rows f.laws value rs) i ≡ vector f.laws value (get_or rs i (0, [])).1
  row-at [] i l = absurd (omega arith)
  row-at (r ∷ rs) zero l = refl
  row-at (r ∷ rs) (suc i) l = row-at rs i (omega arith)

pub row-width : {A : Type 0} (w : ℕ) (rs : List (ℕ × List A)) (i : ℕ) → HaveWidth w rs → i < length rs → length (get_or rs i (0, [])).1 ≡ w
row-width w [] i a l = absurd (omega arith)
row-width w (r ∷ rs) zero a l = a.1
row-width w (r ∷ rs) (suc i) a l = row-width w rs i a.2 (omega arith)

module _ (f : ExactField) (act : Action) (q : ℕ) (us : List (ℕ × (ℕ → Value f))) where
  -- row i of the equations times A(q^-1)
  abbrev pub image_at : ℕ → ℕ → Value f
  image_at i = row_image f.laws act q (row_of f.laws us i)

  -- the rows times A(q^-1) vanish exactly where each does
  images-each : (rs : List (ℕ × (ℕ → Value f))) (v : ℕ → Value f) →
      Vanishes f.laws act.dim (row_images f.laws act q (row_vectors rs)) v ↔ ((i : ℕ) → i < length rs → dot f.laws act.dim (row_image f.laws act q (row_of f.laws rs i)) v ≡ f.laws.nought)
  images-each [] v = (λ h i l. absurd (omega arith), λ h. tt)
  images-each (r ∷ rs) v =
      let more = images-each rs v in (
        λ h i l. at i l h.0 (more.0 h.1),
        λ h. (h 0 (omega arith), more.1 (λ i l. h (suc i) (omega arith))),
      )
    where
      at : (i : ℕ) → i < suc (length rs) → dot f.laws act.dim (row_image f.laws act q r.1) v ≡ f.laws.nought →
          ((k : ℕ) → k < length rs → dot f.laws act.dim (row_image f.laws act q (row_of f.laws rs k)) v ≡ f.laws.nought) → dot f.laws act.dim (row_image f.laws act q (row_of f.laws (r ∷ rs) i)) v ≡ f.laws.nought
      at zero l h k = h
      at (suc i) l h k = k i (omega arith)

  -- what the first i of the rows vanish on
  abbrev pub IsImaged : List (ℕ × (ℕ → Value f)) → ℕ → Type 0
  IsImaged now i = (v : ℕ → Value f) → Vanishes f.laws act.dim (row_vectors now) v ↔ ((k : ℕ) → k < i → dot f.laws act.dim (image_at k) v ≡ f.laws.nought)

  pub imaged-start : IsImaged [] 0
  imaged-start v = (λ h k l. absurd (omega arith), λ h. tt)

  pub imaged-step : (now next : List (ℕ × (ℕ → Value f))) (i : ℕ) →
      ((v : ℕ → Value f) → Vanishes f.laws act.dim (row_vectors next) v ↔ ((dot f.laws act.dim (image_at i) v ≡ f.laws.nought) × Vanishes f.laws act.dim (row_vectors now) v)) → IsImaged now i → IsImaged next (i + 1)
  imaged-step now next i cut t v = (
    λ h. let b = (cut v).0 h in below_more (λ k. dot f.laws act.dim (image_at k) v ≡ f.laws.nought) i ((t v).0 b.1) b.0,
    λ h. (cut v).1 (h i (omega arith), (t v).1 (λ k l. h k (omega arith))),
  )

  -- after all rows: the image
  pub imaged-all : (now : List (ℕ × (ℕ → Value f))) (i : ℕ) → i ≡ length us → IsImaged now i → AreSame (Vanishes f.laws act.dim (row_vectors now)) (moved (moves_of f.laws act) q (Vanishes f.laws act.dim (row_vectors us)))
  imaged-all now i e t v =
      let images = images-vanish f act q (row_vectors us) v in
      let each = images-each us v in (
        λ h. images.0 (each.1 (λ k l. let m : k < i = omega arith in (t v).0 h k m)),
        λ h. (t v).1 (λ k l. let m : k < length us = omega arith in each.0 (images.1 h) k m),
      )

  pub imaged-wide : (now : List (ℕ × (ℕ → Value f))) (i : ℕ) → i < length us → IsForm f.laws act.dim now → IsImaged now i → IsWideInsert f now (image_at i) → IsWideInserts f act.dim [] (length us) image_at
  imaged-wide now i l r t w = (i, l, now, record { form = r; vanishes = λ v. (λ h. ((t v).0 h, tt), λ h. (t v).1 h.0) }, w)
