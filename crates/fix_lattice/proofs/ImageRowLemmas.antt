-- Rows of the table of images, as forms grow.
use Rattle.std.proofs.Common.{ℕ, suc, ◌<◌, ◌≤◌, sym, ◌∙◌, ap, subst, List, [], ◌∷◌, ◌++◌, arith, length, get_or}
use Rattle.cyclo24.specs.ExactField.{ExactField, Value}
use Rattle.lin_alg.specs.Action.{Action}
use Rattle.fix_lattice.specs.Lattice.{form_at}
use Rattle.fix_lattice.specs.Held.{IsGrown}
use Rattle.fix_lattice.specs.Classes.{IsImageForm, IsImageRow, AreImages}
use Rattle.fix_lattice.proofs.ListLemmas.{length-last, each-last}

module _ (f : ExactField) (act : Action) where
  -- an image stays one
  pub grown-image : (old new : List (List (ℕ × (ℕ → Value f)))) → IsGrown old new → (a i j : ℕ) → i < length old → j < length old → IsImageForm f.laws act a (form_at old i) (form_at old j) → IsImageForm f.laws act a (form_at new i) (form_at new j)
  grown-image old new t a i j il jl h =
      subst (λ (u : List (ℕ × (ℕ → Value f))). IsImageForm f.laws act a u (form_at new j)) (sym (t.first i il)) (subst (IsImageForm f.laws act a (form_at old i)) (sym (t.first j jl)) h)

  -- images stay so
  pub row-grown : (old new : List (List (ℕ × (ℕ → Value f)))) (i n : ℕ) (found : List ℕ) → IsGrown old new → i < length old → IsImageRow f.laws act old i n found → IsImageRow f.laws act new i n found
  row-grown old new i n found t il r = record {
    size = r.size;
    image = λ p l.
        let o = r.image p l in
        let ol = o.0 in
        let longer = t.longer in
        (omega arith, grown-image old new t (act.generator p) i (get_or found p 0) il ol o.1);
  }

  pub images-grown : (old new : List (List (ℕ × (ℕ → Value f)))) (images : List (List ℕ)) → IsGrown old new → length images ≤ length old → AreImages f.laws act old images → AreImages f.laws act new images
  images-grown old new images t short a i l = let il : i < length old = omega arith in row-grown old new i act.generators (get_or images i []) t il (a i l)

  -- one more image
  pub row-more : (forms : List (List (ℕ × (ℕ → Value f)))) (i n y : ℕ) (found : List ℕ) → IsImageRow f.laws act forms i n found → y < length forms → IsImageForm f.laws act (act.generator n) (form_at forms i) (form_at forms y) →
      IsImageRow f.laws act forms i (suc n) (found ++ y ∷ [])
  row-more forms i n y found r l h =
      let size = r.size in
      record {
        size = length-last found y ∙ ap suc size;
        image = λ p m.
            let pl : p < length (found ++ y ∷ []) = let n = length-last found y in omega arith in
            each-last (λ p z. (z < length forms) × IsImageForm f.laws act (act.generator p) (form_at forms i) (form_at forms z)) found y 0
            (λ p k. let pn : p < n = omega arith in r.image p pn)
            (l, subst (λ (z : ℕ). IsImageForm f.laws act (act.generator z) (form_at forms i) (form_at forms y)) (sym size) h) p pl;
      }

  -- one more row
  pub images-more : (forms : List (List (ℕ × (ℕ → Value f)))) (images : List (List ℕ)) (found : List ℕ) → AreImages f.laws act forms images → IsImageRow f.laws act forms (length images) act.generators found → AreImages f.laws act forms (images ++ found ∷ [])
  images-more forms images found a r = each-last (λ i z. IsImageRow f.laws act forms i act.generators z) images found [] a r
