-- Marks and the queue.
use Rattle.std.proofs.Common.{◌≡◌, ℕ, ◌<◌, ◌⊎◌, inl, inr, Bool, true, false, sym, ◌∙◌, ap, subst, List, [], ◌∷◌, ◌++◌, arith, length, get_or, set}
use Rattle.std.proofs.lemmas.List.{get_or-set_other}
use Rattle.cyclo24.specs.ExactField.{ExactField, Value}
use Rattle.lin_alg.specs.Action.{Action, IsAction}
use Rattle.fix_lattice.specs.Classes.{IsOf, IsImageForm, AreImages, IsReached, AreCovered, AreReached}
use Rattle.fix_lattice.proofs.ClosingLemmas.{reached-image}
use Rattle.fix_lattice.specs.Lattice.{form_at}
use Rattle.fix_lattice.proofs.ListLemmas.{each-last, same-default}

alike : (i y : ℕ) → (i ≡ y) ⊎ (i ≡ y → ⊥)
alike i y = grind arith

-- an item of the list
pub item-of : (xs : List ℕ) (p x : ℕ) → p < length xs → x ≡ get_or xs p x → IsOf xs x
item-of xs p x l e = (p, (l, sym (e ∙ same-default xs p x 0 l)))

-- one more mark
pub marked : (A B : ℕ → Type 0) (old new : List Bool) (y : ℕ) → (new ≡ old) ⊎ (new ≡ set old y true) → B y → ((z : ℕ) → get_or old z false ≡ true → A z ⊎ B z) →
    (z : ℕ) → get_or new z false ≡ true → A z ⊎ B z
marked A B old new y (inl e) b t z h = t z (ap (λ (x : List Bool). get_or x z false) (sym e) ∙ h)
marked A B old new y (inr e) b t z h =
    elim (alike z y) [
      | inl s ↦ inr (subst B (sym s) b)
      | inr n ↦ t z (sym (get_or-set_other old y z true false n) ∙ ap (λ (x : List Bool). get_or x z false) (sym e) ∙ h)
    ]

-- one more place
pub queued : (A : ℕ → Type 0) (old new : List ℕ) (y : ℕ) → (new ≡ old) ⊎ (new ≡ old ++ y ∷ []) → A y → ((t : ℕ) → t < length old → A (get_or old t 0)) → (t : ℕ) → t < length new → A (get_or new t 0)
queued A old new y (inl e) b a = subst (λ (z : List ℕ). (t : ℕ) → t < length z → A (get_or z t 0)) (sym e) a
queued A old new y (inr e) b a = subst (λ (z : List ℕ). (t : ℕ) → t < length z → A (get_or z t 0)) (sym e) (each-last (λ _ z. A z) old y 0 a b)

module _ (f : ExactField) (act : Action) (law : IsAction f.laws act) (forms : List (List (ℕ × (ℕ → Value f)))) (images : List (List ℕ)) (a : AreImages f.laws act forms images) where
  -- the images of what is reached are reached
  reached-of : (i : ℕ) → i < length images → IsReached f.laws act forms i → (y : ℕ) → IsOf (get_or images i []) y → (y < length forms) × IsReached f.laws act forms y
  reached-of i il r y o =
      let row = a i il in
      let pl : o.0 < act.generators = subst (λ (z : ℕ). o.0 < z) row.size o.1.0 in
      let image = subst (λ (z : ℕ). (z < length forms) × IsImageForm f.laws act (act.generator o.0) (form_at forms i) (form_at forms z)) o.1.1 (row.image o.0 pl) in
      (image.0, reached-image f act law forms i (act.generator o.0) y (law.generator_below o.0 pl) r image.1)

  -- marks after one row
  pub covered-after : (old new : List Bool) (i : ℕ) → i < length images → IsReached f.laws act forms i → AreCovered f.laws act forms old →
      ((y : ℕ) → get_or new y false ≡ true → (get_or old y false ≡ true) ⊎ IsOf (get_or images i []) y) → AreCovered f.laws act forms new
  covered-after old new i il r c t y h = elim (t y h) [ inl o ↦ c y o | inr o ↦ reached-of i il r y o ]

  -- the queue after one row
  pub queue-after : (old new : List ℕ) (i : ℕ) → i < length images → IsReached f.laws act forms i → AreReached f.laws act forms old →
      ((t : ℕ) → t < length new → IsOf old (get_or new t 0) ⊎ IsOf (get_or images i []) (get_or new t 0)) → AreReached f.laws act forms new
  queue-after old new i il r q t s l =
      elim (t s l) [
        | inl o ↦ subst (λ (z : ℕ). (z < length forms) × IsReached f.laws act forms z) o.1.1 (q o.0 o.1.0)
        | inr o ↦ reached-of i il r (get_or new s 0) o
      ]

  -- the places of a row are places of forms
  pub row-inside : (i : ℕ) → i < length images → (p : ℕ) → p < length (get_or images i []) → get_or (get_or images i []) p 0 < length forms
  row-inside i il p l = let row = a i il in (row.image p (subst (λ (z : ℕ). p < z) row.size l)).0

module _ (f : ExactField) (act : Action) where
  -- one more place that is reached
  pub queue-more : (forms : List (List (ℕ × (ℕ → Value f)))) (queue : List ℕ) (y : ℕ) → AreReached f.laws act forms queue → y < length forms → IsReached f.laws act forms y → AreReached f.laws act forms (queue ++ y ∷ [])
  queue-more forms queue y a l r = each-last (λ t z. (z < length forms) × IsReached f.laws act forms z) queue y 0 a (l, r)
