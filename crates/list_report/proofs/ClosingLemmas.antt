-- The steps behind the real form, by the answers of the calls.
use Rattle.std.proofs.Common.{◌≡◌, refl, ap, subst, inl, inr, ℕ, ◌≤◌, ◌⊎◌, List, map, arith}
use Rattle.cyclo24.specs.declared.k24.K24.{K24}
use Rattle.cyclo24.specs.K24.{exact24}
use Rattle.cyclo24.specs.ExactK24.{k24, k24_laws}
use Rattle.fix_lattice.specs.Lattice.{AreMoreFixes}
use Rattle.fix_lattice.specs.Subspaces.{AreWholeForms}
use Rattle.fix_lattice.specs.Wide.{IsWideFixes}
use Rattle.class_list.specs.declared.order.Order.{Order}
use Rattle.class_list.specs.Directions.{IsListing}
use Rattle.class_list.specs.Seen.{DirectionView, directions_of}
use Rattle.class_list.specs.Wide.{IsWideImages}
use Rattle.super_group.specs.Quotient.{order_of}
use Rattle.real_form.specs.RealForm.{quotient_of, action_of}
use Rattle.list_report.specs.Closing.{limit_of, order_by, AreFew, RefusesListing}
use Rattle.list_report.specs.HeldListings.{formed_in, IsFormedHeld, AreDirections}
use Rattle.list_report.specs.declared.listed.FormedIrrep.{FormedIrrep}
use Rattle.report_steps.specs.declared.refusal.Refusal.TheVariants as refusal

other : {A : Type 0} → ⊥ ⊎ A → A
other (inl x) = absurd x
other (inr x) = x

module _ (x : FormedIrrep) where
  pub order-few : IsFormedHeld x → order_of x.quotient ≤ 6144 → (action_of x.form).group.order ≤ 16384
  order-few h l =
      let e : order_of (quotient_of x.form) ≡ order_of x.quotient = ap order_of h.quotient in
      small (order_of (quotient_of x.form)) (order_of x.quotient) e l
    where
      small : (m n : ℕ) → m ≡ n → n ≤ 6144 → m ≤ 16384
      small m n e l = omega (arith, e, l)

  pub few-fixes : (limit : ℕ) → limit ≡ limit_of x.format → (AreMoreFixes k24_laws (action_of x.form) limit → ⊥) → AreFew (formed_in x) (formed_in x)
  few-fixes limit e h = (subst (λ n. AreMoreFixes k24_laws (action_of x.form) n → ⊥) e h, refl)

  pub many-fixes : (limit : ℕ) → limit ≡ limit_of x.format → AreMoreFixes k24_laws (action_of x.form) limit → RefusesListing (formed_in x) (refusal.TooManySubspaces x.name limit)
  many-fixes limit e h = inl (inl (subst (λ n. AreMoreFixes k24_laws (action_of x.form) n) e h, ap (refusal.TooManySubspaces x.name) e))

  pub wide-fixes : ⊥ ⊎ IsWideFixes k24 (action_of x.form) → RefusesListing (formed_in x) (refusal.Wide 3)
  wide-fixes w = inl (inr (3, (refl, other w), refl))

  pub wide-images : (limit : ℕ) → limit ≡ limit_of x.format → (AreMoreFixes k24_laws (action_of x.form) limit → ⊥) → ⊥ ⊎ IsWideImages k24 (action_of x.form) → RefusesListing (formed_in x) (refusal.Wide 4)
  wide-images limit e h w = inr (few-fixes limit e h, inr (4, inr (refl, other w), refl))

  pub are-directions : (o : Order) → o ≡ order_by x.format → (l : List (DirectionView K24)) → IsListing k24_laws k24.cmp (action_of x.form) o (directions_of k24_laws exact24 l)
      → AreWholeForms k24_laws exact24 (action_of x.form).dim (map (λ d. d.equations) l) → AreDirections (formed_in x) l
  are-directions o e l h w = record { listing = subst (λ (p : Order). IsListing k24_laws k24.cmp (action_of x.form) p (directions_of k24_laws exact24 l)) e h; forms = w }
