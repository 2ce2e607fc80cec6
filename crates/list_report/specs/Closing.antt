-- The fixed subspaces of a real form, and the directions of its classes.
--
-- limit_of format: how many fixed subspaces are allowed; order_by format: how directions are ordered
-- RefusesSubspaces x r, AreWideSubspaces x k, AreFew x y: there are more than the limit
-- RefusesNone, AreWideClasses x k, IsListed x l: the listing of one direction for each class
-- RefusesListing x r: there is none
use Rattle.std.specs.Prelude.{◌≡◌, ◌⊎◌, ℕ, nat_eq, if◌then◌else◌}
use Rattle.cyclo24.specs.ExactK24.{k24, k24_laws}
use Rattle.fix_lattice.specs.Lattice.{AreMoreFixes}
use Rattle.fix_lattice.specs.Wide.{IsWideFixes}
use Rattle.class_list.specs.declared.order.Order.{Order}
use Rattle.class_list.specs.declared.order.Order.TheVariants.{Dimension, Index}
use Rattle.class_list.specs.Directions.{IsListing}
use Rattle.class_list.specs.Wide.{IsWideImages}
use Rattle.list_report.specs.Contexts.{Formed, Listed}
use Rattle.report_steps.specs.declared.refusal.Refusal.{Refusal}
use Rattle.report_steps.specs.declared.refusal.Refusal.TheVariants as refusal
use Rattle.report_steps.specs.Steps.{OrWide}

-- 4096 in format 1, 16384 in format 2
abbrev pub limit_of : ℕ → ℕ
limit_of format = if nat_eq format 2 then 16384 else 4096

-- by dimension in format 1, by index in format 2
abbrev pub order_by : ℕ → Order
order_by format = if nat_eq format 2 then Index else Dimension

-- more distinct fixed subspaces than are allowed
abbrev pub RefusesSubspaces : Formed → Refusal → Type 0
RefusesSubspaces x r = AreMoreFixes k24_laws x.act (limit_of x.format) × (r ≡ refusal.TooManySubspaces x.name (limit_of x.format))

abbrev pub AreWideSubspaces : Formed → ℕ → Type 0
AreWideSubspaces x k = (k ≡ 3) × IsWideFixes k24 x.act

abbrev pub AreFew : Formed → Formed → Type 0
AreFew x y = (AreMoreFixes k24_laws x.act (limit_of x.format) → ⊥) × (y ≡ x)

-- no listing is refused
abbrev pub RefusesNone : Formed → Refusal → Type 0
RefusesNone x r = ⊥

-- stabilisers, or images of fixed subspaces
abbrev pub AreWideClasses : Formed → ℕ → Type 0
AreWideClasses x k = ((k ≡ 3) × IsWideFixes k24 x.act) ⊎ ((k ≡ 4) × IsWideImages k24 x.act)

-- there are too many fixed subspaces or they are wide, or few of them, and what is listed is wide
abbrev pub RefusesListing : Formed → Refusal → Type 0
RefusesListing x r = OrWide RefusesSubspaces AreWideSubspaces x r ⊎ (AreFew x x × OrWide RefusesNone AreWideClasses x r)

-- the listing of one direction for each class of isotropy subgroups
pub record IsListed (x : Formed) (l : Listed) : Type 0 where
  pub listing : IsListing k24_laws k24.cmp x.act (order_by x.format) l.directions
  pub dim : l.dim ≡ x.act.dim
  pub format_is : l.format ≡ x.format
  pub quotient_is : l.quotient ≡ x.quotient
  pub name_is : l.name ≡ x.name
