-- What `couple` finds behind the steps that all jobs share, step by step.
--
-- CoupledForm: two irreps by their names and real dimensions, with the quotient acting on pairs of their order parameters
-- coupled_of x: both real forms as one
-- RefusesCoupling x r, AreCoupled x c: the dimensions together pass 24; else both as one
-- RefusesCoupledSubspaces c r, AreWideCoupledSubspaces c k, AreFewCoupled c e: there are more fixed subspaces than the limit
-- CoupledListing, RefusesNone, AreWideCoupledClasses c k, IsCoupledListing c l: the listing of one direction for each class
-- RefusesCoupledListing c r: there is none
-- IsCoupleReported after count l f: the report of a page
-- IsCoupleFound wanted other after count d f: what is found
use Rattle.std.specs.Prelude.{◌≡◌, ◌⊎◌, ℕ, ◌+◌, ◌<◌, ◌≤◌, List, Option}
use Rattle.cyclo24.specs.ExactK24.{Exact24, k24, k24_laws}
use Rattle.lin_alg.specs.Action.{Action}
use Rattle.super_group.specs.Quotient.{SupercellGroup}
use Rattle.fix_lattice.specs.Lattice.{AreMoreFixes}
use Rattle.fix_lattice.specs.Wide.{IsWideFixes}
use Rattle.class_list.specs.Directions.{Direction, IsListing}
use Rattle.class_list.specs.Wide.{IsWideImages}
use Rattle.couple.specs.Coupled.{coupled}
use Rattle.report_steps.specs.Contexts.{Divided}
use Rattle.report_steps.specs.Finding.{Finding, report}
use Rattle.report_steps.specs.Steps.{After, OrWide, never}
use Rattle.report_steps.specs.declared.refusal.Refusal.{Refusal}
use Rattle.report_steps.specs.declared.refusal.Refusal.TheVariants as refusal
use Rattle.list_report.specs.Closing.{limit_of, order_by}
use Rattle.couple_report.specs.CoupleReport.{couple_text}
use Rattle.couple_report.specs.Pairs.{ChosenPair, FormedPair, RefusesPair, ArePair, RefusesForms, AreWideForms, AreFormed}

pub record CoupledForm : Type 0 where
  pub format : ℕ
  pub quotient : SupercellGroup
  pub name : List ℕ
  pub other : List ℕ
  -- the real dimensions
  pub dim : ℕ
  pub other_dim : ℕ
  pub act : Action

abbrev pub coupled_of : FormedPair → CoupledForm
coupled_of x = record {
  format = x.left.format;
  quotient = x.left.quotient;
  name = x.left.name;
  other = x.right.name;
  dim = x.left.act.dim;
  other_dim = x.right.act.dim;
  act = coupled k24_laws x.left.act x.right.act;
}

-- the dimensions together pass 24
abbrev pub RefusesCoupling : FormedPair → Refusal → Type 0
RefusesCoupling x r = (24 < x.left.act.dim + x.right.act.dim) × (r ≡ refusal.TooManyCoupled x.left.name x.right.name (x.left.act.dim + x.right.act.dim))

abbrev pub AreCoupled : FormedPair → CoupledForm → Type 0
AreCoupled x c = (x.left.act.dim + x.right.act.dim ≤ 24) × (c ≡ coupled_of x)

-- more distinct fixed subspaces than the format allows
abbrev pub RefusesCoupledSubspaces : CoupledForm → Refusal → Type 0
RefusesCoupledSubspaces c r = AreMoreFixes k24_laws c.act (limit_of c.format) × (r ≡ refusal.CoupledSubspaces c.name c.other (limit_of c.format))

abbrev pub AreWideCoupledSubspaces : CoupledForm → ℕ → Type 0
AreWideCoupledSubspaces c k = (k ≡ 3) × IsWideFixes k24 c.act

abbrev pub AreFewCoupled : CoupledForm → CoupledForm → Type 0
AreFewCoupled c e = (AreMoreFixes k24_laws c.act (limit_of c.format) → ⊥) × (e ≡ c)

-- no listing is refused
abbrev pub RefusesNone : CoupledForm → Refusal → Type 0
RefusesNone c r = ⊥

-- stabilisers, or images of fixed subspaces
abbrev pub AreWideCoupledClasses : CoupledForm → ℕ → Type 0
AreWideCoupledClasses c k = ((k ≡ 3) × IsWideFixes k24 c.act) ⊎ ((k ≡ 4) × IsWideImages k24 c.act)

-- there are too many fixed subspaces or they are wide, or few of them, and what is listed is wide
abbrev pub RefusesCoupledListing : CoupledForm → Refusal → Type 0
RefusesCoupledListing c r = OrWide RefusesCoupledSubspaces AreWideCoupledSubspaces c r ⊎ (AreFewCoupled c c × OrWide RefusesNone AreWideCoupledClasses c r)

pub record CoupledListing : Type 0 where
  pub form : CoupledForm
  pub directions : List (Direction Exact24)

-- the listing of one direction for each class of isotropy subgroups of pairs
abbrev pub IsCoupledListing : CoupledForm → CoupledListing → Type 0
IsCoupledListing c l = IsListing k24_laws k24.cmp c.act (order_by c.format) l.directions × (l.form ≡ c)

abbrev pub IsCoupleReported : ℕ → Option ℕ → CoupledListing → Finding → Type 0
IsCoupleReported after count l f =
    f ≡ report (couple_text l.form.format l.form.name l.form.other l.form.quotient l.form.dim l.form.other_dim after count l.directions)

abbrev pub AfterCoupledClosing : ℕ → Option ℕ → CoupledForm → Finding → Type 0
AfterCoupledClosing after count = After RefusesNone AreWideCoupledClasses IsCoupledListing (IsCoupleReported after count)

abbrev pub AfterCoupling : ℕ → Option ℕ → CoupledForm → Finding → Type 0
AfterCoupling after count = After RefusesCoupledSubspaces AreWideCoupledSubspaces AreFewCoupled (AfterCoupledClosing after count)

abbrev pub AfterForms : ℕ → Option ℕ → FormedPair → Finding → Type 0
AfterForms after count = After RefusesCoupling never AreCoupled (AfterCoupling after count)

abbrev pub AfterPair : ℕ → Option ℕ → ChosenPair → Finding → Type 0
AfterPair after count = After RefusesForms AreWideForms AreFormed (AfterForms after count)

abbrev pub IsCoupleFound : Option (List ℕ) → List ℕ → ℕ → Option ℕ → Divided → Finding → Type 0
IsCoupleFound wanted other after count = After (RefusesPair wanted other) never (ArePair wanted other) (AfterPair after count)
