-- The orbits of the atoms of a file.
--
-- Placed: a file under its quotient, with the orbit of each atom line
-- RefusesAtoms d r: the first line whose place is on the orbit of an earlier line, or whose orbit is too large
-- HaveOrbits d p: with the orbits
use Rattle.std.specs.Prelude.{◌≡◌, ◌⊎◌, ℕ, List, length}
use Rattle.wyckoff.specs.AtomLines.{AreAccepted, AreOrbitsOf, IsSameSite, IsTooLarge}
use Rattle.wyckoff.specs.Orbit.{OrbitView}
use Rattle.report_steps.specs.Contexts.{Divided}
use Rattle.report_steps.specs.declared.refusal.Refusal.{Refusal}
use Rattle.report_steps.specs.declared.refusal.Refusal.TheVariants as refusal

pub record Placed : Type 0 where
  pub divided : Divided
  pub orbits : List OrbitView

-- two lines on one orbit, or an orbit of too many coordinates
abbrev pub RefusesAtoms : Divided → Refusal → Type 0
RefusesAtoms d r =
    ((a b : ℕ) × IsSameSite d.quotient d.file.atoms a b × (r ≡ refusal.SameSite a b))
    ⊎ ((n size : ℕ) × IsTooLarge d.quotient d.file.atoms n size × (r ≡ refusal.TooManyAtoms n size))

-- one orbit for each line
pub record HaveOrbits (d : Divided) (p : Placed) : Type 0 where
  pub accepted : AreAccepted d.quotient d.file.atoms (length d.file.atoms)
  pub orbits : AreOrbitsOf d.quotient d.file.atoms p.orbits
  pub divided_is : p.divided ≡ d
