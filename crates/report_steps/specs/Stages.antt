-- The numbered steps of the work on a file: what each refuses, and what passes it.
--
-- RefusesText, IsRead: the text
-- RefusesParent, IsParented: the parent group
-- RefusesPhases, HavePhases: the wave vectors
-- RefusesOrder, IsDivided: the parent group modulo the supercell of the wave vectors
-- RefusesReps, AreWideReps, HaveReps: the small representations
-- RefusesDimensions, AreWideInduced, HaveInduced: the representations that they induce
use Rattle.std.specs.Prelude.{◌≡◌, ◌⊎◌, ℕ, ◌<◌, ◌≤◌, List, All, map}
use Rattle.iso_text.specs.File.{IsFile, HasCause}
use Rattle.iso_text.specs.FileValue.{File}
use Rattle.iso_text.specs.Lines.{lines_of}
use Rattle.iso_text.specs.declared.read_error.ReadError.TheVariants.{BadText}
use Rattle.space_ops.specs.Group.{Parent, IsParentGroup}
use Rattle.space_ops.specs.Words.{HasTooManyRotations, HasExtraTranslation}
use Rattle.space_ops.specs.declared.lattice.Lattice.{Lattice}
use Rattle.space_ops.specs.declared.op.Op.{Op}
use Rattle.super_group.specs.Multipliers.{AreMultipliers}
use Rattle.super_group.specs.Quotient.{IsQuotient, order_in}
use Rattle.report_steps.specs.Contexts.{Parented, Divided}
use Rattle.report_steps.specs.Generators.{RefusesGenerators, AreGiven}
use Rattle.report_steps.specs.IrrepSteps.{IsFirstRefused, IsWideAmong}
use Rattle.report_steps.specs.Irreps.{HasPhase, RefusesPhase, HasRep, RefusesRep, IsWideRep, HasInduced, RefusesInduced, IsWideInducedRep}
use Rattle.report_steps.specs.declared.refusal.Refusal.{Refusal}
use Rattle.report_steps.specs.declared.refusal.Refusal.TheVariants as refusal

-- the first line that can't go on as a file
abbrev pub RefusesText : List ℕ → Refusal → Type 0
RefusesText bytes r = (n : ℕ) × HasCause (lines_of bytes) (BadText n) × (r ≡ refusal.BadText n)

-- the file that the lines are
abbrev pub IsRead : List ℕ → File → Type 0
IsRead bytes file = IsFile (lines_of bytes) file

-- the words over the generators and the lattice have too many rotations, or else one is a pure translation outside the lattice
abbrev pub RefusesGroup : Lattice → List Op → Refusal → Type 0
RefusesGroup lattice gens r =
    (HasTooManyRotations gens lattice × (r ≡ refusal.TooManyRotations))
    ⊎ ((HasTooManyRotations gens lattice → ⊥) × HasExtraTranslation gens lattice × (r ≡ refusal.ExtraTranslation))

-- the parent lists the group of the generators and the lattice
pub record IsParentOf (lattice : Lattice) (gens : List Op) (parent : Parent) : Type 0 where
  pub few : HasTooManyRotations gens lattice → ⊥
  pub pure : HasExtraTranslation gens lattice → ⊥
  pub group : IsParentGroup parent
  pub lattice_is : parent.lattice ≡ lattice
  pub generators_are : parent.generators ≡ gens

-- no generators, or no group of theirs
abbrev pub RefusesParent : File → Refusal → Type 0
RefusesParent file r = RefusesGenerators file r ⊎ ((lattice : Lattice) × (gens : List Op) × AreGiven file lattice gens × RefusesGroup lattice gens r)

-- the group of the file's generators
abbrev pub IsParented : File → Parented → Type 0
IsParented file p = (lattice : Lattice) × (gens : List Op) × AreGiven file lattice gens × IsParentOf lattice gens p.parent × (p.file ≡ file)

-- the first irrep whose wave vector has a phase that is no multiple of 1/24
abbrev pub RefusesPhases : Parented → Refusal → Type 0
RefusesPhases p r = IsFirstRefused (HasPhase p.parent) (RefusesPhase p.parent) p.file.irreps r

abbrev pub HavePhases : Parented → Parented → Type 0
HavePhases p q = All (HasPhase p.parent) p.file.irreps × (q ≡ p)

-- the denominators of the wave vectors
abbrev pub denominators_of : File → List (List ℕ)
denominators_of file = map (λ i. map (λ v. v.den) i.k) file.irreps

-- the order of the parent modulo its supercell is past 6144
abbrev pub RefusesOrder : Parented → Refusal → Type 0
RefusesOrder p r =
    (d : List ℕ) × AreMultipliers p.parent.ops (denominators_of p.file) d × (6144 < order_in p.parent d)
    × (r ≡ refusal.TooLargeGroup (order_in p.parent d))

-- the parent modulo the least supercell of the wave vectors, of order at most 6144
pub record IsDivided (p : Parented) (d : Divided) : Type 0 where
  pub quotient : IsQuotient d.quotient
  pub parent_is : d.quotient.parent ≡ p.parent
  pub multipliers : AreMultipliers p.parent.ops (denominators_of p.file) d.quotient.d
  pub small : order_in p.parent d.quotient.d ≤ 6144
  pub file_is : d.file ≡ p.file

-- the first irrep whose lines give no small representation
abbrev pub RefusesReps : Divided → Refusal → Type 0
RefusesReps d r = IsFirstRefused (HasRep d.quotient.parent) (RefusesRep d.quotient.parent) d.file.irreps r

-- a number of some irrep is wide
abbrev pub AreWideReps : Divided → ℕ → Type 0
AreWideReps d k = IsWideAmong (IsWideRep d.quotient.parent) d.file.irreps k

abbrev pub HaveReps : Divided → Divided → Type 0
HaveReps d e = All (HasRep d.quotient.parent) d.file.irreps × (e ≡ d)

-- the first irrep that induces too many real dimensions, or whose given vector doesn't fit
abbrev pub RefusesDimensions : Divided → Refusal → Type 0
RefusesDimensions d r = IsFirstRefused (HasInduced d.quotient) (RefusesInduced d.quotient) d.file.irreps r

-- a number of some irrep is wide
abbrev pub AreWideInduced : Divided → ℕ → Type 0
AreWideInduced d k = IsWideAmong (IsWideInducedRep d.quotient) d.file.irreps k

abbrev pub HaveInduced : Divided → Divided → Type 0
HaveInduced d e = All (HasInduced d.quotient) d.file.irreps × (e ≡ d)
