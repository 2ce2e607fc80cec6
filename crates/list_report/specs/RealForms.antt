-- The real form of an irrep of a file.
--
-- tried_of n given: the vectors that are tried: the given one alone, or those of the candidates
-- IsOfKind c s g kind: the irrep is represented by g on the star s, and what it induces has the kind
-- matrices_by c s g, dimension_by c s: the matrices that it induces, and their dimension
-- IsRealForm c x s g kind rs: the quotient acts by the matrices in the basis rs of the real form
-- RefusesForm c r, IsWideFormOf c k, IsFormed c x: no real basis; a number is wide; the quotient acting by real matrices
use Rattle.std.specs.Prelude.{◌≡◌, ◌⊎◌, ℕ, List, [], ◌∷◌, length, Option, Some, None}
use Rattle.cyclo24.specs.ExactK24.{Exact24, k24_laws}
use Rattle.cyclo24.specs.ExactZ24.{ExactZ24, z24_laws}
use Rattle.cyclo24.specs.Terms.{terms_value}
use Rattle.iso_text.specs.declared.sections.VectorText.{VectorText}
use Rattle.lin_alg.specs.Action.{IsAction, entry_of}
use Rattle.lin_alg.specs.Rows.{vector}
use Rattle.kstar.specs.Star.{WaveStar}
use Rattle.super_group.specs.Quotient.{order_of, quotient_group, generators_of}
use Rattle.small_rep.specs.SmallRep.{Matrices}
use Rattle.induce.specs.declared.kinds.Kind.{Kind}
use Rattle.induce.specs.declared.kinds.Kind.TheVariants.{Real}
use Rattle.induce.specs.Induced.{dimension_of, induced_of, indicator_sum}
use Rattle.induce.specs.Kinds.{IsKind}
use Rattle.real_form.specs.Bases.{AreMatricesIn}
use Rattle.real_form.specs.Candidates.{tried}
use Rattle.real_form.specs.Complexes.{z24_parts}
use Rattle.real_form.specs.Held.{generator_of}
use Rattle.real_form.specs.Orbits.{NoneOf}
use Rattle.real_form.specs.RealBasis.{FitsNot, IsRealBasis, IsWideSpans, IsWideForm}
use Rattle.list_report.specs.Contexts.{Chosen, Formed}
use Rattle.report_steps.specs.Irreps.{IsInducible}
use Rattle.report_steps.specs.declared.refusal.Refusal.{Refusal}
use Rattle.report_steps.specs.declared.refusal.Refusal.TheVariants as refusal

-- the given vector alone, or the candidates
abbrev pub tried_of : ℕ → Option VectorText → List (ℕ → ExactZ24)
tried_of n None = tried n None
tried_of n (Some v) = vector z24_laws terms_value v.numbers ∷ []

-- an irrep with its star and matrices, and the kind of what it induces
pub record IsOfKind (c : Chosen) (s : WaveStar) (g : Matrices) (kind : Kind) : Type 0 where
  pub inducible : IsInducible c.quotient c.irrep s g
  pub kind_is : IsKind kind (indicator_sum c.quotient s c.irrep.size g) (order_of c.quotient)

-- the matrices that it induces
abbrev pub matrices_by : Chosen → WaveStar → Matrices → ℕ → ℕ → ℕ → ExactZ24
matrices_by c s g = induced_of c.quotient s c.irrep.size g

-- their dimension
abbrev pub dimension_by : Chosen → WaveStar → ℕ
dimension_by c s = dimension_of s c.irrep.size

-- the vectors that are tried
abbrev pub tried_by : Chosen → WaveStar → List (ℕ → ExactZ24)
tried_by c s = tried_of (dimension_by c s) c.irrep.vector

-- the quotient acts by the matrices in the basis of the real form
pub record IsRealForm (c : Chosen) (x : Formed) (s : WaveStar) (g : Matrices) (kind : Kind) (rs : List (ℕ × (ℕ → Exact24))) : Type 0 where
  pub of_kind : IsOfKind c s g kind
  pub basis : IsRealBasis kind (dimension_by c s) (order_of c.quotient) (matrices_by c s g) (tried_by c s) rs
  pub matrices : AreMatricesIn z24_parts (dimension_by c s) (matrices_by c s g) (order_of c.quotient) rs (entry_of k24_laws x.act)
  pub dim : x.act.dim ≡ length rs
  pub group : x.act.group ≡ quotient_group c.quotient
  pub generators : x.act.generators ≡ length (generators_of c.quotient)
  pub generator : x.act.generator ≡ generator_of c.quotient
  pub lawful : IsAction k24_laws x.act

-- the kind is real, and no vector's orbit spans a space of the dimension
abbrev pub RefusesForm : Chosen → Refusal → Type 0
RefusesForm c r =
    (s : WaveStar) × (g : Matrices) × IsOfKind c s g Real × NoneOf (FitsNot (dimension_by c s) (order_of c.quotient) (matrices_by c s g)) (tried_by c s)
    × (r ≡ refusal.NoRealBasis c.irrep.name)

-- a span of the real kind, or the matrices in the basis
abbrev pub IsWideKind : Chosen → WaveStar → Matrices → Kind → ℕ → Type 0
IsWideKind c s g kind k =
    ((k ≡ 1) × (kind ≡ Real) × IsWideSpans (dimension_by c s) (order_of c.quotient) (matrices_by c s g) (tried_by c s))
    ⊎ ((k ≡ 2) × IsWideForm kind (dimension_by c s) (length c.quotient.translations) (length c.quotient.parent.ops) (matrices_by c s g) (tried_by c s))

abbrev pub IsWideFormOf : Chosen → ℕ → Type 0
IsWideFormOf c k = (s : WaveStar) × (g : Matrices) × (kind : Kind) × IsOfKind c s g kind × IsWideKind c s g kind k

-- the real form of an irrep
pub record IsFormed (c : Chosen) (x : Formed) : Type 0 where
  pub star : WaveStar
  pub small : Matrices
  pub kind : Kind
  pub rows : List (ℕ × (ℕ → Exact24))
  pub form : IsRealForm c x star small kind rows
  pub format_is : x.format ≡ c.format
  pub quotient_is : x.quotient ≡ c.quotient
  pub name_is : x.name ≡ c.irrep.name
