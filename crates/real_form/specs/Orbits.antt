-- The span of an orbit, and the first candidate whose span has a dimension.
--
-- IsFormOf f w m a rs: rs is the reduced form of the span of the rows a 0, .., a (m - 1) of w entries
-- HasDimension f w m a d: that span has dimension d
-- Fits p n m D w: the real span of the images of the complex vector w has dimension n
-- FirstOf P N vs: some member of the list has P, and each before it has N
-- NoneOf N vs: each member has N
use Rattle.std.specs.Prelude.{◌≡◌, ℕ, ◌+◌, List, [], ◌∷◌, ◌⊎◌, length}
use Rattle.cyclo24.specs.FieldOn.{FieldOn}
use Rattle.lin_alg.specs.Spans.{row_vectors, IsInSpan, AreSame}
use Rattle.lin_alg.specs.Reduced.{IsForm}
use Rattle.lin_alg.specs.Solving.{plain_rows}
use Rattle.real_form.specs.Parts.{Parts, orbit}

-- the reduced form of the span of the first m rows
pub record IsFormOf {K : Type 0} (f : FieldOn K) (w m : ℕ) (a : ℕ → ℕ → K) (rs : List (ℕ × (ℕ → K))) : Type 0 where
  pub form : IsForm f w rs
  pub span : AreSame (IsInSpan f (row_vectors rs)) (IsInSpan f (plain_rows a m))

-- the span of the first m rows has dimension d
abbrev pub HasDimension : {K : Type 0} → FieldOn K → ℕ → ℕ → (ℕ → ℕ → K) → ℕ → Type 0
HasDimension {K} f w m a d = (rs : List (ℕ × (ℕ → K))) × IsFormOf f w m a rs × (length rs ≡ d)

-- the span of the orbit of w under m elements has dimension n
abbrev pub Fits : {Z K : Type 0} → Parts Z K → ℕ → ℕ → (ℕ → ℕ → ℕ → Z) → (ℕ → Z) → Type 0
Fits p n m D w = HasDimension p.real (n + n) m (orbit p n D w) n

-- a member has P, and each before it has N
abbrev pub FirstOf : {V : Type 0} → (V → Type 0) → (V → Type 0) → List V → Type 0
FirstOf P N [] = ⊥
FirstOf P N (v ∷ vs) = P v ⊎ (N v × FirstOf P N vs)

-- each member has N
abbrev pub NoneOf : {V : Type 0} → (V → Type 0) → List V → Type 0
NoneOf N [] = Unit {0}
NoneOf N (v ∷ vs) = N v × NoneOf N vs
