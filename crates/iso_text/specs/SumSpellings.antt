-- The grammar of numbers, by how each is put together.
--
-- SpellsUnit text u, SpellsCoefficient text n d: the two parts of a term
-- SpellsTerm negative text t: a term without its sign
-- SpellsSum P text vs: what P spells with each sign, one after the other, the first sign optional
-- SpellsNumber text ts: a sum of 1 to 16 terms
use Rattle.std.specs.Prelude.{◌≡◌, ◌⊎◌, ℕ, ◌<◌, ◌≤◌, Bool, true, false, List, [], ◌∷◌, ◌++◌, length, codes}
use Rattle.iso_text.specs.Numbers.{term}
use Rattle.iso_text.specs.Spellings.{SpellsWhole, SpellsRatio, IsSignOf}
use Rattle.iso_text.specs.declared.numbers.Term.{Term}
use Rattle.iso_text.specs.declared.numbers.Unit.{Unit}
use Rattle.iso_text.specs.declared.numbers.Unit.TheVariants.{One, Z, I, R2, R3, R6}

-- `z` and one or two digits below 24
pub record SpellsPower (text : List ℕ) (u : Unit) : Type 0 where
  pub digits : List ℕ
  pub power : ℕ
  pub joined : text ≡ codes "z" ++ digits
  pub whole : SpellsWhole 2 digits power
  pub small : power < 24
  pub value : u ≡ Z power

-- a power of z, `i`, or a root
abbrev pub SpellsUnit : List ℕ → Unit → Type 0
SpellsUnit text u = SpellsPower text u ⊎ ((text ≡ codes "i") × (u ≡ I)) ⊎ ((text ≡ codes "r2") × (u ≡ R2)) ⊎ ((text ≡ codes "r3") × (u ≡ R3)) ⊎ ((text ≡ codes "r6") × (u ≡ R6))

-- one to five digits of at most 10,000, and nothing or `/` and a denominator
pub record SpellsCoefficient (text : List ℕ) (n d : ℕ) : Type 0 where
  pub ratio : SpellsRatio 5 text n d
  pub small : n ≤ 10000

-- a coefficient alone
pub record SpellsRational (negative : Bool) (text : List ℕ) (t : Term) : Type 0 where
  pub num : ℕ
  pub den : ℕ
  pub coefficient : SpellsCoefficient text num den
  pub value : t ≡ term negative (num, den) One

-- a unit alone
pub record SpellsAlone (negative : Bool) (text : List ℕ) (t : Term) : Type 0 where
  pub unit : Unit
  pub spelled : SpellsUnit text unit
  pub value : t ≡ term negative (1, 1) unit

-- a coefficient, `*` and a unit
pub record SpellsProduct (negative : Bool) (text : List ℕ) (t : Term) : Type 0 where
  pub front : List ℕ
  pub behind : List ℕ
  pub num : ℕ
  pub den : ℕ
  pub unit : Unit
  pub joined : text ≡ front ++ (codes "*" ++ behind)
  pub coefficient : SpellsCoefficient front num den
  pub spelled : SpellsUnit behind unit
  pub value : t ≡ term negative (num, den) unit

-- a term without its sign
abbrev pub SpellsTerm : Bool → List ℕ → Term → Type 0
SpellsTerm negative text t = SpellsRational negative text t ⊎ SpellsAlone negative text t ⊎ SpellsProduct negative text t

-- a minus or a plus sign
abbrev pub sign : Bool → List ℕ
sign true = codes "-"
sign false = codes "+"

-- none or more items, each behind its sign
abbrev pub SpellsMore : {V : Type 0} → (Bool → List ℕ → V → Type 0) → List ℕ → List V → Type 0
SpellsMore P text [] = text ≡ []
SpellsMore P text (v ∷ vs) = (negative : Bool) × (item : List ℕ) × (others : List ℕ) × (text ≡ sign negative ++ (item ++ others)) × P negative item v × SpellsMore P others vs

-- one or more items, the sign of the first optional
pub record SpellsSum {V : Type 0} (P : Bool → List ℕ → V → Type 0) (text : List ℕ) (vs : List V) : Type 0 where
  pub negative : Bool
  pub front : List ℕ
  pub item : List ℕ
  pub others : List ℕ
  pub first : V
  pub rest : List V
  pub joined : text ≡ front ++ (item ++ others)
  pub signed_by : IsSignOf negative front
  pub spelled : P negative item first
  pub more : SpellsMore P others rest
  pub values : vs ≡ first ∷ rest

-- a sum of 1 to 16 terms
pub record SpellsNumber (text : List ℕ) (ts : List Term) : Type 0 where
  pub sum : SpellsSum SpellsTerm text ts
  pub few : length ts ≤ 16
