-- The grammar of the words, by how each is put together. The readers' functions stand apart from it,
-- and each reader's contract joins the two.
--
-- SpellsWhole most text n: one to so many digits
-- SpellsRatio most text n d: a whole number, and optionally `/` and a denominator
-- SpellsKFraction text v, SpellsPlace text units, SpellsTolerance text units: the fractions and coordinates
use Rattle.std.specs.Prelude.{◌≡◌, ◌⊎◌, ℕ, ℤ, pos, ◌+◌, ◌*◌, ◌/◌, ◌<◌, ◌≤◌, Bool, true, false, List, [], ◌∷◌, ◌++◌, length, codes}
use Rattle.std.specs.List.{list_all}
use Rattle.std.specs.Char.{is_ascii_digit}
use Rattle.iso_text.specs.Digits.{decimal}
use Rattle.iso_text.specs.Fractions.{signed, IsLowest, edge_units, point_units}
use Rattle.iso_text.specs.declared.numbers.Frac.{Frac}

-- digits, none or more, and their number
pub record SpellsDigits (most : ℕ) (text : List ℕ) (n : ℕ) : Type 0 where
  pub few : length text ≤ most
  pub digits : list_all is_ascii_digit text ≡ true
  pub value : n ≡ decimal text

-- one to so many digits, and their number
pub record SpellsWhole (most : ℕ) (text : List ℕ) (n : ℕ) : Type 0 where
  pub some : 0 < length text
  pub spelled : SpellsDigits most text n

-- the denominators and their texts
abbrev pub SpellsDivisor : List ℕ → ℕ → Type 0
SpellsDivisor text d = ((text ≡ codes "1") × (d ≡ 1)) ⊎ ((text ≡ codes "2") × (d ≡ 2)) ⊎ ((text ≡ codes "3") × (d ≡ 3)) ⊎ ((text ≡ codes "4") × (d ≡ 4)) ⊎ ((text ≡ codes "6") × (d ≡ 6)) ⊎ ((text ≡ codes "8") × (d ≡ 8)) ⊎ ((text ≡ codes "12") × (d ≡ 12)) ⊎ ((text ≡ codes "24") × (d ≡ 24))

-- nothing for 1, or `/` and a denominator
abbrev pub SpellsOver : List ℕ → ℕ → Type 0
SpellsOver [] d = d ≡ 1
SpellsOver (c ∷ text) d = (c ≡ 47) × SpellsDivisor text d

-- a whole number, and nothing or `/` and a denominator
pub record SpellsRatio (most : ℕ) (text : List ℕ) (n d : ℕ) : Type 0 where
  pub front : List ℕ
  pub over : List ℕ
  pub joined : text ≡ front ++ over
  pub whole : SpellsWhole most front n
  pub divisor : SpellsOver over d

-- a minus sign, or nothing
abbrev pub minus : Bool → List ℕ
minus true = codes "-"
minus false = []

-- a k fraction in lowest terms: an optional minus, one or two digits of at most 24, over 1, 2, 3, 4 or 6
pub record SpellsKFraction (text : List ℕ) (v : Frac) : Type 0 where
  pub negative : Bool
  pub body : List ℕ
  pub num : ℕ
  pub den : ℕ
  pub joined : text ≡ minus negative ++ body
  pub ratio : SpellsRatio 2 body num den
  pub small : num ≤ 24
  pub divisor : den ≤ 6
  pub value : IsLowest (signed negative num) den v

-- a plus or minus sign, or nothing
abbrev pub IsSignOf : Bool → List ℕ → Type 0
IsSignOf negative text = ((negative ≡ true) × (text ≡ codes "-")) ⊎ ((negative ≡ false) × (text ≡ codes "+")) ⊎ ((negative ≡ false) × (text ≡ []))

-- whole edges alone: one or two digits
abbrev pub SpellsWholeEdges : List ℕ → ℕ → Type 0
SpellsWholeEdges body units = (n : ℕ) × SpellsWhole 2 body n × (units ≡ edge_units * n)

-- up to two digits, the point, and up to six digits, one digit at least in all
pub record SpellsDecimal (body : List ℕ) (units : ℕ) : Type 0 where
  pub edges : List ℕ
  pub digits : List ℕ
  pub whole : ℕ
  pub part : ℕ
  pub joined : body ≡ edges ++ (codes "." ++ digits)
  pub before : SpellsDigits 2 edges whole
  pub behind : SpellsDigits 6 digits part
  pub some : 0 < length edges + length digits
  pub value : units ≡ point_units whole part (length digits)

-- a fraction of at most 99, its numerator of one to four digits, over a denominator behind a `/`
pub record SpellsFraction (body : List ℕ) (units : ℕ) : Type 0 where
  pub digits : List ℕ
  pub divisor : List ℕ
  pub num : ℕ
  pub den : ℕ
  pub joined : body ≡ digits ++ (codes "/" ++ divisor)
  pub whole : SpellsWhole 4 digits num
  pub over : SpellsDivisor divisor den
  pub small : num ≤ 99 * den
  pub value : units ≡ num * (edge_units / den)

-- the units of a coordinate without its sign
abbrev pub SpellsUnits : List ℕ → ℕ → Type 0
SpellsUnits body units = SpellsWholeEdges body units ⊎ SpellsDecimal body units ⊎ SpellsFraction body units

-- a coordinate: an optional sign and its units
pub record SpellsPlace (text : List ℕ) (place : ℤ) : Type 0 where
  pub negative : Bool
  pub front : List ℕ
  pub body : List ℕ
  pub units : ℕ
  pub joined : text ≡ front ++ body
  pub signed_by : IsSignOf negative front
  pub spelled : SpellsUnits body units
  pub value : place ≡ signed negative units

-- a coordinate from 0 to below a quarter of an edge
abbrev pub SpellsTolerance : List ℕ → ℤ → Type 0
SpellsTolerance text t = SpellsPlace text t × (n : ℕ) × (t ≡ pos n) × (n < 3000000)
