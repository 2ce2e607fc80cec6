-- Which rotation and translation a part names behind the parts before it.
--
-- rotation_of before order axis: the rotation of N and the axis, where this axis may stand there
-- screw_of rotation order digit: the translation of the digit, where it may stand
-- generator_of before part: the generator of a part
-- generators_of before parts: those of several parts
use Rattle.std.specs.Prelude.{ℕ, ◌*◌, ◌/◌, ◌==◌, nat_lt, if◌then◌else◌, List, [], ◌∷◌, ◌++◌, Option, Some, None, slice_get, length, ◌-◌}
use Rattle.hall_symbol.specs.declared.rotation.Axis.{Axis}
use Rattle.hall_symbol.specs.declared.rotation.Axis.TheVariants.{Along, Prime, DoublePrime, Star}
use Rattle.hall_symbol.specs.declared.rotation.CellAxis.{CellAxis}
use Rattle.hall_symbol.specs.declared.rotation.CellAxis.TheVariants.{X, Y, Z}
use Rattle.hall_symbol.specs.declared.rotation.Order.{Order}
use Rattle.hall_symbol.specs.declared.rotation.Order.TheVariants as order
use Rattle.hall_symbol.specs.declared.rotation.Rotation.{Rotation}
use Rattle.hall_symbol.specs.declared.rotation.Rotation.TheVariants.{One, TwoZ, ThreeZ, FourZ, SixZ, TwoX, TwoY, FourX, FourY, TwoPrimeAfterZ, TwoDoublePrimeAfterZ, TwoPrimeAfterX, TwoDoublePrimeAfterX, TwoPrimeAfterY, TwoDoublePrimeAfterY, ThreeStar}
use Rattle.hall_symbol.specs.declared.part.Part.{Part}
use Rattle.hall_symbol.specs.declared.generator.Generator.{Generator}
use Rattle.hall_symbol.specs.Rotations.{value_of, axis_of, order_of}
use Rattle.hall_symbol.specs.Steps.{◌>>=◌}

-- The default axis of a second part with N 2: x behind N 2 or 4, a-b behind N 3 or 6.
abbrev pub second_rotation : Order → Option Rotation
second_rotation order.One = None
second_rotation order.Two = Some TwoX
second_rotation order.Three = Some TwoPrimeAfterZ
second_rotation order.Four = Some TwoX
second_rotation order.Six = Some TwoPrimeAfterZ

-- The default axis: z in the first part, and that of a second part with N 2 and of a third with N 3.
abbrev pub default_rotation : List Generator → Order → Option Rotation
default_rotation _ order.One = Some One
default_rotation [] order.Two = Some TwoZ
default_rotation [] order.Three = Some ThreeZ
default_rotation [] order.Four = Some FourZ
default_rotation [] order.Six = Some SixZ
default_rotation (g ∷ []) order.Two = second_rotation (order_of g.rotation)
default_rotation (g ∷ h ∷ []) order.Three = Some ThreeStar
default_rotation _ _ = None

-- `'` behind a part about x, y or z
abbrev pub prime_behind : Option CellAxis → Option Rotation
prime_behind None = None
prime_behind (Some X) = Some TwoPrimeAfterX
prime_behind (Some Y) = Some TwoPrimeAfterY
prime_behind (Some Z) = Some TwoPrimeAfterZ

-- `"` behind a part about x, y or z
abbrev pub double_prime_behind : Option CellAxis → Option Rotation
double_prime_behind None = None
double_prime_behind (Some X) = Some TwoDoublePrimeAfterX
double_prime_behind (Some Y) = Some TwoDoublePrimeAfterY
double_prime_behind (Some Z) = Some TwoDoublePrimeAfterZ

-- the axis of the cell that the last part is about
abbrev pub last_axis : List Generator → Option CellAxis
last_axis before = slice_get before (length before - 1) >>= λ g. axis_of g.rotation

-- A written axis: x and y go with N 2 and 4, z with 2, 3, 4 and 6, `'` and `"` with 2, `*` with 3.
abbrev pub named_rotation : Option CellAxis → Axis → Order → Option Rotation
named_rotation last (Along X) order.Two = Some TwoX
named_rotation last (Along X) order.Four = Some FourX
named_rotation last (Along Y) order.Two = Some TwoY
named_rotation last (Along Y) order.Four = Some FourY
named_rotation last (Along Z) order.Two = Some TwoZ
named_rotation last (Along Z) order.Three = Some ThreeZ
named_rotation last (Along Z) order.Four = Some FourZ
named_rotation last (Along Z) order.Six = Some SixZ
named_rotation last Prime order.Two = prime_behind last
named_rotation last DoublePrime order.Two = double_prime_behind last
named_rotation last Star order.Three = Some ThreeStar
named_rotation _ _ _ = None

-- the rotation that N and the axis name
abbrev pub rotation_of : List Generator → Order → Option Axis → Option Rotation
rotation_of before n None = default_rotation before n
rotation_of before n (Some a) = named_rotation (last_axis before) a n

-- so many twelfths along an axis of the cell
abbrev pub along : CellAxis → ℕ → List ℕ
along X t = t ∷ 0 ∷ 0 ∷ []
along Y t = 0 ∷ t ∷ 0 ∷ []
along Z t = 0 ∷ 0 ∷ t ∷ []

-- A digit T from 1 to N - 1 adds T/N along the axis x, y or z; no other axis has a digit.
abbrev pub screw_of : Rotation → Order → ℕ → Option (List ℕ)
screw_of r n d =
    if d == 0 then Some (0 ∷ 0 ∷ 0 ∷ [])
    else (if nat_lt d (value_of n) then (axis_of r >>= λ a. Some (along a (d * (12 / value_of n)))) else None)

-- the generator of a part, behind those of the parts before
abbrev pub generator_of : List Generator → Part → Option Generator
generator_of before p =
    rotation_of before p.order p.axis >>= λ r.
    screw_of r p.order p.digit >>= λ t.
    Some (record { rotation = r; negated = p.negated; screw = t; letters = p.letters })

-- the generators of the parts, each behind those before
abbrev pub generators_of : List Generator → List Part → Option (List Generator)
generators_of before [] = Some []
generators_of before (p ∷ ps) =
    generator_of before p >>= λ g.
    generators_of (before ++ g ∷ []) ps >>= λ gs.
    Some (g ∷ gs)
