-- The sixteen rotations of the Hall symbols.
--
-- value_of order: the number N
-- rotation_rows rotation: its rows
-- axis_of rotation: the axis of the cell that it is about
use Rattle.std.specs.Prelude.{ℕ, ℤ, pos, negsuc, List, [], ◌∷◌, Option, Some, None}
use Rattle.hall_symbol.specs.declared.rotation.CellAxis.{CellAxis}
use Rattle.hall_symbol.specs.declared.rotation.CellAxis.TheVariants.{X, Y, Z}
use Rattle.hall_symbol.specs.declared.rotation.Order.{Order}
use Rattle.hall_symbol.specs.declared.rotation.Order.TheVariants as order
use Rattle.hall_symbol.specs.declared.rotation.Rotation.{Rotation}
use Rattle.hall_symbol.specs.declared.rotation.Rotation.TheVariants.{One, TwoZ, ThreeZ, FourZ, SixZ, TwoX, TwoY, FourX, FourY, TwoPrimeAfterZ, TwoDoublePrimeAfterZ, TwoPrimeAfterX, TwoDoublePrimeAfterX, TwoPrimeAfterY, TwoDoublePrimeAfterY, ThreeStar}

-- the number N
abbrev pub value_of : Order → ℕ
value_of order.One = 1
value_of order.Two = 2
value_of order.Three = 3
value_of order.Four = 4
value_of order.Six = 6

-- a row of three numbers, and three rows
abbrev row : ℤ → ℤ → ℤ → List ℤ
row x y z = x ∷ y ∷ z ∷ []

abbrev rows : List ℤ → List ℤ → List ℤ → List (List ℤ)
rows a b c = a ∷ b ∷ c ∷ []

-- the rows of the matrix; `negsuc 0` is -1
abbrev pub rotation_rows : Rotation → List (List ℤ)
rotation_rows One = rows (row (pos 1) (pos 0) (pos 0)) (row (pos 0) (pos 1) (pos 0)) (row (pos 0) (pos 0) (pos 1))
rotation_rows TwoZ = rows (row (negsuc 0) (pos 0) (pos 0)) (row (pos 0) (negsuc 0) (pos 0)) (row (pos 0) (pos 0) (pos 1))
rotation_rows ThreeZ = rows (row (pos 0) (negsuc 0) (pos 0)) (row (pos 1) (negsuc 0) (pos 0)) (row (pos 0) (pos 0) (pos 1))
rotation_rows FourZ = rows (row (pos 0) (negsuc 0) (pos 0)) (row (pos 1) (pos 0) (pos 0)) (row (pos 0) (pos 0) (pos 1))
rotation_rows SixZ = rows (row (pos 1) (negsuc 0) (pos 0)) (row (pos 1) (pos 0) (pos 0)) (row (pos 0) (pos 0) (pos 1))
rotation_rows TwoX = rows (row (pos 1) (pos 0) (pos 0)) (row (pos 0) (negsuc 0) (pos 0)) (row (pos 0) (pos 0) (negsuc 0))
rotation_rows TwoY = rows (row (negsuc 0) (pos 0) (pos 0)) (row (pos 0) (pos 1) (pos 0)) (row (pos 0) (pos 0) (negsuc 0))
rotation_rows FourX = rows (row (pos 1) (pos 0) (pos 0)) (row (pos 0) (pos 0) (negsuc 0)) (row (pos 0) (pos 1) (pos 0))
rotation_rows FourY = rows (row (pos 0) (pos 0) (pos 1)) (row (pos 0) (pos 1) (pos 0)) (row (negsuc 0) (pos 0) (pos 0))
rotation_rows TwoPrimeAfterZ = rows (row (pos 0) (negsuc 0) (pos 0)) (row (negsuc 0) (pos 0) (pos 0)) (row (pos 0) (pos 0) (negsuc 0))
rotation_rows TwoDoublePrimeAfterZ = rows (row (pos 0) (pos 1) (pos 0)) (row (pos 1) (pos 0) (pos 0)) (row (pos 0) (pos 0) (negsuc 0))
rotation_rows TwoPrimeAfterX = rows (row (negsuc 0) (pos 0) (pos 0)) (row (pos 0) (pos 0) (negsuc 0)) (row (pos 0) (negsuc 0) (pos 0))
rotation_rows TwoDoublePrimeAfterX = rows (row (negsuc 0) (pos 0) (pos 0)) (row (pos 0) (pos 0) (pos 1)) (row (pos 0) (pos 1) (pos 0))
rotation_rows TwoPrimeAfterY = rows (row (pos 0) (pos 0) (negsuc 0)) (row (pos 0) (negsuc 0) (pos 0)) (row (negsuc 0) (pos 0) (pos 0))
rotation_rows TwoDoublePrimeAfterY = rows (row (pos 0) (pos 0) (pos 1)) (row (pos 0) (negsuc 0) (pos 0)) (row (pos 1) (pos 0) (pos 0))
rotation_rows ThreeStar = rows (row (pos 0) (pos 0) (pos 1)) (row (pos 1) (pos 0) (pos 0)) (row (pos 0) (pos 1) (pos 0))

-- the axis of the cell that the rotation is about
abbrev pub axis_of : Rotation → Option CellAxis
axis_of TwoX = Some X
axis_of FourX = Some X
axis_of TwoY = Some Y
axis_of FourY = Some Y
axis_of TwoZ = Some Z
axis_of ThreeZ = Some Z
axis_of FourZ = Some Z
axis_of SixZ = Some Z
axis_of _ = None

-- the order of the rotation
abbrev pub order_of : Rotation → Order
order_of One = order.One
order_of TwoZ = order.Two
order_of ThreeZ = order.Three
order_of FourZ = order.Four
order_of SixZ = order.Six
order_of TwoX = order.Two
order_of TwoY = order.Two
order_of FourX = order.Four
order_of FourY = order.Four
order_of TwoPrimeAfterZ = order.Two
order_of TwoDoublePrimeAfterZ = order.Two
order_of TwoPrimeAfterX = order.Two
order_of TwoDoublePrimeAfterX = order.Two
order_of TwoPrimeAfterY = order.Two
order_of TwoDoublePrimeAfterY = order.Two
order_of ThreeStar = order.Three
