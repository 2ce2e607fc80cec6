-- Laws of the rotations that parts name.
--
-- order_of-rotation_of: the rotation of a part with N has the order N
-- axis_of-named_rotation: the rotation of a part with the axis x, y or z is about this axis
use Rattle.std.specs.Prelude.{◌≡◌, List, [], ◌∷◌, Option, Some, None, IfSome, refl}
use Rattle.hall_symbol.specs.declared.rotation.Axis.{Axis}
use Rattle.hall_symbol.specs.declared.rotation.Axis.TheVariants.{Along, Prime, DoublePrime, Star}
use Rattle.hall_symbol.specs.declared.rotation.CellAxis.{CellAxis}
use Rattle.hall_symbol.specs.declared.rotation.CellAxis.TheVariants.{X, Y, Z}
use Rattle.hall_symbol.specs.declared.rotation.Order.{Order}
use Rattle.hall_symbol.specs.declared.rotation.Order.TheVariants as order
use Rattle.hall_symbol.specs.declared.generator.Generator.{Generator}
use Rattle.hall_symbol.specs.Generators.{second_rotation, default_rotation, named_rotation, rotation_of, last_axis}
use Rattle.hall_symbol.specs.Rotations.{axis_of, order_of}

order_of-second_rotation : (n : Order) → IfSome (second_rotation n) (λ r. order_of r ≡ order.Two)
order_of-second_rotation order.One = tt
order_of-second_rotation order.Two = refl
order_of-second_rotation order.Three = refl
order_of-second_rotation order.Four = refl
order_of-second_rotation order.Six = refl

order_of-default_rotation : (before : List Generator) (n : Order) → IfSome (default_rotation before n) (λ r. order_of r ≡ n)
order_of-default_rotation [] order.One = refl
order_of-default_rotation [] order.Two = refl
order_of-default_rotation [] order.Three = refl
order_of-default_rotation [] order.Four = refl
order_of-default_rotation [] order.Six = refl
order_of-default_rotation (g ∷ []) order.One = refl
order_of-default_rotation (g ∷ []) order.Two = order_of-second_rotation (order_of g.rotation)
order_of-default_rotation (g ∷ []) order.Three = tt
order_of-default_rotation (g ∷ []) order.Four = tt
order_of-default_rotation (g ∷ []) order.Six = tt
order_of-default_rotation (g ∷ h ∷ []) order.One = refl
order_of-default_rotation (g ∷ h ∷ []) order.Two = tt
order_of-default_rotation (g ∷ h ∷ []) order.Three = refl
order_of-default_rotation (g ∷ h ∷ []) order.Four = tt
order_of-default_rotation (g ∷ h ∷ []) order.Six = tt
order_of-default_rotation (g ∷ h ∷ k ∷ gs) order.One = refl
order_of-default_rotation (g ∷ h ∷ k ∷ gs) order.Two = tt
order_of-default_rotation (g ∷ h ∷ k ∷ gs) order.Three = tt
order_of-default_rotation (g ∷ h ∷ k ∷ gs) order.Four = tt
order_of-default_rotation (g ∷ h ∷ k ∷ gs) order.Six = tt

order_of-named_rotation : (last : Option CellAxis) (a : Axis) (n : Order) → IfSome (named_rotation last a n) (λ r. order_of r ≡ n)
order_of-named_rotation last (Along X) order.One = tt
order_of-named_rotation last (Along X) order.Two = refl
order_of-named_rotation last (Along X) order.Three = tt
order_of-named_rotation last (Along X) order.Four = refl
order_of-named_rotation last (Along X) order.Six = tt
order_of-named_rotation last (Along Y) order.One = tt
order_of-named_rotation last (Along Y) order.Two = refl
order_of-named_rotation last (Along Y) order.Three = tt
order_of-named_rotation last (Along Y) order.Four = refl
order_of-named_rotation last (Along Y) order.Six = tt
order_of-named_rotation last (Along Z) order.One = tt
order_of-named_rotation last (Along Z) order.Two = refl
order_of-named_rotation last (Along Z) order.Three = refl
order_of-named_rotation last (Along Z) order.Four = refl
order_of-named_rotation last (Along Z) order.Six = refl
order_of-named_rotation last Prime order.One = tt
order_of-named_rotation None Prime order.Two = tt
order_of-named_rotation (Some X) Prime order.Two = refl
order_of-named_rotation (Some Y) Prime order.Two = refl
order_of-named_rotation (Some Z) Prime order.Two = refl
order_of-named_rotation last Prime order.Three = tt
order_of-named_rotation last Prime order.Four = tt
order_of-named_rotation last Prime order.Six = tt
order_of-named_rotation last DoublePrime order.One = tt
order_of-named_rotation None DoublePrime order.Two = tt
order_of-named_rotation (Some X) DoublePrime order.Two = refl
order_of-named_rotation (Some Y) DoublePrime order.Two = refl
order_of-named_rotation (Some Z) DoublePrime order.Two = refl
order_of-named_rotation last DoublePrime order.Three = tt
order_of-named_rotation last DoublePrime order.Four = tt
order_of-named_rotation last DoublePrime order.Six = tt
order_of-named_rotation last Star order.One = tt
order_of-named_rotation last Star order.Two = tt
order_of-named_rotation last Star order.Three = refl
order_of-named_rotation last Star order.Four = tt
order_of-named_rotation last Star order.Six = tt

pub order_of-rotation_of : (before : List Generator) (n : Order) (a : Option Axis) → IfSome (rotation_of before n a) (λ r. order_of r ≡ n)
order_of-rotation_of before n None = order_of-default_rotation before n
order_of-rotation_of before n (Some a) = order_of-named_rotation (last_axis before) a n

pub axis_of-named_rotation : (last : Option CellAxis) (e : CellAxis) (n : Order) → IfSome (named_rotation last (Along e) n) (λ r. axis_of r ≡ Some e)
axis_of-named_rotation last X order.One = tt
axis_of-named_rotation last X order.Two = refl
axis_of-named_rotation last X order.Three = tt
axis_of-named_rotation last X order.Four = refl
axis_of-named_rotation last X order.Six = tt
axis_of-named_rotation last Y order.One = tt
axis_of-named_rotation last Y order.Two = refl
axis_of-named_rotation last Y order.Three = tt
axis_of-named_rotation last Y order.Four = refl
axis_of-named_rotation last Y order.Six = tt
axis_of-named_rotation last Z order.One = tt
axis_of-named_rotation last Z order.Two = refl
axis_of-named_rotation last Z order.Three = refl
axis_of-named_rotation last Z order.Four = refl
axis_of-named_rotation last Z order.Six = refl
