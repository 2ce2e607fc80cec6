-- Exact values are a set.
--
-- value-set: exact values are equal in at most one way
use denote.Struct.Props.{props}
use Rattle.cyclo24.specs.ExactField.{ExactField, Value}

pub value-set : (f : ExactField) → IsSet (Value f)
value-set f = hlevel props
