-- Steps that may fail, one after the other.
--
-- o >>= f: the second step, where the first gave a value
use Rattle.std.specs.Prelude.{Option, option_and_then}

-- a step that may fail, and then another
infixl 10 ◌>>=◌
abbrev pub ◌>>=◌ : {A B : Type 0} → Option A → (A → Option B) → Option B
o >>= f = option_and_then f o
