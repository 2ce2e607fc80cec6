-- What a read takes of a source, and what a write adds to a sink. A stream that doesn't tell its
-- bytes has None.
--
-- Reads n buf left rest: the first n bytes of the buffer are the first n of what was left
-- GrownBy bytes old new, GrownByPrefix bytes old new: what was written has grown by these bytes
-- IsRestOf old new: what is left is an end of what was left
-- IsAtEnd left: nothing is left
use Rattle.std.specs.Prelude.{◌≡◌, ℕ, ◌≤◌, List, [], ◌++◌, Option, Some, IfSome, length, take, drop}

-- the first n bytes of the buffer are the first n bytes that were left, and they are gone
pub record Reads (n : ℕ) (buf left : List ℕ) (rest : Option (List ℕ)) : Type 0 where
  pub few : n ≤ length left
  pub bytes : take n buf ≡ take n left
  pub others : rest ≡ Some (drop n left)

-- what was written has grown by these bytes, where the sink tells it
abbrev pub GrownBy : List ℕ → Option (List ℕ) → Option (List ℕ) → Type 0
GrownBy bytes old new = IfSome old (λ held. new ≡ Some (held ++ bytes))

-- what was written has grown by a prefix of these bytes, where the sink tells it
abbrev pub GrownByPrefix : List ℕ → Option (List ℕ) → Option (List ℕ) → Type 0
GrownByPrefix bytes old new = IfSome old (λ held. (n : ℕ) × (new ≡ Some (held ++ take n bytes)))

-- what is left is an end of what was left, where the source tells it
abbrev pub IsRestOf : Option (List ℕ) → Option (List ℕ) → Type 0
IsRestOf old new = IfSome old (λ left. (n : ℕ) × (new ≡ Some (drop n left)))

-- nothing is left, where the source tells it
abbrev pub IsAtEnd : Option (List ℕ) → Type 0
IsAtEnd left = IfSome left (λ bytes. bytes ≡ [])
