-- What a buffer passes on to a sink.
--
-- IsPassedOn bytes kept old new: of these bytes the sink has grown by the front, and the rest is kept
use Rattle.std.specs.Prelude.{◌≡◌, ℕ, List, ◌++◌, Option}
use Rattle.iso_text.specs.Streams.{GrownBy}

-- what the sink has grown by, where it tells that, and what is kept are these bytes together
abbrev pub IsPassedOn : List ℕ → List ℕ → Option (List ℕ) → Option (List ℕ) → Type 0
IsPassedOn bytes kept old new = (grown : List ℕ) × GrownBy grown old new × (grown ++ kept ≡ bytes)
