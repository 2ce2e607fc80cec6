-- Counters of 64 bits that stay at their last value.
--
-- raised n count: the count after n more
-- HasRisen old new: a counter rose, or stands at its last value
use Rattle.std.specs.Prelude.{◌≡◌, ◌⊎◌, ℕ, ◌+◌, ◌<◌, min, max}

-- the last value of a counter
abbrev pub last_count : ℕ
last_count = 18446744073709551615

-- the count after n more, which stays at the last value
abbrev pub raised : ℕ → ℕ → ℕ
raised n count = max count (min (count + n) last_count)

-- the counter rose, or it stands at its last value
abbrev pub HasRisen : ℕ → ℕ → Type 0
HasRisen old new = (old < new) ⊎ (new ≡ last_count)
