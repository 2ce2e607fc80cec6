-- Streams in memory, as contracts see them.
--
-- Calls: the numbers of the calls that are to fail, the calls so far, and how many failed
-- CalmReading, MemReading: a source without and with failing calls; MemWriting: a sink
-- given s n: how many bytes a read of n bytes gives; accepted s n: how many of n bytes a write takes
use Rattle.std.specs.Prelude.{ℕ, ◌+◌, ◌-◌, ◌==◌, ◌&&◌, ◌||◌, not, Bool, List, length, min}
use Rattle.std.specs.List.{list_any}
use Rattle.iso_text.specs.Counts.{last_count}

-- the calls that are to fail, from 1, the number of the last call, and the count of failed calls
pub record Calls : Type 0 where
  pub fail : List ℕ
  pub call : ℕ
  pub faults : ℕ

-- the number of the next call, which stays at the last value
abbrev pub next_call : Calls → ℕ
next_call c = min (c.call + 1) last_count

-- whether the next call is to fail
abbrev pub next_fails : Calls → Bool
next_fails c = list_any (λ n. n == next_call c) c.fail

-- after a call that did its work
abbrev pub after_call : Calls → Calls
after_call c = record { fail = c.fail; call = next_call c; faults = c.faults }

-- after a call that failed
abbrev pub after_fault : Calls → Calls
after_fault c = record { fail = c.fail; call = next_call c; faults = min (c.faults + 1) last_count }

-- a source that never fails: what is left, the most bytes of a call, and the bytes given
pub record CalmReading : Type 0 where
  pub left : List ℕ
  pub piece : ℕ
  pub taken : ℕ

-- how many bytes a read into a buffer of n bytes gives
abbrev pub given : CalmReading → ℕ → ℕ
given s n = min (min s.piece n) (length s.left)

-- a source with its calls
pub record MemReading : Type 0 where
  pub source : CalmReading
  pub calls : Calls

-- a sink: what was written, the most bytes that it holds, the most bytes of a call, and its calls
pub record MemWriting : Type 0 where
  pub written : List ℕ
  pub room : ℕ
  pub piece : ℕ
  pub calls : Calls

-- how many of n bytes a write takes
abbrev pub accepted : MemWriting → ℕ → ℕ
accepted s n = min (min s.piece n) (s.room - length s.written)

-- whether a write of n bytes fails: it is to fail, or n isn't 0 and the room is full
abbrev pub write_fails : MemWriting → ℕ → Bool
write_fails s n = next_fails s.calls || ((s.room - length s.written) == 0 && not (n == 0))
