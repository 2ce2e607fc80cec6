-- Counts of directions by their dimension.
--
-- one_more n: the count after one more; one_more_at d counts: one more at a place
-- tally_step: one more at the dimension of the notice
-- tally_words: the counts above 0, each behind its dimension
-- tally_of counts: a tally as a watcher
use Rattle.std.specs.Prelude.{ℕ, ◌+◌, min, ℤ, pos, zero, suc, List, [], ◌∷◌, ◌++◌, false, codes, decimal, flat_map, if◌then◌else◌, nat_lt, map, unsigned_abs}
use Rattle.std.specs.List.{enumerate_from}
use Rattle.iso_text.specs.Counts.{last_count}
use Rattle.iso_watch.specs.declared.notice.Notice.{Notice}
use Rattle.iso_watch.specs.Watchers.{Watcher}

-- one more; the greatest count of 64 bits stays
abbrev pub one_more : ℤ → ℤ
one_more n = pos (min (unsigned_abs n + 1) last_count)

-- one more at place d, where there is one
abbrev pub one_more_at : ℕ → List ℤ → List ℤ
one_more_at d [] = []
one_more_at zero (n ∷ ns) = one_more n ∷ ns
one_more_at (suc d) (n ∷ ns) = n ∷ one_more_at d ns

-- one more at the dimension of the notice
abbrev pub tally_step : List ℤ → Notice → List ℤ
tally_step counts notice = one_more_at notice.dim counts

-- a dimension with its count, where that is above 0
abbrev pub count_words : ℕ × ℤ → List ℕ
count_words c = if nat_lt 0 (unsigned_abs c.1) then codes " " ++ decimal c.0 ++ codes ":" ++ decimal (unsigned_abs c.1) else []

-- `tally`, and each dimension with its count, rising
abbrev pub tally_words : List ℤ → List ℕ
tally_words counts = codes "tally" ++ flat_map count_words (enumerate_from 0 counts)

-- a tally as a watcher: its mark are the counts, and no mark is enough
abbrev pub tally_of : List ℕ → Watcher
tally_of counts = record { mark = map (λ n. pos n) counts; step = tally_step; stop = λ m. false; words = tally_words }
