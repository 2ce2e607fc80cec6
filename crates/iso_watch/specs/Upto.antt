-- Counts of directions up to a limit.
--
-- upto_step: one more to the first number, the count
-- upto_stop: the count is at least the limit, the second number
-- upto_words: the count and the limit
-- UptoView: a count and its limit; upto_of u: the same as a watcher
use Rattle.std.specs.Prelude.{ℕ, ℤ, pos, List, [], ◌∷◌, ◌++◌, Bool, false, nat_le, codes, decimal, unsigned_abs}
use Rattle.iso_watch.specs.declared.notice.Notice.{Notice}
use Rattle.iso_watch.specs.Watchers.{Watcher}
use Rattle.iso_watch.specs.Tally.{one_more_at}

-- how many directions were told, and from which count on that is enough
pub record UptoView : Type 0 where
  pub count : ℕ
  pub limit : ℕ

-- one more to the count
abbrev pub upto_step : List ℤ → Notice → List ℤ
upto_step mark notice = one_more_at 0 mark

-- the count is at least the limit
abbrev pub upto_stop : List ℤ → Bool
upto_stop (count ∷ limit ∷ []) = nat_le (unsigned_abs limit) (unsigned_abs count)
upto_stop mark = false

-- the count and the limit
abbrev pub upto_words : List ℤ → List ℕ
upto_words (count ∷ limit ∷ []) = codes "upto " ++ decimal (unsigned_abs count) ++ codes " of " ++ decimal (unsigned_abs limit)
upto_words mark = []

-- a count up to a limit as a watcher: its mark are the two
abbrev pub upto_of : UptoView → Watcher
upto_of u = record { mark = pos u.count ∷ pos u.limit ∷ []; step = upto_step; stop = upto_stop; words = upto_words }
