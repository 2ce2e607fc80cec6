-- Watchers as contracts see them, and what they are told.
--
-- Watcher: the mark of a watcher, how a notice changes a mark, which marks are enough, the text of a mark
-- after ns w: a watcher after these notices
-- Told ns old new: watchers before and after these notices
-- has_enough ws: whether the mark of one of them is enough
-- EndsAfter ns ws k: of the notices of a page, watchers are told the first k
-- watcher_lines ws: their lines
use Rattle.std.specs.Prelude.{◌≡◌, ◌⊎◌, ℕ, ℤ, ◌<◌, ◌≤◌, Bool, false, IsTrue, List, [], fold, length, map, take, flat_map}
use Rattle.std.specs.List.{list_any}
use Rattle.iso_text.specs.Lines.{line}
use Rattle.iso_watch.specs.declared.notice.Notice.{Notice}

-- a mark, how a notice changes a mark, which marks are enough, and the text of a mark
pub record Watcher : Type 0 where
  pub mark : List ℤ
  pub step : List ℤ → Notice → List ℤ
  pub stop : List ℤ → Bool
  pub words : List ℤ → List ℕ

-- a watcher after these notices: its mark has taken a step for each, in order
abbrev pub after : List Notice → Watcher → Watcher
after ns w = record { mark = fold w.step w.mark ns; step = w.step; stop = w.stop; words = w.words }

-- each of the watchers was told of these notices
abbrev pub Told : List Notice → List Watcher → List Watcher → Type 0
Told ns old new = new ≡ map (after ns) old

-- whether the mark of a watcher is enough
abbrev pub is_enough : Watcher → Bool
is_enough w = w.stop w.mark

-- whether the mark of one of them is enough
abbrev pub has_enough : List Watcher → Bool
has_enough ws = list_any is_enough ws

-- the page of these notices ends after k of them: the first after which a watcher has enough, or the last
pub record EndsAfter (ns : List Notice) (ws : List Watcher) (k : ℕ) : Type 0 where
  pub within : k ≤ length ns
  pub some : 0 < length ns → 0 < k
  pub not_before : (j : ℕ) → 0 < j → j < k → has_enough (map (after (take j ns)) ws) ≡ false
  pub ends : (k ≡ length ns) ⊎ IsTrue (has_enough (map (after (take k ns)) ws))

-- the text of the mark of a watcher
abbrev pub line_of : Watcher → List ℕ
line_of w = w.words w.mark

-- the lines of all of them, in order
abbrev pub watcher_lines : List Watcher → List ℕ
watcher_lines ws = flat_map (λ w. line (line_of w) []) ws
