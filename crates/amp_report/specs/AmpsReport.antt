-- The report of `amps`.
--
-- OrbitAmplitudes: the label of an orbit, and the amplitude of each of its modes with the name of its irrep or `site`
-- zeros_in amplitudes: how many of them are 0
-- orbit_text (number, told): the lines of an orbit
-- amps_text format told: the whole report
use Rattle.std.specs.Prelude.{ℕ, if◌then◌else◌, List, [], ◌++◌, length, count_by, flat_map, codes, decimal}
use Rattle.std.specs.List.{enumerate_from}
use Rattle.cyclo24.specs.ExactK24.{Exact24, k24_laws}
use Rattle.cyclo24.specs.TextK24.{text24}
use Rattle.iso_text.specs.Lines.{line}

pub record OrbitAmplitudes : Type 0 where
  pub label : List ℕ
  pub amplitudes : List (List ℕ × Exact24)

abbrev pub zeros_in : List (List ℕ × Exact24) → ℕ
zeros_in amplitudes = count_by (λ a. k24_laws.is_nought a.1) amplitudes

-- `amplitude NUMBER NAME A`, nothing for 0
abbrev pub amplitude_line : ℕ × (List ℕ × Exact24) → List ℕ
amplitude_line a =
    if k24_laws.is_nought a.1.1 then [] else line (codes "amplitude " ++ decimal a.0 ++ codes " " ++ a.1.0 ++ codes " " ++ text24 a.1.1) []

-- `orbit NUMBER LABEL modes M`, the amplitudes and `zero Z`
abbrev pub orbit_text : ℕ × OrbitAmplitudes → List ℕ
orbit_text o =
    line (codes "orbit " ++ decimal o.0 ++ codes " " ++ o.1.label ++ codes " modes " ++ decimal (length o.1.amplitudes)) []
    ++ flat_map amplitude_line (enumerate_from 1 o.1.amplitudes) ++ line (codes "zero " ++ decimal (zeros_in o.1.amplitudes)) []

-- the first line
abbrev pub head_text : ℕ → List ℕ
head_text format = line (codes "isodist " ++ decimal format ++ codes " amps") []

abbrev pub amps_text : ℕ → List OrbitAmplitudes → List ℕ
amps_text format told = head_text format ++ flat_map orbit_text (enumerate_from 1 told)
