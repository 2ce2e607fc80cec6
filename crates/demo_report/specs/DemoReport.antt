-- The report of `demo`.
--
-- orders_of ds: the orders of the stabilisers of directions
-- title_line format number, size_line order dim, count_line count, orders_line orders: the lines in front of the orbits
-- front_text format number order dim orders: these four
-- orbit_line (number, told), orbit_lines told: those of the orbits
-- summary_text format number order dim orders told: the whole report
use Rattle.std.specs.Prelude.{ℕ, List, [], ◌++◌, length, map, flat_map, codes, decimal}
use Rattle.std.specs.List.{enumerate_from}
use Rattle.cyclo24.specs.ExactK24.{Exact24}
use Rattle.class_list.specs.Directions.{Direction}
use Rattle.iso_text.specs.Lines.{line}
use Rattle.mode_report.specs.Told.{OrbitModes}

abbrev pub orders_of : List (Direction Exact24) → List ℕ
orders_of ds = map (λ (d : Direction Exact24). length d.stabiliser) ds

-- `isodist FORMAT demo NUMBER`
abbrev pub title_line : ℕ → ℕ → List ℕ
title_line format number = line (codes "isodist " ++ decimal format ++ codes " demo " ++ decimal number) []

-- `order O dim D`: of the quotient and of the real form
abbrev pub size_line : ℕ → ℕ → List ℕ
size_line order dim = line (codes "order " ++ decimal order ++ codes " dim " ++ decimal dim) []

abbrev pub order_word : ℕ → List ℕ
order_word order = codes " " ++ decimal order

-- `directions T`
abbrev pub count_line : ℕ → List ℕ
count_line count = line (codes "directions " ++ decimal count) []

-- `orders` and the orders of their stabilisers
abbrev pub orders_line : List ℕ → List ℕ
orders_line orders = line (codes "orders" ++ flat_map order_word orders) []

abbrev pub front_text : ℕ → ℕ → ℕ → ℕ → List ℕ → List ℕ
front_text format number order dim orders = title_line format number ++ size_line order dim ++ count_line (length orders) ++ orders_line orders

-- `orbit NUMBER LABEL atoms N` and its counts
abbrev pub orbit_line : ℕ × OrbitModes → List ℕ
orbit_line o = line (codes "orbit " ++ decimal o.0 ++ codes " " ++ o.1.label ++ codes " atoms " ++ decimal (length o.1.places) ++ o.1.counts) []

abbrev pub orbit_lines : List OrbitModes → List ℕ
orbit_lines told = flat_map orbit_line (enumerate_from 1 told)

abbrev pub summary_text : ℕ → ℕ → ℕ → ℕ → List ℕ → List OrbitModes → List ℕ
summary_text format number order dim orders told = front_text format number order dim orders ++ orbit_lines told
