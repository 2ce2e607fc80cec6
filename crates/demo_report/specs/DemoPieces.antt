-- The pieces of the report of `demo`.
--
-- front_of x: the lines in front of the orbits
-- orbit_pieces x: the line of each orbit
-- demo_pieces x: the lines in front of the orbits, and the line of each orbit
use Rattle.std.specs.Prelude.{List, ℕ, ◌∷◌, map}
use Rattle.std.specs.List.{enumerate_from}
use Rattle.cyclo24.specs.ExactK24.{k24_laws}
use Rattle.cyclo24.specs.K24.{exact24}
use Rattle.class_list.specs.Seen.{directions_of}
use Rattle.super_group.specs.Quotient.{order_of}
use Rattle.mode_report.specs.Held.{told_in}
use Rattle.demo_report.specs.DemoReport.{orders_of, front_text, orbit_line}
use Rattle.demo_report.specs.declared.found.FoundDemo.{FoundDemo}

-- the lines in front of the orbits
abbrev pub front_of : FoundDemo → List ℕ
front_of x =
    let d = x.file.divided in
    front_text d.file.format x.number (order_of d.quotient) x.dim (orders_of (directions_of k24_laws exact24 x.listing))

-- the line of each orbit
abbrev pub orbit_pieces : FoundDemo → List (List ℕ)
orbit_pieces x = map orbit_line (enumerate_from 1 (told_in x.file.divided.file.irreps x.modes.orbits x.modes.modes.items))

-- the lines in front of the orbits, and the line of each orbit
abbrev pub demo_pieces : FoundDemo → List (List ℕ)
demo_pieces x = front_of x ∷ orbit_pieces x
