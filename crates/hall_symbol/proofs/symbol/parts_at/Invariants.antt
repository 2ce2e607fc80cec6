use Rattle.std.proofs.Common.{◌≡◌, ◌≤◌, [], length}
use Rattle.hall_symbol.specs.SymbolReading.{parts_at}
use Rattle.hall_symbol.specs.WordReading.{words}
use Rattle.hall_symbol.proofs.symbol.parts_at.Given as goal

abbrev pub invariant-parts : goal.invariant-parts
invariant-parts l = (parts_at l.generators.items (words l.rest) ≡ parts_at [] (words l.fn.text))
    × (length l.rest ≤ 80)
    × (length l.generators.items ≤ 4)

abbrev pub decreases-parts : goal.decreases-parts
decreases-parts l = length l.rest
