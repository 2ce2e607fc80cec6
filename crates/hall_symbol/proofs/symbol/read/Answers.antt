use Rattle.std.proofs.Common.{◌≡◌, ap, ◌∙◌, sym, Some, None, option_map}
use Rattle.hall_symbol.proofs.FitLemmas.{AreGenerators-IsHallSymbol}
use Rattle.hall_symbol.proofs.SymbolGrammar.{symbol_of-sound, symbol_of-IsHallSymbol, IsHallSymbol-unique}
use Rattle.hall_symbol.proofs.symbol.read.Goals as goal

pub returns-in-Some-clause-ok : goal.returns-in-Some-clause-ok
returns-in-Some-clause-ok c =
    symbol_of-sound c.args.text.now c.in-Some.generators.lattice c.in-Some.generators.ops.items (sym c.symbol_of.ensures ∙ ap (option_map (λ g. (g.lattice, g.ops.items))) c.in-Some.is)

pub returns-in-Some-clause-only : goal.returns-in-Some-clause-only
returns-in-Some-clause-only c = λ lattice ops h. IsHallSymbol-unique c.args.text.now c.in-Some.generators.lattice lattice c.in-Some.generators.ops.items ops (returns-in-Some-clause-ok c) h

pub returns-in-Some-clause-fit : goal.returns-in-Some-clause-fit
returns-in-Some-clause-fit c =
    AreGenerators-IsHallSymbol c.args.text.now c.in-Some.generators.lattice c.in-Some.generators.ops.items (returns-in-Some-clause-ok c)

pub returns-in-None-clause-bad : goal.returns-in-None-clause-bad
returns-in-None-clause-bad c = λ lattice ops h.
    let read = symbol_of-IsHallSymbol c.args.text.now lattice ops h in
    let none : Some (lattice, ops) ≡ None = sym read ∙ sym c.symbol_of.ensures ∙ ap (option_map (λ g. (g.lattice, g.ops.items))) c.in-None.is in
    cc none
