use Rattle.hall_symbol.proofs.SymbolGrammar.{IsHallSymbol-unique}
use Rattle.hall_symbol.proofs.laws.law_of_symbols.Goals as goal

pub returns : goal.returns
returns c = IsHallSymbol-unique
