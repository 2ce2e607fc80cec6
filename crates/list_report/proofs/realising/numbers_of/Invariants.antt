use Rattle.std.proofs.Common.{◌≡◌, map, take}
use Rattle.cyclo24.specs.Terms.{terms_value}
use Rattle.cyclo24.specs.Z24.{exact_z24}
use Rattle.list_report.proofs.realising.numbers_of.Given as goal

abbrev pub invariant-loop-text : goal.invariant-loop-text
invariant-loop-text l = map exact_z24 l.numbers.items ≡ map terms_value (take l.text-index l.texts)
