use Rattle.demo_files.proofs.DemoTexts.{demo-one}
use Rattle.demo_files.proofs.LengthLemmas.{short-demo}
use Rattle.demo_files.proofs.laws.law_of_demo_files.Goals as goal

pub returns-clause-one : goal.returns-clause-one
returns-clause-one c = demo-one c.law_of_symbols.ensures c.law_of_lists.ensures

pub returns-clause-short : goal.returns-clause-short
returns-clause-short c = short-demo
