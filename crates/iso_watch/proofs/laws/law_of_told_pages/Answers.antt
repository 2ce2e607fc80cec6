use Rattle.iso_watch.proofs.ToldLemmas.{ends-once, told-turn, told-none}
use Rattle.iso_watch.proofs.laws.law_of_told_pages.Goals as goal

pub returns-clause-once : goal.returns-clause-once
returns-clause-once c = ends-once

pub returns-clause-turn : goal.returns-clause-turn
returns-clause-turn c = told-turn

pub returns-clause-none : goal.returns-clause-none
returns-clause-none c = told-none
