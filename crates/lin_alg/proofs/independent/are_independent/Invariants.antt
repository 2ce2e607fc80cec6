use Rattle.lin_alg.proofs.independent.are_independent.Given as goal

abbrev pub ghosts-are_new : goal.ghosts-are_new
ghosts-are_new g a = record { name = a.blank.name; parts = a.blank.parts }
