use Rattle.lin_alg.proofs.solving.solve.Given as goal

abbrev pub ghosts-joined_form : goal.ghosts-joined_form
ghosts-joined_form g a = record { name = a.blank.name; parts = a.blank.parts }
