use Rattle.couple.proofs.rank.rank_of.Given as goal

abbrev pub ghosts-rank_by : goal.ghosts-rank_by
ghosts-rank_by g a = record { name = a.blank.name; parts = a.blank.parts }
