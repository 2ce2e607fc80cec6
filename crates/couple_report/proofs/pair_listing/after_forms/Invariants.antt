use Rattle.couple_report.proofs.pair_listing.after_forms.Given as goal

abbrev pub ghosts-after_coupling : goal.ghosts-after_coupling
ghosts-after_coupling a = record { name = a.blank.name; parts = a.blank.parts }
