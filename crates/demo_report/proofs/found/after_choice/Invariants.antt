use Rattle.demo_report.proofs.found.after_choice.Given as goal

abbrev pub ghosts-after_form : goal.ghosts-after_form
ghosts-after_form a = record { name = a.blank.name; parts = a.blank.parts }
