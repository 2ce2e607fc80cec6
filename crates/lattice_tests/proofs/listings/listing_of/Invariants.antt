use Rattle.lattice_tests.proofs.listings.listing_of.Given as goal

abbrev pub ghosts-listing_by : goal.ghosts-listing_by
ghosts-listing_by g a = record { name = a.blank.name; parts = a.blank.parts }
