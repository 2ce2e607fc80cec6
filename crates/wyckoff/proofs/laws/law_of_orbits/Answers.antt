use Rattle.wyckoff.specs.OrbitLaws.{orbit-listed, places-unique, images-unique, orbits-few}
use Rattle.wyckoff.proofs.laws.law_of_orbits.Goals as goal

pub returns-clause-listed : goal.returns-clause-listed
returns-clause-listed c s x y places h a = orbit-listed s h x places a y

pub returns-clause-places : goal.returns-clause-places
returns-clause-places c s x v w a b = places-unique s x v w a b

pub returns-clause-images : goal.returns-clause-images
returns-clause-images c s atom o u h a b q i l m = images-unique s atom o u h a b q i l m

pub returns-clause-few : goal.returns-clause-few
returns-clause-few c s atoms orbits are accepted n o e = orbits-few s atoms orbits are accepted n o e
