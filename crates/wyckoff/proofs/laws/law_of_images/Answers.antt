use Rattle.wyckoff.specs.OrbitLaws.{images-act, some-place, images-reach, translations-few, places-inside}
use Rattle.space_ops.specs.Op.{vector_of}
use Rattle.wyckoff.proofs.laws.law_of_images.Goals as goal

pub returns-clause-action : goal.returns-clause-action
returns-clause-action c s atom o h w = images-act s h atom o w

pub returns-clause-some : goal.returns-clause-some
returns-clause-some c s atom o h w = some-place s h (vector_of atom.place) o.places w.places

pub returns-clause-transitive : goal.returns-clause-transitive
returns-clause-transitive c s atom o h w i l = images-reach s h atom o w i l

pub returns-clause-translations : goal.returns-clause-translations
returns-clause-translations c s atom o h w = translations-few s h atom o w

pub returns-clause-inside : goal.returns-clause-inside
returns-clause-inside c s atom o h w i l = places-inside s h (vector_of atom.place) o.places w.places i l
