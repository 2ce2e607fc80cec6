-- How many numbers the atoms of an orbit have.
use Rattle.std.proofs.Common.{◌≡◌, refl, ap, ◌∙◌, ℕ, ◌*◌, List, length, map, option_map, Some, slice_get}
use Rattle.std.proofs.lemmas.Option.{slice_get-map}
use Rattle.super_group.specs.Quotient.{SupercellGroup}
use Rattle.wyckoff.specs.Orbit.{OrbitView}
use Rattle.mode_project.specs.AtomSpace.{size_of}
use Rattle.extra_modes.specs.declared.nature.Nature.{Nature}
use Rattle.extra_modes.specs.declared.nature.Nature.TheVariants.{Occupation, Axial}
use Rattle.extra_modes.specs.Amounts.{labelled}
use Rattle.extra_modes.specs.ExtraSpace.{extra_space}
use Rattle.mode_report.specs.ModesReport.{each_of}
use Rattle.extra_report.specs.ExtraReport.{entries_of}

pub sized : (nature : Nature) (q : SupercellGroup) (o : OrbitView) → size_of (extra_space nature q o) ≡ length o.places * each_of (entries_of nature)
sized Occupation q o = refl
sized Axial q o = refl

-- an orbit as lines name its atoms
pub labelled_at : (orbits : List OrbitView) (n : ℕ) (o : OrbitView) → slice_get orbits n ≡ Some o → slice_get (map labelled orbits) n ≡ Some (labelled o)
labelled_at orbits n o s = slice_get-map labelled orbits n ∙ ap (option_map labelled) s
