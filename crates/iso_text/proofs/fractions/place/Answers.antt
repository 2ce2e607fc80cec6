use Rattle.iso_text.specs.Fractions.{place_of}
use Rattle.iso_text.specs.Spellings.{SpellsPlace}
use Rattle.iso_text.proofs.FractionSpellings.{two_way}
use Rattle.iso_text.proofs.SignSpellings.{place-sound, place-complete}
use Rattle.iso_text.proofs.fractions.place.Goals as goal

pub returns-clause-spelled : goal.returns-clause-spelled
returns-clause-spelled c = two_way c.parse_place.result (place_of c.args.text.now) (λ v. SpellsPlace c.args.text.now v) c.parse_place.ensures (λ v read. place-sound c.args.text.now v read) (λ v spelled. place-complete c.args.text.now v spelled)
