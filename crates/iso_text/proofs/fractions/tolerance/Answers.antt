use Rattle.iso_text.specs.Fractions.{tolerance_of}
use Rattle.iso_text.specs.Spellings.{SpellsTolerance}
use Rattle.iso_text.proofs.FractionSpellings.{two_way}
use Rattle.iso_text.proofs.SignSpellings.{tolerance-sound, tolerance-complete}
use Rattle.iso_text.proofs.fractions.tolerance.Goals as goal

pub returns-clause-spelled : goal.returns-clause-spelled
returns-clause-spelled c = two_way c.parse_tolerance.result (tolerance_of c.args.text.now) (λ v. SpellsTolerance c.args.text.now v) c.parse_tolerance.ensures (λ v read. tolerance-sound c.args.text.now v read) (λ v spelled. tolerance-complete c.args.text.now v spelled)
