use Rattle.iso_text.specs.Fractions.{k_fraction_of}
use Rattle.iso_text.specs.Spellings.{SpellsKFraction}
use Rattle.iso_text.proofs.FractionSpellings.{k_fraction-sound, k_fraction-complete, two_way}
use Rattle.iso_text.proofs.fractions.k_fraction.Goals as goal

pub returns-clause-spelled : goal.returns-clause-spelled
returns-clause-spelled c = two_way c.parse_k_fraction.result (k_fraction_of c.args.text.now) (λ v. SpellsKFraction c.args.text.now v) c.parse_k_fraction.ensures (λ v read. k_fraction-sound c.args.text.now v read) (λ v spelled. k_fraction-complete c.args.text.now v spelled)
