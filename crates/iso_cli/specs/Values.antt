-- What the options of a command line give, read.
--
-- text_in text: the text behind a reference, where there is one
-- IsValues given values: the values of the texts that were given
use Rattle.std.specs.Prelude.{◌≡◌, Option, codes}
use Rattle.std.specs.Option.{option_map}
use Rattle.std.specs.Borrow.{Bor}
use Rattle.iso_cli.specs.Options.{Text}
use Rattle.iso_cli.specs.Commands.{Texts, is_tallied, number_of}
use Rattle.iso_cli.specs.declared.values.Values.{Values}

abbrev pub text_in : Option (Bor Text) → Option Text
text_in = option_map (λ s. s.now)

pub record IsValues (given : Texts) (values : Values) : Type 0 where
  pub irrep : values.irrep ≡ given (codes "irrep")
  pub direction : values.direction ≡ number_of given (codes "direction")
  pub after : values.after ≡ number_of given (codes "after")
  pub count : values.count ≡ number_of given (codes "count")
  pub number : values.number ≡ number_of given (codes "number")
  pub tally : values.tally ≡ is_tallied given
  pub other : values.other ≡ given (codes "with")
