use Rattle.iso_text.proofs.NumberSpellings.{number_by}
use Rattle.iso_text.proofs.number_words.number.Goals as goal

pub returns-clause-spelled : goal.returns-clause-spelled
returns-clause-spelled c = number_by c.parse_number.result c.args.text.now c.parse_number.ensures
