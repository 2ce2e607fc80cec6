use Rattle.space_ops.proofs.OpSpellings.{text_of-spelled}
use Rattle.space_ops.proofs.laws.law_of_texts.Goals as goal

pub returns : goal.returns
returns c = text_of-spelled
