use Rattle.induce.proofs.WeightLemmas.{weights_more, known_more, wide_weight}
use Rattle.induce.proofs.weights.with_weight.Goals as goal

pub returns-in-Ok-clause-weights : goal.returns-in-Ok-clause-weights
returns-in-Ok-clause-weights c =
    weights_more c.args.characters.now c.args.held.weights.items c.push.new.self.items c.in-Some.weight c.index-characters-d.result c.index-characters-d.result c.args.d c.in-Ok.ensures.items c.requires.held c.requires.place
    c.index-characters-d.is c.in-Some.ensures

pub returns-in-Err-weight_of_character-clause-wide : goal.returns-in-Err-weight_of_character-clause-wide
returns-in-Err-weight_of_character-clause-wide c e =
    wide_weight c.args.characters.now c.args.d c.index-characters-d-2.result c.index-characters-d-2.result c.requires.place c.index-characters-d-2.is c.in-Err-weight_of_character.ensures.wide

pub returns-in-Ok-push-2-clause-weights : goal.returns-in-Ok-push-2-clause-weights
returns-in-Ok-push-2-clause-weights c =
    weights_more c.args.characters.now c.args.held.weights.items c.push-3.new.self.items c.in-Ok-weight_of_character.weight c.index-characters-d-2.result c.index-characters-d-2.result c.args.d c.in-Ok-push-2.ensures.items c.requires.held
    c.requires.place c.index-characters-d-2.is c.in-Ok-weight_of_character.ensures.exact

pub returns-in-Ok-push-2-clause-known : goal.returns-in-Ok-push-2-clause-known
returns-in-Ok-push-2-clause-known c =
    known_more c.args.held.known.items c.push-2.new.self.items (record { character = c.index-characters-d-2.result; weight = c.in-Ok-weight_of_character.weight }) c.in-Ok-push.ensures.items c.requires.known
    c.in-Ok-weight_of_character.ensures.exact
