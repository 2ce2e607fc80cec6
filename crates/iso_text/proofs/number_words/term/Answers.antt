use Rattle.std.proofs.Common.{◌≡◌, rules}
use Rattle.iso_text.specs.Numbers.{term_of}
use Rattle.iso_text.specs.SumSpellings.{SpellsTerm}
use Rattle.iso_text.proofs.FractionSpellings.{two_way}
use Rattle.iso_text.proofs.TermSpellings.{term-sound, term-complete}
use Rattle.iso_text.proofs.number_words.term.Goals as goal

pub returns-clause-spelled : goal.returns-clause-spelled
returns-clause-spelled c =
    let negative = c.args.negative in
    let text = c.args.text.now in
    let is : c.product.result ≡ term_of negative text = search rules in
    two_way c.product.result (term_of negative text) (λ t. SpellsTerm negative text t) is (λ t read. term-sound negative text t read) (λ t spelled. term-complete negative text t spelled)
