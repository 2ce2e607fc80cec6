use Rattle.list_report.proofs.ChoiceLemmas.{choice-single}
use Rattle.list_report.proofs.ListUniqueLemmas.{listed-one, closing-single, form-single, formed-twins}
use Rattle.list_report.proofs.laws.law_of_listing_steps.Goals as goal

pub returns-clause-choice : goal.returns-clause-choice
returns-clause-choice c = choice-single

pub returns-clause-form : goal.returns-clause-form
returns-clause-form c = form-single c.law_of_irreps.ensures.induced

pub returns-clause-twins : goal.returns-clause-twins
returns-clause-twins c = formed-twins c.law_of_irreps.ensures.induced

pub returns-clause-subspaces : goal.returns-clause-subspaces
returns-clause-subspaces c = closing-single

pub returns-clause-directions : goal.returns-clause-directions
returns-clause-directions c = listed-one c.law_of_listings.ensures
