use Rattle.couple_report.proofs.CoupleLemmas.{one-group, acts-together, coupling-next, coupling-error}
use Rattle.couple_report.proofs.pair_listing.after_forms.Goals as goal

pub new-requires-clause-one : goal.new-requires-clause-one
new-requires-clause-one c = one-group c.args.together.quotient c.args.forms c.requires.held

pub after_coupling-requires-clause-held : goal.after_coupling-requires-clause-held
after_coupling-requires-clause-held c = acts-together c.args.together c.args.forms c.requires _ c.in-Ok.ensures.action c.in-Ok.ensures.few

pub returns-in-Ok : goal.returns-in-Ok
returns-in-Ok c = coupling-next c.args.together c.args.forms c.requires _ c.in-Ok.ensures.action c.in-Ok.ensures.few c.after_coupling.result c.after_coupling.ensures

pub returns-in-Err : goal.returns-in-Err
returns-in-Err c = coupling-error c.args.together c.args.forms c.requires c.in-Err.error c.refusal_of.result c.refusal_of.ensures c.in-Err.ensures.many
