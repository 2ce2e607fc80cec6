use Rattle.space_ops.specs.MemberLaws.{member-listed, members-closed}
use Rattle.space_ops.proofs.laws.law_of_members.Goals as goal

pub returns-clause-listed : goal.returns-clause-listed
returns-clause-listed c = member-listed

pub returns-clause-closed : goal.returns-clause-closed
returns-clause-closed c = members-closed
