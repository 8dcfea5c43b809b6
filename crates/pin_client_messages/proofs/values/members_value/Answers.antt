-- What is owed of `members_value`.
use Rattle.std.proofs.Common.{◌∙◌}
use Rattle.ccbor.proofs.Views.{view-Map}
use Rattle.pin_client_messages.proofs.values.members_value.Goals as goal

pub returns : goal.returns
returns c = view-Map c.push_members.new.pairs ∙ c.in_ok-push_members.ensures
