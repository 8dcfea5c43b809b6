-- What is owed of `object_in`.
use Rattle.std.proofs.Common.{sym, ◌∙◌}
use Rattle.authdata.proofs.Objects.{members_are}
use Rattle.authdata.proofs.object.object_in.Goals as goal

pub returns : goal.returns
returns c = members_are _ _ _ _ _ _ _ _ _ (sym c.in_ok-members.ensures) (sym c.in_ok-fmt.ensures) (sym c.in_ok-statement.ensures)
    (sym c.in_ok-auth_data.ensures) (sym c.is_end.ensures ∙ c.if-not-is_end.false) c.view_of.ensures
