-- What is owed of `Sessions::get`.
use Rattle.std.proofs.Common.{◌∙◌, ap, sym}
use Rattle.std.specs.Prelude.{option_map}
use Rattle.site_state.specs.SessionViews.{session_view}
use Rattle.site_state.proofs.Maps.{copied, get_seen}
use Rattle.site_state.proofs.sessions.Sessions.get.Goals as goal

pub returns-clause-expected : goal.returns-clause-expected
returns-clause-expected c =
    rw (← c.self.view_is) (copied c.get.result ∙ ap (option_map session_view) c.get.ensures.value ∙ sym (get_seen c.self.inside.by_number c.args.session))

pub returns-clause-limits : goal.returns-clause-limits
returns-clause-limits c = rw (← c.self.view_is) (c.self.invariant.1 c.args.session)
