-- What is owed of `BeganAt::remove`.
use Rattle.site_state.proofs.Kept.{taken_out}
use Rattle.site_state.proofs.began_at.BeganAt.remove.Goals as goal

pub returns : goal.returns
returns c =
    rw (← c.self.view_is) (taken_out c.self.inside.by_number c.remove.new.self c.args.number c.remove.ensures.updates.0)
