-- What is owed of `BeganAt::insert`.
use Rattle.site_state.proofs.Kept.{put_in}
use Rattle.site_state.proofs.began_at.BeganAt.insert.Goals as goal

pub returns-clause-set : goal.returns-clause-set
returns-clause-set c =
    rw (← c.self.view_is) (put_in c.self.inside.by_number c.insert.new.self c.args.number c.args.moment c.in_ok-insert.ensures.updates.0)
