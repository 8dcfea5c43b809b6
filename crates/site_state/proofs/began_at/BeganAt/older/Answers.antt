-- What is owed of `BeganAt::older`.
use Rattle.std.proofs.Common.{◌∙◌, ap}
use Rattle.site_state.specs.Private.{is_in}
use Rattle.site_state.proofs.Kept.{if_ok, walked}
use Rattle.site_state.proofs.began_at.BeganAt.older.Goals as goal

pub returns : goal.returns
returns c =
    rw (← c.self.view_is)
    (if_ok c.past.result _ _ (λ numbers is n. ap (is_in n) is ∙ walked c.self.inside.by_number c.args.before n) c.past.ensures)
