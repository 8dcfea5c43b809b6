-- What is owed of `BeganAt::oldest`.
use Rattle.std.proofs.Common.{◌∙◌}
use Rattle.site_state.proofs.Kept.{get_kept, least_kept, some_kept}
use Rattle.site_state.proofs.began_at.BeganAt.oldest.Goals as goal

pub returns-clause-there : goal.returns-clause-there
returns-clause-there c = rw (← c.self.view_is) (some_kept c.self.inside.by_number c.lowest.result c.lowest.ensures.there)

pub returns-clause-least : goal.returns-clause-least
returns-clause-least c = rw (← c.self.view_is) (least_kept c.self.inside.by_number c.lowest.result c.lowest.ensures.least)

pub returns-clause-none : goal.returns-clause-none
returns-clause-none c = λ none k. rw (← c.self.view_is) (get_kept c.self.inside.by_number k ∙ c.lowest.ensures.none none k)
