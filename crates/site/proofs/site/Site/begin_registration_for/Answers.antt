-- What is owed of `Site::begin_registration_for`.
use Rattle.site.proofs.site.Site.begin_registration_for.Goals as goal

pub returns-clause-passes : goal.returns-clause-passes
returns-clause-passes c = rw (← c.self.view_is) (c.begin_registration_for.ensures.passes c.self.inside.party.profile)

pub returns-clause-refused : goal.returns-clause-refused
returns-clause-refused c = rw (← c.self.view_is) (c.begin_registration_for.ensures.refused c.self.inside.party.profile)
