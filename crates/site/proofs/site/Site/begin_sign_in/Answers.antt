-- What is owed of `Site::begin_sign_in`.
use Rattle.site.proofs.site.Site.begin_sign_in.Goals as goal

pub returns-clause-refused : goal.returns-clause-refused
returns-clause-refused c = rw (← c.self.view_is) (rw c.profile.ensures at c.begin_sign_in.ensures.refused)
