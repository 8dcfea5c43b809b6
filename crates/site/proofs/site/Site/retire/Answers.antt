-- What is owed of `Site::retire`.
use Rattle.site.proofs.site.Site.retire.Goals as goal

pub invariant_of-self : goal.invariant_of-self
invariant_of-self c = (c.retire.ensures.limits c.self.inside.party.profile c.self.invariant.0, c.self.invariant.1, c.self.invariant.2)
