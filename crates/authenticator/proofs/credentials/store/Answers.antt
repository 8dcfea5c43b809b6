-- What is owed of `store`.
use Rattle.authenticator.proofs.Lists.{removed_behind}
use Rattle.authenticator.proofs.credentials.store.Goals as goal

pub returns-in-Some-clause-ok : goal.returns-in-Some-clause-ok
returns-in-Some-clause-ok c = removed_behind c.args.overwritten c.in-Some.place c.args.credentials.now.items _ c.remove.new.self.items c.args.credential
    c.in-Some.is c.requires c.in_ok-push.ensures.items c.remove.ensures.items
