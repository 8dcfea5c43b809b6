-- What is owed of `find`.
use Rattle.authenticator.proofs.Store.{found_is}
use Rattle.authenticator.proofs.credentials.find.Goals as goal

pub returns : goal.returns
returns c = found_is c.args.id.now c.args.credentials.now c.first_of.result c.first_of.ensures
