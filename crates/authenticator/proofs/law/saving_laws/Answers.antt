-- What is owed of `saving_laws`.
use Rattle.authenticator.proofs.SavedMaps.{laws}
use Rattle.authenticator.proofs.law.saving_laws.Goals as goal

pub returns : goal.returns
returns c = laws
