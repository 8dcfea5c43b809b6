-- What is owed of `set_sign_count`.
use Rattle.std.proofs.Common.{refl}
use Rattle.authenticator.proofs.Store.{set_standing}
use Rattle.authenticator.proofs.credentials.set_sign_count.Goals as goal

pub returns : goal.returns
returns c = set_standing c.args.sign_count c.args.credentials.now c.args.place c.index-credentials-place.result _ refl
