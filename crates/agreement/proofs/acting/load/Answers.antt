-- What is owed of `load`.
use Rattle.site.specs.State.{framed_party}
use Rattle.verification.specs.Views.{texts_of}
use Rattle.agreement.proofs.Acted.{loads}
use Rattle.agreement.proofs.acting.load.Goals as goal

pub returns : goal.returns
returns c = loads (framed_party c.args.profile c.args.rp_id.now (texts_of c.args.origins.now) (texts_of c.args.top_origins.now)) c.args.policy c.args.bytes.now c.load_framed_by.result c.load_framed_by.ensures.loaded
