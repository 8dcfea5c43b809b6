-- What is owed of `Authenticator::creation_data`.
use Rattle.std.proofs.Common.{rules}
use Rattle.ctap_requests.specs.RequestView.{creation_view}
use Rattle.authenticator.proofs.Attesting.{creation_size}
use Rattle.authenticator.proofs.authenticator.Authenticator.creation_data.Goals as goal

pub returns-clause-size : goal.returns-clause-size
returns-clause-size c =
    creation_size c.args.self.now (creation_view c.args.request.now) c.args.id.now c.args.key c.write.result c.requires.key (search rules) (search rules)
