-- What is owed of `Authenticator::finish_next`.
use Rattle.ctap_replies.specs.ReplyView.{lent_assertion_view}
use Rattle.authenticator.proofs.Replies.{assertion_message}
use Rattle.authenticator.proofs.authenticator.Authenticator.finish_next.Goals as goal

pub written_assertion-requires : goal.written_assertion-requires
written_assertion-requires c = assertion_message (lent_assertion_view c.shown-shown.result) c.shown-shown.ensures.fits
