-- What is owed of `credential_first`.
use Rattle.ctap_replies.proofs.UsualReplies.{credential_spelled}
use Rattle.ctap_replies.proofs.usual.credential_first.Goals as goal

pub returns : goal.returns
returns c =
    let id = c.in_ok-id in (
      id.ensures.0,
      credential_spelled id.id.now c.args.bytes.now c.in_ok-rest.rest.now id.rest.now c.in_ok-rest-2.rest.now c.in_ok-rest.ensures id.ensures.1
          c.in_ok-rest-2.ensures,
    )
