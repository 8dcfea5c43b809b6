-- What is owed of `required_first`.
use Rattle.std.proofs.Common.{None, refl}
use Rattle.ctap_replies.proofs.UsualReplies.{required_spelled}
use Rattle.ctap_replies.proofs.usual.required_first.Goals as goal

pub returns : goal.returns
returns c =
    let credential = c.in_ok-credential in
    let auth = c.in_ok-auth_data in
    let signature = c.in_ok-signature in
    record {
      id = credential.ensures.0;
      auth_data = auth.ensures.1;
      signature = signature.ensures.1;
      user = refl;
      number = refl;
      spelled = required_spelled (record
          { credential = credential.credential.now; auth_data = auth.auth_data.now; signature = signature.signature.now; user = None; number = None })
          c.args.bytes.now c.in_ok-rest.rest.now credential.rest.now c.in_ok-rest-2.rest.now auth.rest.now c.in_ok-rest-3.rest.now signature.rest.now
          c.in_ok-rest.ensures credential.ensures.1 c.in_ok-rest-2.ensures auth.ensures.0 c.in_ok-rest-3.ensures signature.ensures.0;
    }
