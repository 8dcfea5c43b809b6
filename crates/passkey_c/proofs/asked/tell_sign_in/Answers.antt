-- What is owed of `tell_sign_in`.
use Rattle.std.proofs.Common.{◌++◌, ap, refl}
use Rattle.cose.specs.Keys.{lent_key_view}
use Rattle.passkey_c.specs.Asked.{Asks}
use Rattle.passkey_c.specs.Parts.{flag_of}
use Rattle.passkey_c.proofs.Told.{broken}
use Rattle.passkey_c.proofs.asked.tell_sign_in.Goals as goal

pub returns-in-Err-clause-refused : goal.returns-in-Err-clause-refused
returns-in-Err-clause-refused c =
    let call = c.args.call.now in
    let message = call.assertion.auth_data.now ++ c.hash.result in
    let joined = ap (λ hash. call.assertion.auth_data.now ++ hash) c.hash.ensures in
    let asks : Asks (flag_of call.is_registration) call (lent_key_view c.in-Ok.key) message call.assertion.signature.now =
    rw c.requires (c.in-Ok.ensures.found, joined, refl) in
    broken call _ _ (record {
      key = c.in-Ok.key;
      auth_data = call.assertion.auth_data;
      hash = c.hash.result;
      signature = call.assertion.signature;
    }) c.in-Err.limit
    asks c.in-Err.ensures.refused
