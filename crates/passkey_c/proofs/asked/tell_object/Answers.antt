-- What is owed of `tell_object`.
use Rattle.std.proofs.Common.{◌++◌, ap}
use Rattle.cose.specs.Keys.{lent_key_view}
use Rattle.passkey_c.specs.Parts.{flag_of, profile_of}
use Rattle.authdata.specs.Objects.{lent_object_view}
use Rattle.authdata.specs.Statements.{IsSelfSignedBy}
use Rattle.verification.specs.Registration.{counted}
use Rattle.passkey_c.specs.Asked.{IsNotSelfSigned, response_of}
use Rattle.verification.specs.AttestedKey.{AttestsKey, AttestsNoKey}
use Rattle.passkey_c.proofs.Told.{asks_nothing, broken, is_unread, self_asks, tells}
use Rattle.passkey_c.proofs.asked.tell_object.Goals as goal

pub returns-in_default-clause-refused : goal.returns-in_default-clause-refused
returns-in_default-clause-refused c =
    let none : AttestsNoKey (profile_of c.args.call.now.profile) c.args.object.now.auth_data.now =
    rw (← c.profile_from-profile.ensures) c.in_default.ensures in
    (c.requires.registration, is_unread _ _ _ c.requires.object none)

pub returns-in_default-counted_signature-clause-told : goal.returns-in_default-counted_signature-clause-told
returns-in_default-counted_signature-clause-told c =
    let key : AttestsKey (profile_of c.args.call.now.profile) c.args.object.now.auth_data.now (lent_key_view c.in-Some.key) =
    rw (← c.profile_from-profile.ensures) c.in-Some.ensures in
    let none : IsNotSelfSigned (counted (profile_of c.args.call.now.profile) (flag_of c.args.call.now.attestation) (lent_object_view c.args.object.now))
    (lent_key_view c.in-Some.key) = rw (← c.profile_from-profile.ensures) c.in_default-counted_signature.ensures in
    (c.requires.registration, asks_nothing _ (flag_of c.args.call.now.attestation) _ (lent_object_view c.args.object.now) _ c.requires.object key none)

pub returns-in-Ok-clause-told : goal.returns-in-Ok-clause-told
returns-in-Ok-clause-told c =
    let key : AttestsKey (profile_of c.args.call.now.profile) c.args.object.now.auth_data.now (lent_key_view c.in-Some.key) =
    rw (← c.profile_from-profile.ensures) c.in-Some.ensures in
    let joined = ap (λ hash. c.args.object.now.auth_data.now ++ hash) c.hash.ensures in
    let signed : IsSelfSignedBy (counted (profile_of c.args.call.now.profile) (flag_of c.args.call.now.attestation) (lent_object_view c.args.object.now))
    (lent_key_view c.in-Some.key) c.in-Some-counted_signature.self_signature.now =
    rw (← c.profile_from-profile.ensures) c.in-Some-counted_signature.ensures in
    let asks = self_asks _ (flag_of c.args.call.now.attestation) (response_of c.args.call.now.registration) (lent_object_view c.args.object.now) _
    (c.args.object.now.auth_data.now ++ c.hash.result) _ c.requires.object key signed joined in
    tells c.args.call.now c.tell.new.out c.tell.new.message c.tell.new.signature
    (record { key = c.in-Some.key; auth_data = c.args.object.now.auth_data; hash = c.hash.result; signature = c.in-Some-counted_signature.self_signature })
    (rw c.requires.registration asks) c.in-Ok.ensures.told

pub returns-in-Err-clause-refused : goal.returns-in-Err-clause-refused
returns-in-Err-clause-refused c =
    let key : AttestsKey (profile_of c.args.call.now.profile) c.args.object.now.auth_data.now (lent_key_view c.in-Some.key) =
    rw (← c.profile_from-profile.ensures) c.in-Some.ensures in
    let joined = ap (λ hash. c.args.object.now.auth_data.now ++ hash) c.hash.ensures in
    let signed : IsSelfSignedBy (counted (profile_of c.args.call.now.profile) (flag_of c.args.call.now.attestation) (lent_object_view c.args.object.now))
    (lent_key_view c.in-Some.key) c.in-Some-counted_signature.self_signature.now =
    rw (← c.profile_from-profile.ensures) c.in-Some-counted_signature.ensures in
    let asks = self_asks _ (flag_of c.args.call.now.attestation) (response_of c.args.call.now.registration) (lent_object_view c.args.object.now) _
    (c.args.object.now.auth_data.now ++ c.hash.result) _ c.requires.object key signed joined in
    broken c.args.call.now _ _ (record {
      key = c.in-Some.key;
      auth_data = c.args.object.now.auth_data;
      hash = c.hash.result;
      signature = c.in-Some-counted_signature.self_signature;
    }) c.in-Err.limit
    (rw c.requires.registration asks) c.in-Err.ensures.refused
