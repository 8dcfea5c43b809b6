-- What a host's registration stands for, and what is answered of it.
use Rattle.std.specs.Prelude.{◌≡◌, ◌⊎◌, ℕ, Bool, not, List, Some}
use Rattle.refusal_order.specs.Lines.{Each}
use Rattle.cose.specs.Schemes.{Validity}
use Rattle.cose.specs.declared.key.CoseKey.{CoseKey}
use Rattle.authdata.specs.Flags.{is_set, BE, BS, UV}
use Rattle.authdata.specs.Layout.{AttestedCredential, AuthenticatorData, extension_bytes}
use Rattle.authdata.specs.Objects.{Attestation}
use Rattle.authdata.specs.Statements.{IsNone, IsSelfSignedBy}
use Rattle.verification.specs.Numbers.{registration_number}
use Rattle.verification.specs.Registration.{Attests, JudgedRegistration, IsFirstFailing, counted}
use Rattle.verification.specs.declared.refusal.RegistrationRefusal.{RegistrationRefusal}
use Rattle.verification.specs.Signed.{only_verified}
use Rattle.passkey_c.specs.declared.answers.InputFault.{InputFault}
use Rattle.passkey_c.specs.declared.parts.RegistrationCall.{RegistrationCall}
use Rattle.passkey_c.specs.declared.parts.RegistrationOut.{RegistrationOut}
use Rattle.passkey_c.specs.declared.registration.Refusal.{Refusal}
use Rattle.passkey_c.specs.declared.registration.Refusal.TheVariants as refusals
use Rattle.passkey_c.specs.Limits.{IsFault, RegistrationKeeps, registration_limits}
use Rattle.passkey_c.specs.Numbers.{fault_number}
use Rattle.passkey_c.specs.Parts.{Fills, IsEnd, TellsKey, flag_of, given, offered, party_of, profile_of, verified_in}

-- each id counts as registered where the host did not find the one that the client names to be free
abbrev pub registered_unless : Bool → List ℕ → Bool
registered_unless is_free id = not is_free

abbrev pub judged_registration : RegistrationCall → JudgedRegistration
judged_registration call = record {
  rp = party_of call.party;
  policy = record { accept_none = flag_of call.accept_none; accept_self = flag_of call.accept_self };
  session = given (flag_of call.has_session) (record {
    user = call.session.user.now;
    algorithms = offered (flag_of call.session.offers_es256) (flag_of call.session.offers_eddsa) (flag_of call.session.offers_rs256);
    uv = flag_of call.session.user_verification;
    challenge = call.session.challenge.now;
    conditional = flag_of call.session.conditional;
    attestation = flag_of call.session.attestation;
  });
  response = record { object = call.response.object.now; client_data = call.response.client_data.now; raw_id = Some call.raw_id.now };
  is_registered = registered_unless (flag_of call.is_free);
  is_full = flag_of call.is_full;
}

-- the signatures that are valid: the one that the host verified
abbrev pub registration_validity : RegistrationCall → Validity
registration_validity call = only_verified (verified_in (flag_of call.has_verified) call.verified)

-- the object shows how its credential is attested: 0 not at all (WebAuthn Level 2, section 8.7), 1 by a packed statement with a
-- signature of the key itself (section 8.2)
abbrev pub IsFormat : ℕ → Attestation → CoseKey → Type 0
IsFormat format o key = ((format ≡ 0) × IsNone o) ⊎ ((format ≡ 1) × ((signature : List ℕ) × IsSelfSignedBy o key signature))

-- what the host learns of what the response attests: the credential, and what the authenticator data and the object, as it
-- counts, say
abbrev pub TellsAttested : RegistrationOut → Attestation → AuthenticatorData → AttestedCredential → List ℕ → Type 0
TellsAttested out o a c object =
    Fills out.id_size out.id c.id × TellsKey out.key c.key × (out.aaguid ≡ c.aaguid)
    × (out.sign_count ≡ a.sign_count) × (out.flags ≡ a.flags)
    × (out.eligible ≡ is_set a.flags BE) × (out.backed_up ≡ is_set a.flags BS) × (out.user_verified ≡ is_set a.flags UV)
    × IsFormat out.format o c.key × IsEnd out.extensions_size object (extension_bytes a.extensions)

-- the object as it counts for the session
abbrev pub counted_in : RegistrationCall → Attestation → Attestation
counted_in call = counted (profile_of call.party.profile) (flag_of call.session.attestation)

abbrev pub TellsRegistration : RegistrationCall → RegistrationOut → Type 0
TellsRegistration call out =
    (o : Attestation) × (a : AuthenticatorData) × (c : AttestedCredential)
    × Attests (judged_registration call).rp.profile (judged_registration call).response o a c
    × TellsAttested out (counted_in call o) a c call.response.object.now

-- the numbers that are answered
abbrev pub IsRegistrationAnswer : ℕ → Type 0
IsRegistrationAnswer n = (n ≡ 0) ⊎ ((step : RegistrationRefusal) × (n ≡ registration_number step)) ⊎ ((fault : InputFault) × (n ≡ fault_number fault))

-- why it is not accepted: with the first step that fails each limit is kept
abbrev pub IsRefused : RegistrationCall → Refusal → Type 0
IsRefused call (refusals.Input fault) = IsFault (RegistrationKeeps call) fault
IsRefused call (refusals.Step step) =
    IsFirstFailing (registration_validity call) (judged_registration call) step × Each (RegistrationKeeps call) registration_limits
