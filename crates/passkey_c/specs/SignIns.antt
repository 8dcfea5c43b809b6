-- What a host's sign-in stands for, and what is answered of it.
use Rattle.std.specs.Prelude.{◌≡◌, ◌⊎◌, ℕ, List, option_map}
use Rattle.refusal_order.specs.Lines.{Each}
use Rattle.cose.specs.Schemes.{Validity}
use Rattle.authdata.specs.Flags.{is_set, BE, BS, UV}
use Rattle.authdata.specs.Layout.{AuthenticatorData, AuthOf, extension_bytes}
use Rattle.verification.specs.SignIn.{JudgedSignIn, IsFirstFailing}
use Rattle.verification.specs.Numbers.{sign_in_number}
use Rattle.verification.specs.declared.refusal.SignInRefusal.{SignInRefusal}
use Rattle.verification.specs.Signed.{only_verified}
use Rattle.passkey_c.specs.declared.answers.InputFault.{InputFault}
use Rattle.passkey_c.specs.declared.assertion.Refusal.{Refusal}
use Rattle.passkey_c.specs.declared.assertion.Refusal.TheVariants as refusals
use Rattle.passkey_c.specs.declared.parts.AssertionCall.{AssertionCall}
use Rattle.passkey_c.specs.declared.parts.AssertionOut.{AssertionOut}
use Rattle.passkey_c.specs.Limits.{IsFault, SignInKeeps, sign_in_limits}
use Rattle.passkey_c.specs.Numbers.{fault_number}
use Rattle.passkey_c.specs.Parts.{IsEnd, flag_of, given, given_some, key_of, lent, party_of, verified_in}

-- the sign-in as it is judged; a credential whose key is of another algorithm, which is out of its limits, is none
abbrev pub judged_sign_in : AssertionCall → JudgedSignIn
judged_sign_in call = record {
  rp = party_of call.party;
  session = given (flag_of call.has_session) (record {
    user = given (flag_of call.session.has_user) call.session.user.now;
    allow = lent call.session.allow.now;
    uv = flag_of call.session.user_verification;
    challenge = call.session.challenge.now;
  });
  credential = option_map (λ key. record {
    id = call.credential.id.now;
    user = call.credential.user.now;
    key = key;
    sign_count = call.credential.sign_count;
    eligible = given (flag_of call.credential.is_eligibility_known) (flag_of call.credential.eligible);
    retired = flag_of call.credential.retired;
  }) (given_some (flag_of call.has_credential) (key_of call.credential.key));
  response = record {
    credential = call.response.credential.now;
    user = given (flag_of call.response.has_user) call.response.user.now;
    auth_data = call.response.auth_data.now;
    signature = call.response.signature.now;
    client_data = call.response.client_data.now;
  };
}

-- the signatures that are valid: the one that the host verified
abbrev pub sign_in_validity : AssertionCall → Validity
sign_in_validity call = only_verified (verified_in (flag_of call.has_verified) call.verified)

-- what the host learns of the authenticator data
abbrev pub TellsData : AssertionOut → AuthenticatorData → List ℕ → Type 0
TellsData out a bytes =
    (out.sign_count ≡ a.sign_count) × (out.flags ≡ a.flags)
    × (out.eligible ≡ is_set a.flags BE) × (out.backed_up ≡ is_set a.flags BS) × (out.user_verified ≡ is_set a.flags UV)
    × IsEnd out.extensions_size bytes (extension_bytes a.extensions)

abbrev pub TellsSignIn : AssertionCall → AssertionOut → Type 0
TellsSignIn call out =
    (a : AuthenticatorData) × AuthOf (judged_sign_in call).rp.profile a call.response.auth_data.now
    × TellsData out a call.response.auth_data.now

-- the numbers that are answered
abbrev pub IsSignInAnswer : ℕ → Type 0
IsSignInAnswer n = (n ≡ 0) ⊎ ((step : SignInRefusal) × (n ≡ sign_in_number step)) ⊎ ((fault : InputFault) × (n ≡ fault_number fault))

-- why it is not accepted: with the first step that fails each limit is kept
abbrev pub IsRefused : AssertionCall → Refusal → Type 0
IsRefused call (refusals.Input fault) = IsFault (SignInKeeps call) fault
IsRefused call (refusals.Step step) =
    IsFirstFailing (sign_in_validity call) (judged_sign_in call) step × Each (SignInKeeps call) sign_in_limits
