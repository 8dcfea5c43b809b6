-- An honest run as a run of a world: six moments, at one of its sites and at one of its authenticators.
use Rattle.std.specs.Prelude.{◌≡◌, ◌<◌, ◌-◌, ◌^◌, ◌==◌, ℕ, List, [], ◌∷◌, ◌++◌, length, Some, false, if◌then◌else◌}
use Rattle.std.specs.List.{All}
use Rattle.sha2.specs.Sha256.{sha256}
use Rattle.base64.specs.GeneralPurpose.{IsBytes}
use Rattle.cose.specs.Schemes.{Validity}
use Rattle.cose.specs.declared.key.CoseKey.{CoseKey}
use Rattle.authdata.specs.Responses as responses
use Rattle.authdata.specs.declared.statement.AttestationType.{AttestationType}
use Rattle.authdata.specs.declared.statement.AttestationType.TheVariants as types
use Rattle.verification.specs.Records as registered
use Rattle.site_state.specs.Sessions.{Opening}
use Rattle.site.specs.State as site
use Rattle.site.specs.Laws.{after_begin}
use Rattle.authenticator.specs.Steps.{Entry, Keys, assertion, attestation, key_of}
use Rattle.client.specs.Responses.{response_of}
use Rattle.ceremony.specs.SignIn as sign_in
use Rattle.agreement.specs.Honest.{AcceptsBoth, IsHonestRun, Run}
use Rattle.agreement.specs.World.{Asks, AtSite, Begins, Done, Holder, IsRun, IsStart, Moment, RegistersBy, SignsInBy, World, words_of}
use Rattle.agreement.specs.Agreement.{IsAccepted, IsIdeal, RestsOn, WasMade}

-- a world in which site i, or authenticator k, is this one
abbrev pub with_site : ℕ → site.SiteState → World → World
with_site i s w = record w { site = λ j. if j == i then s else w.site j }

abbrev pub with_holder : ℕ → Holder → World → World
with_holder k h w = record w { holder = λ j. if j == k then h else w.holder j }

-- ---- where the run takes place

-- a world; how the session for the registration begins; the site after the sign-in; and the numbers of the site and of the
-- authenticator
pub record Place : Type 0 where
  pub world : World
  pub opening : Opening
  pub signed_in : site.SiteState
  pub site : ℕ
  pub holder : ℕ

pub record TakesPlace (valid : Validity) (public : Keys) (x : Run) (h : IsHonestRun valid public x) (p : Place) : Type 0 where
  -- no session of the world's sites is open, and its authenticators are new
  pub start : IsStart p.world
  pub authenticator : x.registering.before.authenticator ≡ (p.world.holder p.holder).state
  -- the site begins the session for the registration, and once that is done the one for the sign-in
  pub begins : x.registering.site ≡ after_begin (p.world.site p.site) p.opening
  pub words : IsBytes (words_of p.opening) × IsBytes (words_of h.begins.0)
  pub numbers : ((p.world.site p.site).sessions.next < 2 ^ 64 - 1) × (x.registered.sessions.next < 2 ^ 64 - 1)
  -- the authenticator is handed ids of 32 bytes
  pub ids : (length x.registering.words.id ≡ 32) × (length x.signing_in.words.id ≡ 32)
  -- the site is this one after the sign-in
  pub after : sign_in.IsAfter x.signing_in.site x.signing_in.session x.signing_in.out.client_data x.signing_in.channel x.signing_in.packets p.signed_in

-- ---- its moments

-- what is signed where a credential is made: with self attestation the attestation, and else nothing
abbrev pub attested_by : AttestationType → Entry → List Entry
attested_by types.None e = []
attested_by types.SelfSigned e = e ∷ []

-- what is accepted of an honest run is known from here on
module _ (valid : Validity) (public : Keys) (x : Run) (h : IsHonestRun valid public x) (p : Place) (a : AcceptsBoth valid public x) where
  -- the key that is made
  abbrev pub key : CoseKey
  key = key_of public a.registers.credential

  -- what is signed for the registration, with the consent given to its request
  abbrev pub attested : Entry
  attested = record {
    key = key;
    message = a.registers.reply.auth_data ++ sha256 x.registering.out.client_data;
    purpose = attestation;
    consent = h.honest_registration.decided.consent;
  }

  -- what is signed for the sign-in, with the consent given to its request
  abbrev pub asserted : Entry
  asserted = record {
    key = key;
    message = a.signs_in.reply.auth_data ++ sha256 x.signing_in.out.client_data;
    purpose = assertion;
    consent = h.honest_sign_in.decided.consent;
  }

  -- the authenticator after the one request, and after the other
  abbrev pub holder_made : Holder
  holder_made = record {
    state = x.registering.after.authenticator;
    signed = attested_by x.registering.before.authenticator.attest attested;
    made = key ∷ [];
  }

  abbrev pub holder_signed : Holder
  holder_signed = record {
    state = x.signing_in.after.authenticator;
    signed = attested_by x.registering.before.authenticator.attest attested ++ asserted ∷ [];
    made = key ∷ [];
  }

  -- the site begins a session for registration
  abbrev pub moment_begins : Moment
  moment_begins = record {
    old = p.world;
    event = AtSite p.site (Begins p.opening);
    end = Done;
    new = with_site p.site x.registering.site p.world;
  }

  -- the authenticator is asked for a credential, with what the client's packets carry
  abbrev pub moment_makes : Moment
  moment_makes = record {
    old = moment_begins.new;
    event = Asks p.holder x.registering.channel h.honest_registration.decided.asks.message h.honest_registration.decided.consent x.registering.words;
    end = Done;
    new = with_holder p.holder holder_made moment_begins.new;
  }

  -- its packets register it
  abbrev pub moment_registers : Moment
  moment_registers = record {
    old = moment_makes.new;
    event = AtSite p.site (RegistersBy x.registering.session x.registering.channel x.registering.packets x.registering.out.client_data);
    end = Done;
    new = with_site p.site x.registered moment_makes.new;
  }

  -- the site begins a session for sign-in
  abbrev pub moment_begins_again : Moment
  moment_begins_again = record {
    old = moment_registers.new;
    event = AtSite p.site (Begins h.begins.0);
    end = Done;
    new = with_site p.site x.signing_in.site moment_registers.new;
  }

  -- the authenticator is asked for an assertion, with what the client's packets carry
  abbrev pub moment_asserts : Moment
  moment_asserts = record {
    old = moment_begins_again.new;
    event = Asks p.holder x.signing_in.channel h.honest_sign_in.decided.asks.message h.honest_sign_in.decided.consent x.signing_in.words;
    end = Done;
    new = with_holder p.holder holder_signed moment_begins_again.new;
  }

  -- its packets sign in
  abbrev pub moment_signs_in : Moment
  moment_signs_in = record {
    old = moment_asserts.new;
    event = AtSite p.site (SignsInBy x.signing_in.session x.signing_in.channel x.signing_in.packets x.signing_in.out.client_data);
    end = Done;
    new = with_site p.site p.signed_in moment_asserts.new;
  }

  abbrev pub moments : List Moment
  moments = moment_begins ∷ moment_makes ∷ moment_registers ∷ moment_begins_again ∷ moment_asserts ∷ moment_signs_in ∷ []

  -- the response that the packets of the sign-in carry, and the credential that is registered for it
  abbrev pub response : responses.AuthenticatorAssertionResponse
  response = response_of a.signs_in.reply x.signing_in.out.client_data

  abbrev pub row : registered.Credential
  row = record {
    id = a.registers.credential.id;
    user = a.registers.credential.user;
    key = key;
    sign_count = 0;
    eligible = Some false;
    retired = false;
  }

-- ---- what holds of them

-- they are a run, each of them is ideal; with the last a sign-in is accepted, for a credential whose key was made, and it
-- rests on what was signed for it
pub record Lives (valid : Validity) (public : Keys) (x : Run) (h : IsHonestRun valid public x) (p : Place) : Type 0 where
  pub accepts : AcceptsBoth valid public x
  pub run : IsRun valid public p.world (moments valid public x h p accepts)
  pub ideal : All (IsIdeal valid) (moments valid public x h p accepts)
  pub accepted : IsAccepted (moment_signs_in valid public x h p accepts) p.site x.signing_in.session (response valid public x h p accepts)
      (row valid public x h p accepts)
  pub was_made : WasMade (moment_signs_in valid public x h p accepts).old (key valid public x h p accepts)
  pub rests : RestsOn (moment_signs_in valid public x h p accepts) (response valid public x h p accepts) (row valid public x h p accepts)
      (asserted valid public x h p accepts)
