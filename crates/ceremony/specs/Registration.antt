-- A registration (WebAuthn Level 2, section 7.1) by packets.
use Rattle.std.specs.Prelude.{ℕ, List, None}
use Rattle.hidframe.specs.declared.Packet.{Packet}
use Rattle.ccbor.specs.Canon.{spelling}
use Rattle.ctap_replies.specs.declared.reply.Kind.TheVariants.{MakeCredential}
use Rattle.ctap_replies.specs.Replies.{Creation, ReplyOf, creation_reply}
use Rattle.authdata.specs.Objects.{object_item}
use Rattle.authdata.specs.Responses as responses
use Rattle.client.specs.Responses.{object_of}
use Rattle.cose.specs.Schemes.{Validity}
use Rattle.verification.specs.Registration.{IsFirstFailing, PassesRegistration}
use Rattle.verification.specs.declared.refusal.RegistrationRefusal.{RegistrationRefusal}
use Rattle.site.specs.State.{IsAfterRegistration, SiteState, judged_registration}
use Rattle.site.specs.Answers.{IsRegistered}
use Rattle.ceremony.specs.Verdict.{CarriesReply, Ceremony, Succeeds}
use Rattle.ceremony.specs.declared.registration.Enrolled.{Enrolled}

-- the response that a reply to makeCredential (CTAP 2.1, section 6.1.2) makes with client data: the one encoding of
-- its attestation object
abbrev pub response : Creation → List ℕ → responses.AuthenticatorAttestationResponse
response r t = record { object = spelling (object_item (object_of r)); client_data = t; raw_id = None }

-- in a session of a site, with client data t: the message is a reply to makeCredential, whose response is judged
abbrev pub registration : Validity → SiteState → ℕ → List ℕ → Ceremony Creation RegistrationRefusal
registration valid s session t = record {
  command = MakeCredential;
  IsReply = λ r m. ReplyOf (creation_reply r) m;
  PassesSite = λ r. PassesRegistration valid (judged_registration s session (response r t));
  FailsSite = λ r w. IsFirstFailing valid (judged_registration s session (response r t)) w;
}

-- the first `used` packets succeed by a reply whose credential is answered
abbrev pub AcceptsRegistration : Validity → SiteState → ℕ → List ℕ → ℕ → List Packet → Enrolled → Type 0
AcceptsRegistration valid s session t c ps a =
    (r : Creation) × Succeeds (registration valid s session t) c ps a.used r × IsRegistered s (response r t) (record { credential = a.credential })

-- the site afterwards
abbrev pub IsAfter : SiteState → ℕ → List ℕ → ℕ → List Packet → SiteState → Type 0
IsAfter s session t c ps new =
    CarriesReply (λ r m. ReplyOf (creation_reply r) m) (λ r. IsAfterRegistration s session (response r t) new) c ps
