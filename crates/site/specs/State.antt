-- What a relying party keeps (WebAuthn Level 2, section 7), and how its calls change it.
use Rattle.std.specs.Prelude.{◌≡◌, ◌≤◌, ℕ, List, [], ◌∷◌, ◌++◌, length, is_some, not, nat_lt, Some, false}
use Rattle.std.specs.FinMap as finite
use Rattle.authdata.specs.declared.profile.Profile.{Profile}
use Rattle.authdata.specs.Flags.{is_set, BE}
use Rattle.authdata.specs.Layout.{AuthenticatorData, AttestedCredential, AuthOf}
use Rattle.authdata.specs.Objects.{Attestation}
use Rattle.authdata.specs.Responses.{AuthenticatorAssertionResponse}
use Rattle.authdata.specs.Responses as responses
use Rattle.verification.specs.Records.{RelyingParty, Credential, ExpectedRegistration}
use Rattle.verification.specs.SignIn.{JudgedSignIn}
use Rattle.verification.specs.Registration.{JudgedRegistration, Attests}
use Rattle.verification.specs.declared.party.Policy.{Policy}
use Rattle.site_state.specs.Table.{row_of, with_row, signed_in, IsTable, IsWithin}
use Rattle.site.specs.Saved.{Saved, TableOf}
use Rattle.site_state.specs.Sessions.{OpenSessions, closed, registration_at, sign_in_at}

-- the relying party; the attestations that it accepts; its credentials in order of registration; its sessions
pub record SiteState : Type 0 where
  pub rp : RelyingParty
  pub policy : Policy
  pub rows : List Credential
  pub sessions : OpenSessions

-- an rp id of 1 to 253 bytes, and at least one origin
abbrev pub IsParty : RelyingParty → Type 0
IsParty rp = IsWithin 253 rp.rp_id × (1 ≤ length rp.origins)

-- the relying party of these texts, which takes responses of this profile, where pages of these other sites may frame its own
abbrev pub framed_party : Profile → List ℕ → List (List ℕ) → List (List ℕ) → RelyingParty
framed_party profile rp_id origins top_origins = record { rp_id = rp_id; origins = origins; top_origins = top_origins; profile = profile }

-- and where none may
abbrev pub party_of : Profile → List ℕ → List (List ℕ) → RelyingParty
party_of profile rp_id origins = framed_party profile rp_id origins []

-- no session is open
abbrev pub none_open : ℕ → ℕ → OpenSessions
none_open max_open next = record { expected = finite.empty; next = next; max_open = max_open }

-- a site without open sessions, whose next session has this number; at most 1,024 are open at a time
abbrev pub idle : RelyingParty → Policy → List Credential → ℕ → SiteState
idle rp policy rows next = record { rp = rp; policy = policy; rows = rows; sessions = none_open 1024 next }

-- what is kept over a restart
abbrev pub saved_of : SiteState → Saved
saved_of s = record { rp_id = s.rp.rp_id; next = s.sessions.next; rows = s.rows }

-- a site without open sessions whose saved table these bytes are
abbrev pub IsLoaded : RelyingParty → Policy → List ℕ → SiteState → Type 0
IsLoaded rp policy bytes s = ((version : ℕ) × TableOf version (saved_of s) bytes) × (s ≡ idle rp policy s.rows s.sessions.next)

-- the bytes are no saved table of a relying party
abbrev pub IsNoTable : RelyingParty → List ℕ → Type 0
IsNoTable rp bytes = (version : ℕ) (saved : Saved) → saved.rp_id ≡ rp.rp_id → IsTable rp.profile saved.rows → TableOf version saved bytes → ⊥

-- ---- sign-in

-- a response as it is judged in a session
abbrev pub judged_sign_in : SiteState → ℕ → AuthenticatorAssertionResponse → JudgedSignIn
judged_sign_in s n r = record { rp = s.rp; session = sign_in_at n s.sessions; credential = row_of r.credential s.rows; response = r }

-- after a sign-in is accepted: the credential has the signature counter and the mark of eligibility that came, and
-- the session is closed
abbrev pub IsAfterSignIn : SiteState → ℕ → AuthenticatorAssertionResponse → SiteState → Type 0
IsAfterSignIn s n r new =
    (a : AuthenticatorData) × AuthOf s.rp.profile a r.auth_data
    × (new ≡ record s { rows = with_row r.credential (signed_in a.sign_count (is_set a.flags BE)) s.rows; sessions = closed n s.sessions })

-- ---- registration

-- a response as it is judged in a session
abbrev pub judged_registration : SiteState → ℕ → responses.AuthenticatorAttestationResponse → JudgedRegistration
judged_registration s n r = record {
  rp = s.rp;
  policy = s.policy;
  session = registration_at n s.sessions;
  response = r;
  is_registered = λ id. is_some (row_of id s.rows);
  is_full = not (nat_lt (length s.rows) 65536);
}

-- the credential that is registered: with the session's user, and the counter and the mark of eligibility that came
abbrev pub registered : ExpectedRegistration → AuthenticatorData → AttestedCredential → Credential
registered e a c = record {
  id = c.id;
  user = e.user;
  key = c.key;
  sign_count = a.sign_count;
  eligible = Some (is_set a.flags BE);
  retired = false;
}

-- after a registration is accepted: the credential stands last, and the session is closed
abbrev pub IsAfterRegistration : SiteState → ℕ → responses.AuthenticatorAttestationResponse → SiteState → Type 0
IsAfterRegistration s n r new =
    (e : ExpectedRegistration) × (o : Attestation) × (a : AuthenticatorData) × (c : AttestedCredential)
    × (registration_at n s.sessions ≡ Some e) × Attests s.rp.profile r o a c
    × (new ≡ record s { rows = s.rows ++ registered e a c ∷ []; sessions = closed n s.sessions })
