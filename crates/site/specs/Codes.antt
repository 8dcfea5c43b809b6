-- How the state is stored, as the tuple of its fields.
use Rattle.std.specs.Prelude.{ℕ, List, Bool, Option, refl}
use Rattle.std.specs.Coded.{Coded, code_by, coded×, coded_ℕ, coded_bool, coded_list, coded_option}
use Rattle.authdata.specs.declared.profile.Profile.{Profile}
use Rattle.authdata.specs.contracts.profile.Profile as profile
use Rattle.cose.specs.declared.key.CoseKey.{CoseKey}
use Rattle.cose.specs.contracts.key.CoseKey as key
use Rattle.verification.specs.Records.{RelyingParty, Credential}
use Rattle.verification.specs.declared.party.Policy.{Policy}
use Rattle.verification.specs.contracts.party.Policy as policy
use Rattle.site_state.specs.Sessions.{OpenSessions}
use Rattle.site_state.specs.Codes.{Bytes, coded_bytes, open_code}
use Rattle.site.specs.State.{SiteState}

abbrev party_code : Coded RelyingParty
party_code =
    code_by (Bytes × (List Bytes × (List Bytes × Profile)))
    (coded× coded_bytes (coded× (coded_list coded_bytes) (coded× (coded_list coded_bytes) profile.the_row.coded)))
    (λ p. (p.rp_id, (p.origins, (p.top_origins, p.profile))))
    (λ p. record { rp_id = p.0; origins = p.1.0; top_origins = p.1.1.0; profile = p.1.1.1 }) (λ _. refl)

abbrev credential_code : Coded Credential
credential_code =
    code_by (Bytes × (Bytes × (CoseKey × (ℕ × (Option Bool × Bool)))))
    (coded× coded_bytes (coded× coded_bytes (coded× key.the_row.coded (coded× coded_ℕ (coded× (coded_option coded_bool) coded_bool)))))
    (λ c. (c.id, (c.user, (c.key, (c.sign_count, (c.eligible, c.retired))))))
    (λ p. record { id = p.0; user = p.1.0; key = p.1.1.0; sign_count = p.1.1.1.0; eligible = p.1.1.1.1.0; retired = p.1.1.1.1.1 }) (λ _. refl)

abbrev pub state_code : Coded SiteState
state_code =
    code_by (RelyingParty × (Policy × (List Credential × OpenSessions)))
    (coded× party_code (coded× policy.the_row.coded (coded× (coded_list credential_code) open_code)))
    (λ s. (s.rp, (s.policy, (s.rows, s.sessions)))) (λ p. record { rp = p.0; policy = p.1.0; rows = p.1.1.0; sessions = p.1.1.1 }) (λ _. refl)
