-- What the calls of a site answer.
use Rattle.std.specs.Prelude.{◌≡◌}
use Rattle.std.specs.Option.{ForSome}
use Rattle.authdata.specs.Flags.{is_set, BS}
use Rattle.authdata.specs.Layout.{AuthenticatorData, AttestedCredential, AuthOf}
use Rattle.authdata.specs.Objects.{Attestation}
use Rattle.authdata.specs.Responses.{AuthenticatorAssertionResponse}
use Rattle.authdata.specs.Responses as responses
use Rattle.verification.specs.Registration.{Attests}
use Rattle.site_state.specs.Table.{row_of}
use Rattle.site.specs.State.{SiteState}
use Rattle.site.specs.declared.signing_in.SignedIn.{SignedIn}
use Rattle.site.specs.declared.registration.Registered.{Registered}

-- who signed in, with which credential, and whether it is backed up: the user is that of the credential, the mark
-- is what came
abbrev pub IsSignedIn : SiteState → AuthenticatorAssertionResponse → SignedIn → Type 0
IsSignedIn s r x =
    ForSome (row_of r.credential s.rows) (λ row. x.user.items ≡ row.user)
    × (x.credential.items ≡ r.credential)
    × ((a : AuthenticatorData) × AuthOf s.rp.profile a r.auth_data × (x.backed_up ≡ is_set a.flags BS))

-- the credential that the response attests
abbrev pub IsRegistered : SiteState → responses.AuthenticatorAttestationResponse → Registered → Type 0
IsRegistered s r x =
    (o : Attestation) × (a : AuthenticatorData) × (c : AttestedCredential) × Attests s.rp.profile r o a c × (x.credential.items ≡ c.id)
