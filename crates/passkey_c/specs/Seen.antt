-- What an accepted response says, as it is given. Private functions are proved against this.
use Rattle.std.specs.Prelude.{◌≡◌, ◌≢◌, codes, length}
use Rattle.authdata.specs.declared.auth.AuthView.{AuthView}
use Rattle.authdata.specs.Flags.{is_set, BE, BS, UV}
use Rattle.authdata.specs.Layout.{extension_bytes, lent_auth_view}
use Rattle.verification.specs.Records.{AttestedRegistration}
use Rattle.passkey_c.specs.declared.parts.AssertionOut.{AssertionOut}
use Rattle.passkey_c.specs.declared.parts.RegistrationOut.{RegistrationOut}
use Rattle.passkey_c.specs.Parts.{Fills, TellsKey}

-- what the authenticator data say is answered
abbrev pub TellsView : AssertionOut → AuthView → Type 0
TellsView out a =
    (out.sign_count ≡ a.sign_count) × (out.flags ≡ a.flags)
    × (out.eligible ≡ is_set a.flags BE) × (out.backed_up ≡ is_set a.flags BS) × (out.user_verified ≡ is_set a.flags UV)
    × (out.extensions_size ≡ length (extension_bytes (lent_auth_view a).extensions))

-- what a registration attests is answered; its format by a number
abbrev pub TellsSeen : RegistrationOut → AttestedRegistration → Type 0
TellsSeen out v =
    Fills out.id_size out.id v.credential.id × TellsKey out.key v.credential.key × (out.aaguid ≡ v.credential.aaguid)
    × (out.sign_count ≡ v.auth_data.sign_count) × (out.flags ≡ v.auth_data.flags)
    × (out.eligible ≡ is_set v.auth_data.flags BE) × (out.backed_up ≡ is_set v.auth_data.flags BS) × (out.user_verified ≡ is_set v.auth_data.flags UV)
    × ((v.format ≡ codes "none" → out.format ≡ 0) × (v.format ≢ codes "none" → out.format ≡ 1))
    × (out.extensions_size ≡ length (extension_bytes v.auth_data.extensions))
