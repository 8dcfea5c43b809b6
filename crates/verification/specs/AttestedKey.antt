-- The key that authenticator data attest (WebAuthn Level 2, section 6.5.1).
use Rattle.std.specs.Prelude.{◌≡◌, ℕ, List, Some}
use Rattle.cose.specs.declared.key.CoseKey.{CoseKey}
use Rattle.authdata.specs.declared.profile.Profile.{Profile}
use Rattle.authdata.specs.Layout.{AttestedCredential, AuthenticatorData, AuthOf}

abbrev pub AttestsKey : Profile → List ℕ → CoseKey → Type 0
AttestsKey profile bs key = (a : AuthenticatorData) × (c : AttestedCredential) × AuthOf profile a bs × (a.attested ≡ Some c) × (c.key ≡ key)

-- they attest none, or are none of this profile
abbrev pub AttestsNoKey : Profile → List ℕ → Type 0
AttestsNoKey profile bs = (a : AuthenticatorData) (c : AttestedCredential) → AuthOf profile a bs → a.attested ≡ Some c → ⊥
