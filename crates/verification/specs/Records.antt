-- What a relying party is, keeps of a credential, and expects of a ceremony (WebAuthn Level 2, section 7).
use Rattle.std.specs.Prelude.{ℕ, List, Bool, Option}
use Rattle.authdata.specs.declared.profile.Profile.{Profile}
use Rattle.authdata.specs.Layout.{AttestedCredential, AuthenticatorData}
use Rattle.cose.specs.declared.key.Alg.{Alg}
use Rattle.cose.specs.declared.key.CoseKey.{CoseKey}

-- its rp id, the origins that its pages have, those of other sites' pages that may frame them (Level 3, 7.1 and 7.2,
-- `topOrigin`), and which responses it takes
pub record RelyingParty : Type 0 where
  pub rp_id : List ℕ
  pub origins : List (List ℕ)
  pub top_origins : List (List ℕ)
  pub profile : Profile

-- a registered credential: its id, the user handle, the public key, the signature counter last received,
-- whether it is eligible for backup, where that is known, and whether it is retired
pub record Credential : Type 0 where
  pub id : List ℕ
  pub user : List ℕ
  pub key : CoseKey
  pub sign_count : ℕ
  pub eligible : Option Bool
  pub retired : Bool

-- the credential that a registration brings: its id, the public key, the signature counter that came, and whether
-- it is eligible for backup
pub record NewCredential : Type 0 where
  pub id : List ℕ
  pub key : CoseKey
  pub sign_count : ℕ
  pub eligible : Bool

-- what a registration's response attests: what its authenticator data say, the credential, and the format of what counts as its
-- attestation object
pub record AttestedRegistration : Type 0 where
  pub auth_data : AuthenticatorData
  pub credential : AttestedCredential
  pub format : List ℕ

-- what a sign-in expects: a user, where one is named; the credentials that may answer, where there are any
-- listed; whether the user is to be verified; and the challenge
pub record ExpectedSignIn : Type 0 where
  pub user : Option (List ℕ)
  pub allow : List (List ℕ)
  pub uv : Bool
  pub challenge : List ℕ

-- what a registration expects: the user, the algorithms offered, whether the user is to be verified, the challenge,
-- whether it was begun as a conditional create (Level 3, 5.1.3), and whether an attestation was asked for (5.4.7)
pub record ExpectedRegistration : Type 0 where
  pub user : List ℕ
  pub algorithms : List Alg
  pub uv : Bool
  pub challenge : List ℕ
  pub conditional : Bool
  pub attestation : Bool
