-- Authenticator data and its bytes: WebAuthn, sections 6.1 and 6.5.1.
use Rattle.std.specs.Prelude.{◌≡◌, ℕ, ◌<◌, ◌≤◌, ◌^◌, List, [], ◌∷◌, ◌++◌, length, Option, Some, None, is_some, IfSome, option_map}
use Rattle.std.specs.Int.{w16, w32, to_be_bytes}
use Rattle.ccbor.specs.Item.{text, map, Pairs, no_pairs, pair}
use Rattle.ccbor.specs.Canon.{Canon, spelling}
use Rattle.cose.specs.declared.key.CoseKey.{CoseKey}
use Rattle.cose.specs.Keys.{item_of, lent_key_view, IsKey}
use Rattle.authdata.specs.declared.auth.Attested.{Attested}
use Rattle.authdata.specs.declared.auth.AuthData.{AuthData}
use Rattle.authdata.specs.declared.auth.AttestedView.{AttestedView}
use Rattle.authdata.specs.declared.auth.AuthView.{AuthView}
use Rattle.authdata.specs.declared.profile.Profile.{Profile}
use Rattle.authdata.specs.declared.profile.Profile.TheVariants.{Strict}
use Rattle.authdata.specs.Flags.{is_set, HasBackup, AT, ED}
use Rattle.authdata.specs.Profiles.{max_id}

-- attested credential data, without where it lies in memory: aaguid, credentialId,
-- credentialPublicKey (6.5.1)
pub record AttestedCredential : Type 0 where
  pub aaguid : List ℕ
  pub id : List ℕ
  pub key : CoseKey

-- authenticator data: rpIdHash, flags, signCount, attestedCredentialData, extensions (6.1)
pub record AuthenticatorData : Type 0 where
  pub rp_id_hash : List ℕ
  pub flags : ℕ
  pub sign_count : ℕ
  pub attested : Option AttestedCredential
  pub extensions : Option (List ℕ)

-- credentialPublicKey: the canonical CBOR of the key's value
abbrev pub key_bytes : CoseKey → List ℕ
key_bytes key = spelling (item_of key)

-- aaguid (16 bytes), credentialIdLength (2, big-endian), credentialId, credentialPublicKey
abbrev pub credential_bytes : AttestedCredential → List ℕ
credential_bytes c = c.aaguid ++ (to_be_bytes w16 (length c.id) ++ (c.id ++ key_bytes c.key))

abbrev pub attested_bytes : Option AttestedCredential → List ℕ
attested_bytes None = []
attested_bytes (Some c) = credential_bytes c

abbrev pub extension_bytes : Option (List ℕ) → List ℕ
extension_bytes None = []
extension_bytes (Some bs) = bs

-- rpIdHash (32 bytes), flags (1), signCount (4, big-endian), attestedCredentialData and extensions
-- where they are there
abbrev pub data_bytes : AuthenticatorData → List ℕ
data_bytes a =
    a.rp_id_hash ++ (a.flags ∷ (to_be_bytes w32 a.sign_count ++ (attested_bytes a.attested ++ extension_bytes a.extensions)))

-- an id of at least one byte, and of no more than the profile has
pub record IsAttestedCredential (profile : Profile) (c : AttestedCredential) : Type 0 where
  pub aaguid : length c.aaguid ≡ 16
  pub id_low : 1 ≤ length c.id
  pub id_high : length c.id ≤ max_id profile
  pub key : IsKey c.key

-- each key of a map is a text
abbrev pub HasTextKeys : Pairs → Type 0
HasTextKeys no_pairs = Unit {0}
HasTextKeys (pair key value pairs) = ((t : List ℕ) × (key ≡ text t)) × HasTextKeys pairs

-- extensions: one map of canonical CBOR, whose keys are texts (6.1, 9)
abbrev pub IsExtensionMap : List ℕ → Type 0
IsExtensionMap bs = (members : Pairs) × HasTextKeys members × Canon (map members) bs

-- AT is set exactly if a credential is attested, ED exactly if there are extensions, of which the strict profile
-- has none, and BS is set only with BE
pub record IsAuthenticatorData (profile : Profile) (a : AuthenticatorData) : Type 0 where
  pub rp_id_hash : length a.rp_id_hash ≡ 32
  pub flags : a.flags < 256
  pub sign_count : a.sign_count < 2 ^ 32
  pub attested_flag : is_set a.flags AT ≡ is_some a.attested
  pub extensions_flag : is_set a.flags ED ≡ is_some a.extensions
  pub no_extensions : profile ≡ Strict → a.extensions ≡ None
  pub backup : HasBackup a.flags
  pub attested : IfSome a.attested (IsAttestedCredential profile)
  pub extensions : IfSome a.extensions IsExtensionMap

-- the bytes are those of the authenticator data, which the profile has
abbrev pub AuthOf : Profile → AuthenticatorData → List ℕ → Type 0
AuthOf profile a bs = IsAuthenticatorData profile a × (bs ≡ data_bytes a)

-- what a value of the program is
abbrev pub attested_view : Attested → AttestedCredential
attested_view c = record { aaguid = c.aaguid; id = c.id.items; key = c.key }

abbrev pub auth_view : AuthData → AuthenticatorData
auth_view a = record {
  rp_id_hash = a.rp_id_hash;
  flags = a.flags;
  sign_count = a.sign_count;
  attested = option_map attested_view a.attested;
  extensions = None;
}

abbrev pub lent_attested_view : AttestedView → AttestedCredential
lent_attested_view c = record { aaguid = c.aaguid; id = c.id.now; key = lent_key_view c.key }

abbrev pub lent_auth_view : AuthView → AuthenticatorData
lent_auth_view a = record {
  rp_id_hash = a.rp_id_hash;
  flags = a.flags;
  sign_count = a.sign_count;
  attested = option_map lent_attested_view a.attested;
  extensions = option_map (λ bytes. bytes.now) a.extensions;
}
