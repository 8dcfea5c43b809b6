-- What the runs are made of: two relying parties, credentials that are numbered, and authenticators.
use Rattle.std.proofs.Common.{ℕ, List, [], ◌∷◌, true, false, Some, Option, codes, replicate}
use Rattle.cose.specs.Bench.{bench_public}
use Rattle.cose.specs.declared.key.Alg.{Alg}
use Rattle.cose.specs.declared.key.Alg.TheVariants as algs
use Rattle.cose.specs.declared.key.CoseKey.{CoseKey}
use Rattle.cose.specs.declared.key.SigningAlg.TheVariants as signing
use Rattle.authdata.specs.declared.statement.AttestationType.{AttestationType}
use Rattle.authdata.specs.Layout.{AttestedCredential}
use Rattle.verification.specs.Records.{Credential}
use Rattle.authenticator.specs.State.{AuthenticatorState, CredentialSource, Remembered}
use Rattle.authenticator.specs.declared.consent.Consent.{Consent}
use Rattle.authenticator.specs.declared.consent.Words.{Words}
use Rattle.client.specs.Options.{RegistrationOptions, SignInOptions}

-- ---- relying parties, of rp ids of eleven bytes, and their pages

abbrev pub com_id : List ℕ
com_id = codes "example.com"

abbrev pub org_id : List ℕ
org_id = codes "example.org"

abbrev pub com_page : List ℕ
com_page = codes "https://example.com"

abbrev pub org_page : List ℕ
org_page = codes "https://example.org"

-- ---- credential n: its id and its secret are n 32 times, and its user is n

abbrev pub filled : ℕ → List ℕ
filled n = replicate 32 n

abbrev pub words : ℕ → Words
words n = record { id = filled n; secret = filled n }

abbrev pub key : ℕ → CoseKey
key n = bench_public signing.EdDsa (filled n)

-- at an authenticator, with a counter; as it is attested; and at a site, with the counter that was seen
abbrev pub source : List ℕ → ℕ → ℕ → CredentialSource
source rp_id n count =
    record { id = filled n; rp_id = rp_id; user = n ∷ []; secret = filled n; alg = signing.EdDsa; resident = true; sign_count = count }

abbrev pub aaguid : List ℕ
aaguid = replicate 16 0

abbrev pub credential : ℕ → AttestedCredential
credential n = record { aaguid = aaguid; id = filled n; key = key n }

abbrev pub row : ℕ → ℕ → Credential
row n seen = record { id = filled n; user = n ∷ []; key = key n; sign_count = seen; eligible = Some false; retired = false }

-- ---- an authenticator that verifies its user, and the consent that is given to it

abbrev pub device : AttestationType → List CredentialSource → Option Remembered → AuthenticatorState
device attest cs remembered = record { aaguid = aaguid; uv = true; attest = attest; credentials = cs; remembered = remembered }

abbrev pub consent : Consent
consent = record { present = true; verified = true }

-- ---- what is asked for: resident credentials by EdDSA; sign-ins by any credential, and by credential n with verification

abbrev pub offered : List Alg
offered = algs.EdDsa ∷ []

abbrev pub registering : List ℕ → ℕ → List ℕ → RegistrationOptions
registering rp_id n challenge = record {
  challenge = challenge;
  rp_id = rp_id;
  rp_name = codes "Example";
  user_id = n ∷ [];
  user_name = codes "a";
  display_name = codes "A";
  algs = offered;
  exclude = [];
  rk = true;
  uv = false;
}

abbrev pub by_any : List ℕ → List ℕ → SignInOptions
by_any rp_id challenge = record { challenge = challenge; rp_id = rp_id; allow = []; uv = false }

abbrev pub by_one : List ℕ → ℕ → List ℕ → SignInOptions
by_one rp_id n challenge = record { challenge = challenge; rp_id = rp_id; allow = filled n ∷ []; uv = true }
