-- What a relying party asks for, without where it lies in memory: WebAuthn Level 2, sections 5.4 and 5.5.
use Rattle.std.specs.Prelude.{ℕ, List, Bool, map}
use Rattle.std.specs.Borrow.{Bor}
use Rattle.cose.specs.declared.key.Alg.{Alg}
use Rattle.client.specs.declared.options.RequestOptions.{RequestOptions}
use Rattle.client.specs.declared.options.CreationOptions.{CreationOptions}

-- 5.5: challenge, rpId, the ids of allowCredentials, and whether userVerification is required
pub record SignInOptions : Type 0 where
  pub challenge : List ℕ
  pub rp_id : List ℕ
  pub allow : List (List ℕ)
  pub uv : Bool

-- 5.4: challenge; rp, its id and name; user, its id, name and displayName; the algorithms of
-- pubKeyCredParams; the ids of excludeCredentials; and of authenticatorSelection whether a resident key and
-- userVerification are required
pub record RegistrationOptions : Type 0 where
  pub challenge : List ℕ
  pub rp_id : List ℕ
  pub rp_name : List ℕ
  pub user_id : List ℕ
  pub user_name : List ℕ
  pub display_name : List ℕ
  pub algs : List Alg
  pub exclude : List (List ℕ)
  pub rk : Bool
  pub uv : Bool

-- the ids that a list of borrowed ids lends
abbrev pub ids_of : List (Bor (List ℕ)) → List (List ℕ)
ids_of ids = map (λ id. id.now) ids

abbrev pub sign_in_options_view : RequestOptions → SignInOptions
sign_in_options_view o = record { challenge = o.challenge.now; rp_id = o.rp_id.now; allow = ids_of o.allow.now; uv = o.uv }

abbrev pub registration_options_view : CreationOptions → RegistrationOptions
registration_options_view o = record {
  challenge = o.challenge.now;
  rp_id = o.rp_id.now;
  rp_name = o.rp_name.now;
  user_id = o.user_id.now;
  user_name = o.user_name.now;
  display_name = o.display_name.now;
  algs = o.algs.now;
  exclude = ids_of o.exclude.now;
  rk = o.rk;
  uv = o.uv;
}
