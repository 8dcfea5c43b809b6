-- What an authenticator keeps where it isn't running, as one map of canonical CBOR (CTAP 2.1, "Message Encoding"). The map
-- is this product's own. What is remembered of a getAssertion is not in it.
use Rattle.std.specs.Prelude.{◌≡◌, ◌<◌, ◌≤◌, ◌^◌, ◌++◌, ℕ, List, Bool, true, false, None, length}
use Rattle.std.specs.Prelude.{map as each}
use Rattle.refusal_order.specs.Lines.{Each}
use Rattle.ccbor.specs.Item.{Item, uint, bytes, text, array, map, boolean, no_pairs, pair}
use Rattle.ccbor.specs.Canon.{Canon}
use Rattle.ccbor.specs.View.{items_of}
use Rattle.cose.specs.Keys.{alg_item, signed_alg}
use Rattle.authdata.specs.declared.statement.AttestationType.{AttestationType}
use Rattle.authdata.specs.declared.statement.AttestationType.TheVariants as types
use Rattle.authenticator.specs.State.{CredentialSource, AuthenticatorState, forgotten}
use Rattle.authenticator.specs.Laws.{SoundState}

-- whether new credentials are attested by their own keys
abbrev pub is_self_signed : AttestationType → Bool
is_self_signed types.None = false
is_self_signed types.SelfSigned = true

-- a credential: 1 its id; 2 its relying party's id; 3 the user handle; 4 the secret; 5 the number of its algorithm (RFC 9053,
-- section 2); 6 whether it is resident; 7 the signature counter
abbrev pub source_item : CredentialSource → Item
source_item c =
    map (pair (uint 1) (bytes c.id)
    (pair (uint 2) (text c.rp_id)
    (pair (uint 3) (bytes c.user)
    (pair (uint 4) (bytes c.secret)
    (pair (uint 5) (alg_item (signed_alg c.alg))
    (pair (uint 6) (boolean c.resident)
    (pair (uint 7) (uint c.sign_count) no_pairs)))))))

-- the whole: 1 the version, which is 1; 2 the aaguid; 3 whether it is configured to verify its user; 4 whether new
-- credentials are attested by their own keys; 5 the credentials in order of creation
abbrev pub authenticator_item : AuthenticatorState → Item
authenticator_item a =
    map (pair (uint 1) (uint 1)
    (pair (uint 2) (bytes a.aaguid)
    (pair (uint 3) (boolean a.uv)
    (pair (uint 4) (boolean (is_self_signed a.attest))
    (pair (uint 5) (array (items_of (each source_item a.credentials))) no_pairs)))))

-- the sizes of a credential's parts
pub record IsSource (c : CredentialSource) : Type 0 where
  pub id : length c.id ≡ 32
  pub user_low : 1 ≤ length c.user
  pub user_high : length c.user ≤ 64
  pub secret : length c.secret ≡ 32
  pub sign_count : c.sign_count < 2 ^ 32

-- the bytes are the authenticator's, which remembers nothing: the canonical CBOR of its value
pub record SavedOf (a : AuthenticatorState) (bytes : List ℕ) : Type 0 where
  pub aaguid : length a.aaguid ≡ 16
  pub remembered : a.remembered ≡ None
  pub sources : Each IsSource a.credentials
  pub spelled : Canon (authenticator_item a) bytes

-- the new bytes are the old ones and then the authenticator's, but for what it remembers
abbrev pub AppendsSaved : AuthenticatorState → List ℕ → List ℕ → Type 0
AppendsSaved a old new = (bytes : List ℕ) × SavedOf (forgotten a) bytes × (new ≡ old ++ bytes)

-- an authenticator ends, and begins again with what it saved at that moment
pub record Restarted (old new : AuthenticatorState) : Type 0 where
  pub bytes : List ℕ
  pub saved : SavedOf (forgotten old) bytes
  pub loaded : SavedOf new bytes

-- ---- laws

pub record SavingLaws : Type 0 where
  -- bytes are those of one authenticator
  pub one_state : (a b : AuthenticatorState) (bytes : List ℕ) → SavedOf a bytes → SavedOf b bytes → a ≡ b
  -- which has no others
  pub one_list : (a : AuthenticatorState) (bytes others : List ℕ) → SavedOf a bytes → SavedOf a others → bytes ≡ others
  -- over a restart all is as before but what is remembered: the credentials in their order, with their ids, secrets and counters
  pub restarted : (old new : AuthenticatorState) → Restarted old new → new ≡ forgotten old
  -- so what holds of each step holds on
  pub sound : (old new : AuthenticatorState) → SoundState old → Restarted old new → SoundState new
