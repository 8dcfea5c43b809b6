-- Replies to authenticatorClientPIN: CTAP 2.1, section 6.5.5. Members that are not listed may be there.
use Rattle.std.specs.Prelude.{◌≡◌, ◌≢◌, ℕ, List, [], ◌∷◌, Bool, false, Option, option_map, ℤ, pos, negsuc}
use Rattle.ccbor.specs.Item as of
use Rattle.ccbor.specs.Item.{Item}
use Rattle.ctap_encoding.specs.Table.{Members, no_more, listed, a_truth, some_bytes, unsigned, record_of}
use Rattle.ctap_encoding.specs.Content.{Contents}
use Rattle.ctap_encoding.specs.declared.error.Error.{Error}
use Rattle.ctap_encoding.specs.declared.error.Error.TheVariants as errors
use Rattle.ctap_open_replies.specs.Telling.{Tells}
use Rattle.pin_client_messages.specs.Commands.{key_members}

-- the public key of the authenticator's key agreement, as it was given
pub record ToldKey : Type 0 where
  pub kty : ℤ
  pub alg : ℤ
  pub crv : ℤ
  pub x : List ℕ
  pub y : List ℕ

abbrev pub key_content : ToldKey → Contents key_members
key_content k = (k.kty, (k.alg, (k.crv, (k.x, (k.y, tt)))))

-- it is a point of P-256 for this key agreement (section 6.5.6)
abbrev pub IsPoint : ToldKey → Type 0
IsPoint k = (k.kty ≡ pos 2) × (k.alg ≡ negsuc 24) × (k.crv ≡ pos 1)

pub record Told : Type 0 where
  pub key : Option ToldKey
  pub token : Option (List ℕ)
  pub pin_retries : Option ℕ
  pub power_cycle : Option Bool
  pub uv_retries : Option ℕ

abbrev pub reply_members : Members
reply_members =
    listed (of.uint 1) false (record_of key_members) (
    listed (of.uint 2) false some_bytes (
    listed (of.uint 3) false (unsigned 0) (
    listed (of.uint 4) false a_truth (
    listed (of.uint 5) false (unsigned 0) no_more))))

abbrev pub reply_content : Told → Contents reply_members
reply_content q = (option_map key_content q.key, (q.token, (q.pin_retries, (q.power_cycle, (q.uv_retries, tt)))))

abbrev pub TellsPin : Told → Item → Type 0
TellsPin q v = Tells (record_of reply_members) (reply_content q) v

-- a reply that tells nothing: status 0, whatever follows
abbrev pub IsDone : List ℕ → Type 0
IsDone bs = (rest : List ℕ) × (bs ≡ 0 ∷ rest)

abbrev pub IsNotDone : List ℕ → Error → Type 0
IsNotDone bs errors.Empty = bs ≡ []
IsNotDone bs (errors.Refused s) = (rest : List ℕ) × (bs ≡ s ∷ rest) × (s ≢ 0)
IsNotDone bs _ = ⊥
