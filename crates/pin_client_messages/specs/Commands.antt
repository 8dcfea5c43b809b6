-- Requests of authenticatorClientPIN: CTAP 2.1, section 6.5.5, in the message encoding of section 8.
use Rattle.std.specs.Prelude.{◌≡◌, ℕ, List, ◌∷◌, true, false, Option, Some, None, pos, negsuc}
use Rattle.ccbor.specs.Item as of
use Rattle.ccbor.specs.Canon.{Canon}
use Rattle.ctap_encoding.specs.Table.{Members, no_more, listed, a_number, a_text, some_bytes, unsigned, record_of, sized, gravest}
use Rattle.ctap_encoding.specs.Content.{Contents, item_of}
use Rattle.ctap_encoding.specs.declared.fault.Fault.TheVariants as faults

-- ---- the public key of a key agreement (section 6.5.6, getPublicKey): a COSE_Key (RFC 9052, section 7) of kty 2
-- (EC2), alg -25 (ECDH-ES + HKDF-256), crv 1 (P-256), x and y (RFC 9053, section 7.1.1)

pub record PublicPoint : Type 0 where
  pub x : List ℕ
  pub y : List ℕ

abbrev pub key_members : Members
key_members =
    listed (of.uint 1) true a_number (
    listed (of.uint 3) true a_number (
    listed (of.nint 0) true a_number (
    listed (of.nint 1) true (sized 32 32 faults.InvalidSize some_bytes) (
    listed (of.nint 2) true (sized 32 32 faults.InvalidSize some_bytes) no_more))))

abbrev pub point_content : PublicPoint → Contents key_members
point_content p = (pos 2, (negsuc 24, (pos 1, (p.x, (p.y, tt)))))

-- ---- the request's map (section 6.5.5)

abbrev pub pin_members : Members
pin_members =
    listed (of.uint 1) true (unsigned 0) (
    listed (of.uint 2) true (unsigned 0) (
    listed (of.uint 3) false (record_of key_members) (
    listed (of.uint 4) false some_bytes (
    listed (of.uint 5) false some_bytes (
    listed (of.uint 6) false some_bytes (
    listed (of.uint 9) false (unsigned 0) (
    listed (of.uint 10) false (sized 1 253 faults.OverLimit a_text) no_more)))))))

-- a subcommand, with what it takes
pub data Subcommand : Type 0 where
  pin_retries : Subcommand
  key_agreement : Subcommand
  -- the client's key, pinUvAuthParam, newPinEnc
  set_pin : PublicPoint → List ℕ → List ℕ → Subcommand
  -- the client's key, pinUvAuthParam, newPinEnc, pinHashEnc
  change_pin : PublicPoint → List ℕ → List ℕ → List ℕ → Subcommand
  -- the client's key, pinHashEnc
  pin_token : PublicPoint → List ℕ → Subcommand
  -- the client's key, permissions, rpId
  token_by_uv : PublicPoint → ℕ → Option (List ℕ) → Subcommand
  uv_retries : Subcommand
  -- the client's key, pinHashEnc, permissions, rpId
  token_by_pin : PublicPoint → List ℕ → ℕ → Option (List ℕ) → Subcommand

-- pinUvAuthProtocol, subCommand, keyAgreement, pinUvAuthParam, newPinEnc, pinHashEnc, permissions, rpId
abbrev pub members : ℕ → ℕ → Option PublicPoint → Option (List ℕ) → Option (List ℕ) → Option (List ℕ) → Option ℕ → Option (List ℕ) → Contents pin_members
members protocol subcommand key param new_pin pin_hash permissions rp_id =
    (protocol, (subcommand, (keys key, (param, (new_pin, (pin_hash, (permissions, (rp_id, tt)))))))) where
      keys : Option PublicPoint → Option (Contents key_members)
      keys None = None
      keys (Some p) = Some (point_content p)

-- the members of each, with this protocol (sections 6.5.5.2 to 6.5.5.7)
abbrev pub pin_content : ℕ → Subcommand → Contents pin_members
pin_content protocol pin_retries = members protocol 1 None None None None None None
pin_content protocol key_agreement = members protocol 2 None None None None None None
pin_content protocol (set_pin key param new_pin) = members protocol 3 (Some key) (Some param) (Some new_pin) None None None
pin_content protocol (change_pin key param new_pin pin_hash) = members protocol 4 (Some key) (Some param) (Some new_pin) (Some pin_hash) None None
pin_content protocol (pin_token key pin_hash) = members protocol 5 (Some key) None None (Some pin_hash) None None
pin_content protocol (token_by_uv key permissions rp_id) = members protocol 6 (Some key) None None None (Some permissions) rp_id
pin_content protocol uv_retries = members protocol 7 None None None None None None
pin_content protocol (token_by_pin key pin_hash permissions rp_id) = members protocol 9 (Some key) None None (Some pin_hash) (Some permissions) rp_id

-- ---- the bytes

-- a command byte, and then the canonical encoding of a map that has no fault by its table
abbrev pub MessageOf : ℕ → (ms : Members) → Contents ms → List ℕ → Type 0
MessageOf command ms c bs =
    (rest : List ℕ) × (bs ≡ command ∷ rest) × Canon (item_of (record_of ms) c) rest × (gravest (record_of ms) (item_of (record_of ms) c) ≡ None)

-- authenticatorClientPIN has the command byte 6
abbrev pub PinRequest : ℕ → Subcommand → List ℕ → Type 0
PinRequest protocol s bs = MessageOf 6 pin_members (pin_content protocol s) bs
