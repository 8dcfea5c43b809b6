-- The reply to getInfo of a key that takes PINs: CTAP 2.1, section 6.4.
use Rattle.std.specs.Prelude.{◌≡◌, ℕ, List, [], ◌∷◌, Bool, true, false, codes}
use Rattle.ccbor.specs.Item as of
use Rattle.ccbor.specs.Canon.{Canon}
use Rattle.ctap_encoding.specs.Table.{Members, no_more, listed, a_text, some_bytes, truths, unsigned, list_of, record_of}
use Rattle.ctap_encoding.specs.Content.{Contents, item_of}
use Rattle.ctap_open_replies.specs.Replies.{Info}

abbrev pub key_info_members : Members
key_info_members =
    listed (of.uint 1) true (list_of a_text) (
    listed (of.uint 3) true some_bytes (
    listed (of.uint 4) true truths (
    listed (of.uint 5) false (unsigned 0) (
    listed (of.uint 6) true (list_of (unsigned 0)) (
    listed (of.uint 7) false (unsigned 0) (
    listed (of.uint 8) false (unsigned 0) no_more))))))

-- the aaguid and the limits of the authenticator, both protocols, and whether a PIN is set
abbrev pub key_info_content : Info → Bool → Contents key_info_members
key_info_content q is_set = (
  codes "FIDO_2_0" ∷ codes "FIDO_2_1" ∷ [],
  (
    q.aaguid,
    (
      (codes "rk", true) ∷ (codes "up", true) ∷ (codes "clientPin", is_set) ∷ (codes "pinUvAuthToken", true) ∷ [],
      (q.max_msg_size, (2 ∷ 1 ∷ [], (q.max_credential_count_in_list, (q.max_credential_id_length, tt)))),
    ),
  ),
)

abbrev pub KeyInfoBytes : Info → Bool → List ℕ → Type 0
KeyInfoBytes q is_set bs = (rest : List ℕ) × (bs ≡ 0 ∷ rest) × Canon (item_of (record_of key_info_members) (key_info_content q is_set)) rest
