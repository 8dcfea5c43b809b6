-- Requests: CTAP 2.1, sections 6.1 to 6.4 and 6.6, in the message encoding of section 8.
use Rattle.std.specs.Prelude.{◌≡◌, ℕ, ◌==◌, List, [], ◌∷◌, true, false, map, Option, option_map, if◌then◌else◌}
use Rattle.ccbor.specs.Item as of
use Rattle.ccbor.specs.Item.{Item, Pairs}
use Rattle.ccbor.specs.Canon.{Canon}
use Rattle.ctap_encoding.specs.Table.{Holds, some_bytes, a_text, any_map, list_of, record_of, not_empty, sized, Members, no_more, listed}
use Rattle.ctap_encoding.specs.Content.{Contents, item_of}
use Rattle.ctap_encoding.specs.declared.fault.Fault.TheVariants as faults
use Rattle.ctap_requests.specs.Entities.{CredentialDescriptor, descriptor_members, descriptor_content, RpEntity, rp_members, rp_content, UserEntity}
use Rattle.ctap_requests.specs.Entities.{user_members, user_content, CredentialParameters, parameters_members, parameters_content, CreationFlags}
use Rattle.ctap_requests.specs.Entities.{creation_options_members, creation_options_content, AssertionFlags, assertion_options_members}
use Rattle.ctap_requests.specs.Entities.{assertion_options_content}

-- ---- authenticatorMakeCredential (section 6.1)

pub record CreationRequest : Type 0 where
  pub client_data_hash : List ℕ
  pub rp : RpEntity
  pub user : UserEntity
  pub pub_key_cred_params : List CredentialParameters
  pub exclude_list : Option (List CredentialDescriptor)
  pub options : Option CreationFlags

abbrev pub creation_members : Members
creation_members =
    listed (of.uint 1) true (sized 32 32 faults.InvalidSize some_bytes) (
    listed (of.uint 2) true (record_of rp_members) (
    listed (of.uint 3) true (record_of user_members) (
    listed (of.uint 4) true (list_of (record_of parameters_members)) (
    listed (of.uint 5) false (sized 0 8 faults.OverLimit (list_of (record_of descriptor_members))) (
    listed (of.uint 6) false any_map (
    listed (of.uint 7) false (record_of creation_options_members) no_more))))))

-- with an extensions map, or without one
abbrev pub creation_content : CreationRequest → Option Item → Contents creation_members
creation_content q extensions = (
  q.client_data_hash,
  (
    rp_content q.rp,
    (
      user_content q.user,
      (
        map parameters_content q.pub_key_cred_params,
        (option_map (map descriptor_content) q.exclude_list, (extensions, (option_map creation_options_content q.options, tt))),
      ),
    ),
  ),
)

abbrev pub creation_item : CreationRequest → Option Pairs → Item
creation_item q x = item_of (record_of creation_members) (creation_content q (option_map of.map x))

-- ---- authenticatorGetAssertion (section 6.2)

pub record AssertionRequest : Type 0 where
  pub rp_id : List ℕ
  pub client_data_hash : List ℕ
  pub allow_list : Option (List CredentialDescriptor)
  pub options : Option AssertionFlags

abbrev pub assertion_members : Members
assertion_members =
    listed (of.uint 1) true (sized 1 253 faults.OverLimit a_text) (
    listed (of.uint 2) true (sized 32 32 faults.InvalidSize some_bytes) (
    listed (of.uint 3) false (not_empty faults.InvalidSize (sized 0 8 faults.OverLimit (list_of (record_of descriptor_members)))) (
    listed (of.uint 4) false any_map (
    listed (of.uint 5) false (record_of assertion_options_members) no_more))))

-- with an extensions map, or without one
abbrev pub assertion_content : AssertionRequest → Option Item → Contents assertion_members
assertion_content q extensions =
    (q.rp_id, (q.client_data_hash, (option_map (map descriptor_content) q.allow_list, (extensions, (option_map assertion_options_content q.options, tt)))))

abbrev pub assertion_item : AssertionRequest → Option Pairs → Item
assertion_item q x = item_of (record_of assertion_members) (assertion_content q (option_map of.map x))

-- ---- all commands

pub data RequestMessage : Type 0 where
  make_credential : CreationRequest → RequestMessage
  get_assertion : AssertionRequest → RequestMessage
  get_next_assertion : RequestMessage
  get_info : RequestMessage
  reset : RequestMessage

-- the table of the map that follows the command byte
abbrev pub map_of : ℕ → Holds
map_of command = if command == 1 then record_of creation_members else record_of assertion_members

-- the bytes are the command byte, and then the canonical encoding of the request's map
abbrev pub RequestOf : RequestMessage → Option Pairs → List ℕ → Type 0
RequestOf (make_credential q) x bs = (rest : List ℕ) × (bs ≡ 1 ∷ rest) × Canon (creation_item q x) rest
RequestOf (get_assertion q) x bs = (rest : List ℕ) × (bs ≡ 2 ∷ rest) × Canon (assertion_item q x) rest
RequestOf get_next_assertion x bs = bs ≡ 8 ∷ []
RequestOf get_info x bs = bs ≡ 4 ∷ []
RequestOf reset x bs = bs ≡ 7 ∷ []
