-- Replies of keys: CTAP 2.1, sections 6.1.2, 6.2.2, 6.3 and 6.4, in the message encoding of section 8. Members
-- that are not listed may be there, in each map but the attestation statement and the options, which are given whole.
use Rattle.std.specs.Prelude.{◌≡◌, ◌≢◌, ℕ, List, [], ◌∷◌, map, Bool, true, false, Option, Some, None, option_map, ℤ, codes}
use Rattle.ccbor.specs.Item as of
use Rattle.ccbor.specs.Item.{Item}
use Rattle.ccbor.specs.Canon.{Canon}
use Rattle.ctap_encoding.specs.Table.{a_number, some_bytes, a_text, a_truth, any_map, that_text, unsigned, truths, list_of, record_of, sized, Members}
use Rattle.ctap_encoding.specs.Table.{no_more, listed}
use Rattle.ctap_encoding.specs.Content.{Contents}
use Rattle.ctap_encoding.specs.declared.fault.Fault.TheVariants as faults
use Rattle.ctap_encoding.specs.declared.error.Error.{Error}
use Rattle.ctap_encoding.specs.declared.error.Error.TheVariants as errors
use Rattle.ctap_open_replies.specs.Telling.{Tells}

-- ---- parts

-- PublicKeyCredentialDescriptor (WebAuthn section 5.8.3); an id has at most 1,023 bytes (WebAuthn Level 3,
-- section 4, "Credential ID")
abbrev pub credential_members : Members
credential_members =
    listed (of.text (codes "id")) true (sized 1 1023 faults.OverLimit some_bytes) (
    listed (of.text (codes "type")) true (that_text (codes "public-key")) no_more)

abbrev pub credential_content : List ℕ → Contents credential_members
credential_content id = (id, (tt, tt))

-- PublicKeyCredentialUserEntity (WebAuthn section 5.4.3), and the icon that it had before Level 2
pub record User : Type 0 where
  pub id : List ℕ
  pub icon : Option (List ℕ)
  pub name : Option (List ℕ)
  pub display_name : Option (List ℕ)

abbrev pub user_members : Members
user_members =
    listed (of.text (codes "id")) true (sized 1 64 faults.OverLimit some_bytes) (
    listed (of.text (codes "icon")) false a_text (
    listed (of.text (codes "name")) false a_text (
    listed (of.text (codes "displayName")) false a_text no_more)))

abbrev pub user_content : User → Contents user_members
user_content u = (u.id, (u.icon, (u.name, (u.display_name, tt))))

-- PublicKeyCredentialParameters (WebAuthn section 5.3)
pub record Parameters : Type 0 where
  pub alg : ℤ
  pub kind : List ℕ

abbrev pub parameters_members : Members
parameters_members =
    listed (of.text (codes "alg")) true a_number (
    listed (of.text (codes "type")) true a_text no_more)

abbrev pub parameters_content : Parameters → Contents parameters_members
parameters_content p = (p.alg, (p.kind, tt))

-- ---- authenticatorMakeCredential (section 6.1.2)

pub record Creation : Type 0 where
  pub fmt : List ℕ
  pub auth_data : List ℕ
  pub statement : Item
  pub enterprise : Option Bool
  pub large_blob_key : Option (List ℕ)

abbrev pub creation_members : Members
creation_members =
    listed (of.uint 1) true a_text (
    listed (of.uint 2) true some_bytes (
    listed (of.uint 3) true any_map (
    listed (of.uint 4) false a_truth (
    listed (of.uint 5) false some_bytes no_more))))

abbrev pub creation_content : Creation → Contents creation_members
creation_content q = (q.fmt, (q.auth_data, (q.statement, (q.enterprise, (q.large_blob_key, tt)))))

abbrev pub TellsCreation : Creation → Item → Type 0
TellsCreation q v = Tells (record_of creation_members) (creation_content q) v

-- ---- authenticatorGetAssertion (section 6.2.2) and authenticatorGetNextAssertion (section 6.3)

pub record Assertion : Type 0 where
  pub credential : List ℕ
  pub auth_data : List ℕ
  pub signature : List ℕ
  pub user : Option User
  pub number : Option ℕ
  pub user_selected : Option Bool
  pub large_blob_key : Option (List ℕ)

abbrev pub assertion_members : Members
assertion_members =
    listed (of.uint 1) false (record_of credential_members) (
    listed (of.uint 2) true some_bytes (
    listed (of.uint 3) true some_bytes (
    listed (of.uint 4) false (record_of user_members) (
    listed (of.uint 5) false (unsigned 1) (
    listed (of.uint 6) false a_truth (
    listed (of.uint 7) false some_bytes no_more))))))

-- with a credential's descriptor of this id, or without one
abbrev pub assertion_content : Option (List ℕ) → Assertion → Contents assertion_members
assertion_content id q = (
  option_map credential_content id,
  (q.auth_data, (q.signature, (option_map user_content q.user, (q.number, (q.user_selected, (q.large_blob_key, tt)))))),
)

-- The credential is the one that the reply tells. It may tell none where the request's allow list has exactly
-- one, whose id is `alone`: it is that one then.
abbrev pub IsCredential : Option (List ℕ) → Option (List ℕ) → List ℕ → Type 0
IsCredential alone (Some told) id = id ≡ told
IsCredential alone None id = alone ≡ Some id

abbrev pub TellsAssertion : Option (List ℕ) → Assertion → Item → Type 0
TellsAssertion alone q v = (told : Option (List ℕ)) × Tells (record_of assertion_members) (assertion_content told q) v × IsCredential alone told q.credential

-- ---- authenticatorGetInfo (section 6.4)

pub record Info : Type 0 where
  pub versions : List (List ℕ)
  pub extensions : Option (List (List ℕ))
  pub aaguid : List ℕ
  pub options : Option (List (List ℕ × Bool))
  pub max_msg_size : Option ℕ
  pub pin_uv_auth_protocols : Option (List ℕ)
  pub max_credential_count_in_list : Option ℕ
  pub max_credential_id_length : Option ℕ
  pub transports : Option (List (List ℕ))
  pub algorithms : Option (List Parameters)
  pub min_pin_length : Option ℕ
  pub firmware_version : Option ℕ
  pub remaining_discoverable_credentials : Option ℕ

abbrev pub info_members : Members
info_members =
    listed (of.uint 1) true (list_of a_text) (
    listed (of.uint 2) false (list_of a_text) (
    listed (of.uint 3) true (sized 16 16 faults.OverLimit some_bytes) (
    listed (of.uint 4) false truths (
    listed (of.uint 5) false (unsigned 0) (
    listed (of.uint 6) false (list_of (unsigned 0)) (
    listed (of.uint 7) false (unsigned 0) (
    listed (of.uint 8) false (unsigned 0) (
    listed (of.uint 9) false (list_of a_text) (
    listed (of.uint 10) false (list_of (record_of parameters_members)) (
    listed (of.uint 13) false (unsigned 0) (
    listed (of.uint 14) false (unsigned 0) (
    listed (of.uint 20) false (unsigned 0) no_more))))))))))))

abbrev pub info_content : Info → Contents info_members
info_content q = (
  q.versions,
  (
    q.extensions,
    (
      q.aaguid,
      (
        q.options,
        (
          q.max_msg_size,
          (
            q.pin_uv_auth_protocols,
            (
              q.max_credential_count_in_list,
              (
                q.max_credential_id_length,
                (
                  q.transports,
                  (
                    option_map (map parameters_content) q.algorithms,
                    (q.min_pin_length, (q.firmware_version, (q.remaining_discoverable_credentials, tt))),
                  ),
                ),
              ),
            ),
          ),
        ),
      ),
    ),
  ),
)

abbrev pub TellsInfo : Info → Item → Type 0
TellsInfo q v = Tells (record_of info_members) (info_content q) v

-- ---- all of them

-- the bytes are status 0 and the canonical encoding of a value that tells this
abbrev pub ReplyOf : (Item → Type 0) → List ℕ → Type 0
ReplyOf tells bs = (rest : List ℕ) × (bs ≡ 0 ∷ rest) × (v : Item) × Canon v rest × tells v

-- and no other reply of its kind
pub record IsReply {Q : Type 0} (tells : Q → Item → Type 0) (q : Q) (bs : List ℕ) : Type 0 where
  pub spelled : ReplyOf (tells q) bs
  pub only : (r : Q) → ReplyOf (tells r) bs → r ≡ q

-- what is answered in place of a reply; what follows a status that is not 0 is not looked at
abbrev pub Refused : {Q : Type 0} → (Q → Item → Type 0) → List ℕ → Error → Type 0
Refused tells bs errors.Memory = Unit {0}
Refused tells bs errors.Empty = bs ≡ []
Refused tells bs (errors.Refused s) = (rest : List ℕ) × (bs ≡ s ∷ rest) × (s ≢ 0)
Refused tells bs errors.NotCanonical = (rest : List ℕ) × (bs ≡ 0 ∷ rest) × ((v : Item) → Canon v rest → ⊥)
Refused {Q} tells bs errors.Shape = (rest : List ℕ) × (bs ≡ 0 ∷ rest) × (v : Item) × Canon v rest × ((q : Q) → tells q v → ⊥)
Refused tells bs _ = ⊥

-- ---- the value alone, for other messages of section 6

-- status 0 and this value's canonical encoding
pub record HasValue (bs : List ℕ) (v : Item) : Type 0 where
  pub rest : List ℕ
  pub status : bs ≡ 0 ∷ rest
  pub canon : Canon v rest

-- why they are not status 0 and a canonical encoding
abbrev pub HasNoValue : List ℕ → Error → Type 0
HasNoValue bs errors.Empty = bs ≡ []
HasNoValue bs (errors.Refused s) = (rest : List ℕ) × (bs ≡ s ∷ rest) × (s ≢ 0)
HasNoValue bs errors.NotCanonical = (rest : List ℕ) × (bs ≡ 0 ∷ rest) × ((v : Item) → Canon v rest → ⊥)
HasNoValue bs _ = ⊥
