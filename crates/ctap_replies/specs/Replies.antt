-- Replies: CTAP 2.1, sections 6.1 to 6.4 and 6.6, in the message encoding of section 8. That a credential is
-- always there, that a user is its id alone, and which members of getInfo are there, is this product's.
use Rattle.std.specs.Prelude.{◌≡◌, ◌≢◌, ℕ, List, [], ◌∷◌, Bool, true, false, Option, None, option_map, codes}
use Rattle.ccbor.specs.Item as of
use Rattle.ccbor.specs.Item.{Item}
use Rattle.ccbor.specs.Canon.{Canon}
use Rattle.ctap_encoding.specs.Table.{some_bytes, a_text, any_map, that_text, unsigned, truths, list_of, record_of, sized, Members, no_more, listed, gravest}
use Rattle.ctap_encoding.specs.Content.{Contents, item_of}
use Rattle.ctap_encoding.specs.declared.fault.Fault.TheVariants as faults
use Rattle.ctap_encoding.specs.declared.error.Error.{Error}
use Rattle.ctap_encoding.specs.declared.error.Error.TheVariants as errors
use Rattle.ctap_replies.specs.declared.reply.Kind.{Kind}
use Rattle.ctap_replies.specs.declared.reply.Kind.TheVariants as kinds

-- ---- parts

abbrev pub credential_members : Members
credential_members =
    listed (of.text (codes "id")) true (sized 1 64 faults.OverLimit some_bytes) (
    listed (of.text (codes "type")) true (that_text (codes "public-key")) no_more)

-- of a credential id
abbrev pub credential_content : List ℕ → Contents credential_members
credential_content id = (id, (tt, tt))

abbrev pub reply_user_members : Members
reply_user_members = listed (of.text (codes "id")) true (sized 1 64 faults.OverLimit some_bytes) no_more

abbrev pub reply_user_content : List ℕ → Contents reply_user_members
reply_user_content id = (id, tt)

-- ---- authenticatorMakeCredential (section 6.1.2)

pub record Creation : Type 0 where
  pub fmt : List ℕ
  pub auth_data : List ℕ
  pub statement : Item

abbrev pub creation_reply_members : Members
creation_reply_members =
    listed (of.uint 1) true a_text (
    listed (of.uint 2) true some_bytes (
    listed (of.uint 3) true any_map no_more))

abbrev pub creation_reply_content : Creation → Contents creation_reply_members
creation_reply_content q = (q.fmt, (q.auth_data, (q.statement, tt)))

abbrev pub creation_reply_item : Creation → Item
creation_reply_item q = item_of (record_of creation_reply_members) (creation_reply_content q)

-- ---- authenticatorGetAssertion (section 6.2.2)

pub record Assertion : Type 0 where
  pub credential : List ℕ
  pub auth_data : List ℕ
  pub signature : List ℕ
  pub user : Option (List ℕ)
  pub number : Option ℕ

abbrev pub assertion_reply_members : Members
assertion_reply_members =
    listed (of.uint 1) true (record_of credential_members) (
    listed (of.uint 2) true some_bytes (
    listed (of.uint 3) true some_bytes (
    listed (of.uint 4) false (record_of reply_user_members) (
    listed (of.uint 5) false (unsigned 2) no_more))))

abbrev pub assertion_reply_content : Assertion → Contents assertion_reply_members
assertion_reply_content q = (credential_content q.credential, (q.auth_data, (q.signature, (option_map reply_user_content q.user, (q.number, tt)))))

abbrev pub assertion_reply_item : Assertion → Item
assertion_reply_item q = item_of (record_of assertion_reply_members) (assertion_reply_content q)

-- authenticatorGetNextAssertion (section 6.3): the same without numberOfCredentials
abbrev pub next_reply_members : Members
next_reply_members =
    listed (of.uint 1) true (record_of credential_members) (
    listed (of.uint 2) true some_bytes (
    listed (of.uint 3) true some_bytes (
    listed (of.uint 4) false (record_of reply_user_members) no_more)))

-- ---- authenticatorGetInfo (section 6.4)

pub record Info : Type 0 where
  pub versions : List (List ℕ)
  pub aaguid : List ℕ
  pub options : List (List ℕ × Bool)
  pub max_msg_size : ℕ
  pub max_credential_count_in_list : ℕ
  pub max_credential_id_length : ℕ

abbrev pub info_members : Members
info_members =
    listed (of.uint 1) true (list_of a_text) (
    listed (of.uint 3) true (sized 16 16 faults.OverLimit some_bytes) (
    listed (of.uint 4) true truths (
    listed (of.uint 5) true (unsigned 0) (
    listed (of.uint 7) true (unsigned 0) (
    listed (of.uint 8) true (unsigned 0) no_more)))))

abbrev pub info_content : Info → Contents info_members
info_content q = (q.versions, (q.aaguid, (q.options, (q.max_msg_size, (q.max_credential_count_in_list, (q.max_credential_id_length, tt))))))

abbrev pub info_item : Info → Item
info_item q = item_of (record_of info_members) (info_content q)

-- ---- all commands

pub data ReplyMessage : Type 0 where
  creation_reply : Creation → ReplyMessage
  assertion_reply : Assertion → ReplyMessage
  next_reply : Assertion → ReplyMessage
  info_reply : Info → ReplyMessage
  reset_reply : ReplyMessage

-- the command that a reply answers
abbrev pub kind_of : ReplyMessage → Kind
kind_of (creation_reply r) = kinds.MakeCredential
kind_of (assertion_reply r) = kinds.GetAssertion
kind_of (next_reply r) = kinds.GetNextAssertion
kind_of (info_reply r) = kinds.GetInfo
kind_of reset_reply = kinds.Reset

-- the bytes are status 0 and the encoding of the map, which has no fault against its table
abbrev pub MapReply : Members → Item → List ℕ → Type 0
MapReply ms v bs = (rest : List ℕ) × (bs ≡ 0 ∷ rest) × Canon v rest × (gravest (record_of ms) v ≡ None)

abbrev pub ReplyOf : ReplyMessage → List ℕ → Type 0
ReplyOf (creation_reply r) bs = MapReply creation_reply_members (creation_reply_item r) bs
ReplyOf (assertion_reply r) bs = MapReply assertion_reply_members (assertion_reply_item r) bs
ReplyOf (next_reply r) bs = MapReply next_reply_members (assertion_reply_item r) bs
ReplyOf (info_reply r) bs = MapReply info_members (info_item r) bs
ReplyOf reset_reply bs = bs ≡ 0 ∷ []

-- what follows status 0 isn't one whole canonical value
abbrev pub IsNoValue : Kind → List ℕ → Type 0
IsNoValue kind rest = (kind ≢ kinds.Reset) × ((v : Item) → Canon v rest → ⊥)

-- it is a value with a fault against the table
abbrev pub IsNoReply : Members → List ℕ → Type 0
IsNoReply ms rest = (v : Item) × Canon v rest × (gravest (record_of ms) v ≢ None)

-- against the table of the command's reply; reset's reply has no map
abbrev pub HasOtherShape : Kind → List ℕ → Type 0
HasOtherShape kinds.MakeCredential rest = IsNoReply creation_reply_members rest
HasOtherShape kinds.GetAssertion rest = IsNoReply assertion_reply_members rest
HasOtherShape kinds.GetNextAssertion rest = IsNoReply next_reply_members rest
HasOtherShape kinds.GetInfo rest = IsNoReply info_members rest
HasOtherShape kinds.Reset rest = rest ≢ []

-- what is answered in place of a reply
abbrev pub ReplyRefused : Kind → List ℕ → Error → Type 0
ReplyRefused kind bs errors.Memory = Unit {0}
ReplyRefused kind bs errors.Empty = bs ≡ []
ReplyRefused kind bs (errors.Refused s) = (rest : List ℕ) × (bs ≡ s ∷ rest) × (s ≢ 0)
ReplyRefused kind bs errors.NotCanonical = (rest : List ℕ) × (bs ≡ 0 ∷ rest) × IsNoValue kind rest
ReplyRefused kind bs errors.Shape = (rest : List ℕ) × (bs ≡ 0 ∷ rest) × HasOtherShape kind rest
ReplyRefused kind bs _ = ⊥

-- the bytes are this reply to the command, and no other reply to it
pub record IsReply (kind : Kind) (q : ReplyMessage) (bs : List ℕ) : Type 0 where
  pub of_kind : kind_of q ≡ kind
  pub spelled : ReplyOf q bs
  pub only : (r : ReplyMessage) → kind_of r ≡ kind → ReplyOf r bs → r ≡ q
